-- The variables of a term in the order of first occurrence, and terms renamed in that order.
use Rattle.std.specs.Prelude.{ℕ, zero, suc, ◌+◌, ◌-◌, List, [], ◌∷◌, ◌++◌, cond, ◌==◌, slice_index}
use Rattle.std.specs.List.{list_any, position_or_len}
use Rattle.spec_terms.specs.Term.{Term, Terms, Subst, Var, Number, Name, Compound, one, more, apply}

-- the variable at the end of the list, unless it is there
abbrev pub with_variable : List ℕ → ℕ → List ℕ
with_variable vs v = cond (list_any (λ w. w == v) vs) vs (vs ++ v ∷ [])

-- the variables seen so far, then those of the term that are new
abbrev mutual
  pub variables_after : {A : Type 0} → List ℕ → Term A → List ℕ
  variables_after vs (Var v) = with_variable vs v
  variables_after vs (Number q) = vs
  variables_after vs (Name a) = vs
  variables_after vs (Compound f ts) = variables_in vs ts

  pub variables_in : {A : Type 0} → List ℕ → Terms A → List ℕ
  variables_in vs (one t) = variables_after vs t
  variables_in vs (more t ts) = variables_in (variables_after vs t) ts

-- the variables of a term by first occurrence
abbrev pub variables : {A : Type 0} → Term A → List ℕ
variables t = variables_after [] t

-- the variables of a list numbered from n on, by their places
abbrev pub numbered_from : {A : Type 0} → ℕ → List ℕ → Subst A
numbered_from n vs v = Var (n + position_or_len (λ w. w == v) vs)

-- and back
abbrev pub original_from : {A : Type 0} → ℕ → List ℕ → Subst A
original_from n vs k = Var (slice_index vs (k - n))

-- the term with its variables numbered from n on by first occurrence
abbrev pub renamed_from : {A : Type 0} → ℕ → Term A → Term A
renamed_from n t = apply (numbered_from n (variables t)) t

-- n, n + 1 and so on, so many numbers
abbrev pub counted_from : ℕ → ℕ → List ℕ
counted_from n zero = []
counted_from n (suc k) = n ∷ counted_from (suc n) k
