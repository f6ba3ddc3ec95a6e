-- Those of some variables that are not among others.
use Rattle.std.specs.Prelude.{◌↔◌, ℕ, List, Bool, filter, not, nat_eq}
use Rattle.std.specs.List.{list_any}
use Rattle.spec_linear.specs.Solution.{Constraint, Has, SomeMentions}
use Rattle.spec_linear.specs.Echelon.{Solved}
use Rattle.spec_projection.specs.Others.{AreAscending}

-- whether x is one of them
abbrev pub is_among : List ℕ → ℕ → Bool
is_among xs x = list_any (nat_eq x) xs

-- those of the second list that are not in the first, in their order
abbrev pub others_than : List ℕ → List ℕ → List ℕ
others_than taken xs = filter (λ x. not (is_among taken x)) xs

-- the equations that are solved for one of these, in their order
abbrev pub solved_for : List ℕ → List Solved → List Solved
solved_for xs es = filter (λ e. is_among xs e.variable) es

-- the variables of the rows that are no targets, the oldest first
pub record AreUnwanted (targets : List ℕ) (rows : List Constraint) (xs : List ℕ) : Type 0 where
  pub oldest_first : AreAscending xs
  pub those : (x : ℕ) → Has x xs ↔ (SomeMentions x rows × (Has x targets → ⊥))
