-- The variables that an answer is wanted of are different ones.
use Rattle.std.proofs.Common.{◌≡◌, ◌⊎◌, inl, inr, ℕ, List, [], ◌∷◌, ◌++◌, Bool, true, false, cond, not, map, refl, sym}
use Rattle.std.specs.Prelude.{filter, fold, ◌==◌}
use Rattle.std.specs.List.{list_any}
use Rattle.spec_linear.specs.Solution.{Has}
use Rattle.spec_linear.specs.Echelon.{AreDistinct}
use Rattle.spec_numbers.proofs.Tests.{nat_eq-other, neither_is}
use Rattle.spec_terms.specs.Term.{Term, Terms, Var, Number, Name, Compound, one, more}
use Rattle.spec_terms.specs.Variables.{with_variable, variables_after, variables_in}
use Rattle.spec_syntax.specs.TextTokens.{VariableName}
use Rattle.spec_syntax.specs.Trees.{Tree}
use Rattle.spec_branch.specs.Branch.{State}
use Rattle.spec_branch.specs.Settling.{is_bound}
use Rattle.spec_answers.specs.Lines.{is_hidden}
use Rattle.spec_answers.specs.Targets.{query_variables, free_queries, shown_terms, wanted}

not_any : (v : ℕ) (vs : List ℕ) → list_any (λ w. w == v) vs ≡ false → Has v vs → ⊥
not_any v [] e h = h
not_any v (w ∷ vs) e h =
    let n = neither_is (w == v) (list_any (λ u. u == v) vs) e in
    elim h [ inl d ↦ nat_eq-other w v n.0 (sym d) | inr k ↦ not_any v vs n.1 k ]

has_last : (x v : ℕ) (vs : List ℕ) → Has x (vs ++ v ∷ []) → Has x vs ⊎ (x ≡ v)
has_last x v [] (inl e) = inr e
has_last x v [] (inr h) = absurd h
has_last x v (w ∷ vs) (inl e) = inl (inl e)
has_last x v (w ∷ vs) (inr h) = elim (has_last x v vs h) [ inl k ↦ inl (inr k) | inr e ↦ inr e ]

distinct_last : (v : ℕ) (vs : List ℕ) → AreDistinct vs → (Has v vs → ⊥) → AreDistinct (vs ++ v ∷ [])
distinct_last v [] d n = ((λ h. h), tt)
distinct_last v (w ∷ vs) d n = (
  (λ h. elim (has_last w v vs h) [ inl k ↦ d.0 k | inr e ↦ n (inl (sym e)) ]),
  distinct_last v vs d.1 (λ h. n (inr h)),
)

distinct_with : (vs : List ℕ) (v : ℕ) → AreDistinct vs → AreDistinct (with_variable vs v)
distinct_with vs v d = go (list_any (λ w. w == v) vs) refl
  where
    go : (b : Bool) → list_any (λ w. w == v) vs ≡ b → AreDistinct (cond b vs (vs ++ v ∷ []))
    go true e = d
    go false e = distinct_last v vs d (not_any v vs e)

module _ {A : Type 0} where
  mutual
    distinct_after : (vs : List ℕ) (t : Term A) → AreDistinct vs → AreDistinct (variables_after vs t)
    distinct_after vs (Var v) d = distinct_with vs v d
    distinct_after vs (Number q) d = d
    distinct_after vs (Name a) d = d
    distinct_after vs (Compound f ts) d = distinct_in vs ts d

    distinct_in : (vs : List ℕ) (ts : Terms A) → AreDistinct vs → AreDistinct (variables_in vs ts)
    distinct_in vs (one t) d = distinct_after vs t d
    distinct_in vs (more t ts) d = distinct_in (variables_after vs t) ts (distinct_after vs t d)

distinct_terms : (vs : List ℕ) (ts : List Tree) → AreDistinct vs → AreDistinct (fold variables_after vs ts)
distinct_terms vs [] d = d
distinct_terms vs (t ∷ ts) d = distinct_terms (variables_after vs t) ts (distinct_after vs t d)

-- ---- names that pass a test

abbrev numbers : List VariableName → List ℕ
numbers names = map (λ n. n.number) names

filtered_has : (test : VariableName → Bool) (names : List VariableName) (x : ℕ) → Has x (numbers (filter test names)) → Has x (numbers names)
filtered_has test [] x h = h
filtered_has test (n ∷ names) x h = go (test n) h (filtered_has test names x)
  where
    go : (b : Bool) → Has x (numbers (cond b (n ∷ filter test names) (filter test names))) → (Has x (numbers (filter test names)) → Has x (numbers names)) → Has x (numbers (n ∷ names))
    go true (inl e) rest = inl e
    go true (inr k) rest = inr (rest k)
    go false k rest = inr (rest k)

filtered_distinct : (test : VariableName → Bool) (names : List VariableName) → AreDistinct (numbers names) → AreDistinct (numbers (filter test names))
filtered_distinct test [] d = d
filtered_distinct test (n ∷ names) d = go (test n) (filtered_distinct test names d.1)
  where
    go : (b : Bool) → AreDistinct (numbers (filter test names)) → AreDistinct (numbers (cond b (n ∷ filter test names) (filter test names)))
    go true k = ((λ h. d.0 (filtered_has test names n.number h)), k)
    go false k = k

pub wanted_distinct : (names : List VariableName) (st : State) → AreDistinct (map (λ n. n.number) names) → AreDistinct (wanted names st)
wanted_distinct names st d =
    distinct_terms (numbers (free_queries names st)) (shown_terms names st)
    (filtered_distinct (λ n. not (is_bound st.bindings n.number)) (query_variables names) (filtered_distinct (λ n. not (is_hidden n.name)) names d))
