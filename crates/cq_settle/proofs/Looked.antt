-- Which terms are to be looked at again as values are bound.
use Rattle.std.proofs.Common.{◌≡◌, ℕ, List, [], ◌∷◌, Bool, true, false, Option, None, Some, refl, sym, ◌∙◌, inl, inr, ◌⊎◌}
use Rattle.std.specs.Prelude.{Contains, ◌&&◌, is_some, is_none}
use Rattle.std.specs.List.{list_any}
use Rattle.spec_numbers.specs.Rational.{ℚ}
use Rattle.spec_linear.specs.Solution.{Has}
use Rattle.spec_terms.specs.Term.{Subst, Occurs, apply}
use Rattle.spec_terms.specs.Variables.{variables}
use Rattle.spec_terms.proofs.Listed.{occurs_listed, listed_occurs}
use Rattle.spec_numbers.specs.Texts.{Text}
use Rattle.spec_syntax.specs.Trees.{Tree}
use Rattle.spec_branch.specs.Relations.{Waits, lin}
use Rattle.cq_attr.specs.Attributes.{Waiting}
use Rattle.cq_attr.proofs.Elements.{contains_cases, contains_none}
use Rattle.cq_settle.specs.Underway.{WaitsOrToDo, IsToDo}
use Rattle.cq_settle.proofs.Composed.{first_of, together}
use Rattle.cq_settle.proofs.Numeric.{found_any, any_found, contains_of_has}
use Rattle.cq_settle.proofs.Values.{lin_agree}

pub has_of_contains : (xs : List ℕ) (v : ℕ) → Contains xs v → Has v xs
has_of_contains [] v h = contains_none v h
has_of_contains (x ∷ xs) v h = elim (contains_cases x xs v h) [ inl e ↦ inl (sym e) | inr m ↦ inr (has_of_contains xs v m) ]

module _ (f g : ℕ → Option ℚ) where
  -- the variable gets a value
  abbrev gets : ℕ → Bool
  gets v = is_some (g v) && is_none (f v)

  pub record Gets (t : Tree) : Type 0 where
    pub variable : ℕ
    pub occurs : Occurs variable t
    pub value : ℚ
    pub later : g variable ≡ Some value
    pub none_before : f variable ≡ None

  values_of : (o r : Option ℚ) → (is_some r && is_none o) ≡ true → (q : ℚ) × (r ≡ Some q) × (o ≡ None)
  values_of None (Some q) e = (q, refl, refl)
  values_of None None e = cc
  values_of (Some x) None e = cc
  values_of (Some x) (Some q) e = cc

  no_values_of : (o r : Option ℚ) → (is_some r && is_none o) ≡ false → first_of o r ≡ o
  no_values_of None None e = refl
  no_values_of None (Some q) e = cc
  no_values_of (Some x) r e = refl

  not_found : (xs : List ℕ) (v : ℕ) (b : Bool) → gets v ≡ b → list_any gets xs ≡ false → Has v xs → gets v ≡ false
  not_found xs v true e n h = let s : true ≡ false = sym (any_found gets xs v h e) ∙ n in cc
  not_found xs v false e n h = e

  pub gets_or_same : (t : Tree) (b : Bool) → list_any gets (variables t) ≡ b → Gets t ⊎ ((v : ℕ) → Occurs v t → f v ≡ together f g v)
  gets_or_same t true e =
      let r = found_any gets (variables t) e in
      let q = values_of (f r.item) (g r.item) r.passes in
      inl (record { variable = r.item; occurs = listed_occurs t r.item (contains_of_has (variables t) r.item r.among); value = q.0; later = q.1; none_before = q.2 })
  gets_or_same t false e =
      inr (λ v o. sym (no_values_of (f v) (g v) (not_found (variables t) v (gets v) refl e (has_of_contains (variables t) v (occurs_listed t v o)))))

  module _ (s : Subst Text) (numbers bound more : List ℕ) (still : (v : ℕ) → Contains bound v → Contains more v) (told : (v : ℕ) (q : ℚ) → g v ≡ Some q → Contains more v) where
    still_to_do : (k : Waiting) → IsToDo numbers bound k → IsToDo numbers more k
    still_to_do k (inl h) = inl h
    still_to_do k (inr h) = inr (h.0, h.1, still h.0 h.2)

    one_looked : (k : Waiting) (t : Tree) → ((v : ℕ) → Occurs v (apply s t) → f v ≡ None → Contains k.watched v) → lin f (apply s t) ≡ Waits
        → Gets (apply s t) ⊎ ((v : ℕ) → Occurs v (apply s t) → f v ≡ together f g v) → WaitsOrToDo s (together f g) numbers more k t
    one_looked k t w e (inl r) = inr (inr (r.variable, w r.variable r.occurs r.none_before, told r.variable r.value r.later))
    one_looked k t w e (inr h) = inl (sym (lin_agree f (together f g) (apply s t) h) ∙ e)

    pub looked_further : (k : Waiting) (t : Tree) → ((v : ℕ) → Occurs v (apply s t) → f v ≡ None → Contains k.watched v) → WaitsOrToDo s f numbers bound k t
        → WaitsOrToDo s (together f g) numbers more k t
    looked_further k t w (inl e) = one_looked k t w e (gets_or_same (apply s t) (list_any gets (variables (apply s t))) refl)
    looked_further k t w (inr d) = inr (still_to_do k d)
