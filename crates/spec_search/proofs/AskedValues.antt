-- Questions to the linear constraints are answered by truth and values on the solutions.
use Rattle.std.proofs.Common.{◌≡◌, ℕ, List, [], ◌∷◌, Bool, true, false, cond, Option, Some, None, refl, sym, ap, ◌∙◌, subst}
use Rattle.spec_numbers.specs.Rational.{ℚ, neg_ℚ, ◌≤ℚ◌, ◌<ℚ◌}
use Rattle.spec_numbers.proofs.Ring.{var, minus}
use Rattle.spec_numbers.proofs.RationalLemmas.{ring}
use Rattle.spec_numbers.proofs.Order.{neg_le, neg_lt}
use Rattle.spec_linear.specs.Form.{Linear, value_at, negated_form}
use Rattle.spec_linear.specs.Solution.{Constraint, Point, number, Solves, Solvable, Fixes}
use Rattle.spec_linear.proofs.Values.{value_at-negated_form}
use Rattle.spec_linear.proofs.Points.{holds_same}
use Rattle.spec_syntax.specs.Trees.{Tree}
use Rattle.spec_branch.specs.Expressions.{form_of, has_zero_divisor}
use Rattle.spec_branch.specs.Relations.{Lin, Is, Waits, False, lin, form_or_waits, lin_expression}
use Rattle.spec_branch.specs.Values.{value_of, IsTrueAt}
use Rattle.spec_branch.proofs.AtPoints.{agrees}
use Rattle.spec_branch.proofs.FormValues.{form_value}
use Rattle.spec_branch.proofs.Truth.{linear_holds, false_nowhere}
use Rattle.spec_search.specs.Builtins.{Least, Greatest}
use Rattle.spec_search.specs.Steps.{IsEntailed, IsBroken, IsExtent, HasNoExtent}
use Rattle.spec_search.specs.Asked.{Takes, IsValued, IsLeastUpperBound, IsGreatestLowerBound, HasNoUpperBound, HasNoLowerBound}

module _ (l : List Constraint) (fixed : ℕ → Option ℚ) (fixes : Fixes l fixed) where
  -- ---- entailed

  pub entailed_true : (m : Tree) → IsEntailed l (lin fixed m) → (p : Point) → Solves p l → IsTrueAt (number p) m
  entailed_true m h p s = go (lin fixed m) refl h
    where
      go : (r : Lin Constraint) → lin fixed m ≡ r → IsEntailed l r → IsTrueAt (number p) m
      go (Is c) e k = (linear_holds fixed (number p) (agrees l fixed fixes p s) m c e).0 ((holds_same p c).0 (k p s))
      go Waits e k = absurd k
      go False e k = absurd k

  pub broken_untrue : (m : Tree) → Solvable l → IsBroken l (lin fixed m)
      → (p : Point) × Solves p l × (IsTrueAt (number p) m → ⊥)
  broken_untrue m some h = go (lin fixed m) refl h
    where
      go : (r : Lin Constraint) → lin fixed m ≡ r → IsBroken l r → (p : Point) × Solves p l × (IsTrueAt (number p) m → ⊥)
      go (Is c) e k = (k.point, k.solves, λ t. k.breaks ((holds_same k.point c).1 ((linear_holds fixed (number k.point) (agrees l fixed fixes k.point k.solves) m c e).1 t)))
      go Waits e k = absurd k
      go False e k = (some.0, some.1, false_nowhere fixed (number some.0) (agrees l fixed fixes some.0 some.1) m e)

  -- ---- values

  linear_form : (e : Tree) (f : Linear) → lin_expression fixed e ≡ Is f → form_of fixed e ≡ Some f
  linear_form e f h = go (has_zero_divisor fixed e) (form_of fixed e) refl h
    where
      go : (b : Bool) (o : Option Linear) → form_of fixed e ≡ o → cond b False (form_or_waits o) ≡ Is f → form_of fixed e ≡ Some f
      go true o d h = cc
      go false None d h = cc
      go false (Some g) d h =
          let same : g ≡ f = cc in
          d ∙ ap (λ (x : Linear). Some x) same

  module _ (e : Tree) (f : Linear) (is : lin_expression fixed e ≡ Is f) where
    value : (p : Point) → Solves p l → value_of (number p) e ≡ Some (value_at (number p) f)
    value p s = form_value (number p) fixed (agrees l fixed fixes p s) e f (linear_form e f is)

    valued : IsValued l e
    valued p s = (value_at (number p) f, value p s)

    takes : (p : Point) → Solves p l → Takes l e (value_at (number p) f)
    takes p s = record { point = p; solves = s; value = value p s }

    taken : (v : ℚ) (t : Takes l e v) → value_at (number t.point) f ≡ v
    taken v t =
        let h : Some (value_at (number t.point) f) ≡ Some v = sym (value t.point t.solves) ∙ t.value in
        cc

    pub greatest_bounds : (q : ℚ) → IsExtent Greatest l f q → IsLeastUpperBound l e q
    greatest_bounds q h = record {
      valued = valued;
      bound = λ v t. subst (λ (x : ℚ). x ≤ℚ q) (taken v t) (h.bound t.point t.solves);
      least = λ r k. (let x = h.least r k in (value_at (number x.0) f, takes x.0 x.1, x.2));
    }

    pub greatest_none : HasNoExtent Greatest l f → HasNoUpperBound l e
    greatest_none h = record {
      valued = valued;
      more = λ r. (let x = h.more r in (value_at (number x.0) f, takes x.0 x.1, x.2));
    }

    twice : (q : ℚ) → neg_ℚ (neg_ℚ q) ≡ q
    twice q = ring (q ∷ []) (minus (minus (var 0))) (var 0) refl

    below : (q r : ℚ) → neg_ℚ q ≤ℚ neg_ℚ r → r ≤ℚ q
    below q r h = subst (λ (x : ℚ). r ≤ℚ x) (twice q) (subst (λ (x : ℚ). x ≤ℚ neg_ℚ (neg_ℚ q)) (twice r) (neg_le h))

    under : (q r : ℚ) → neg_ℚ q <ℚ neg_ℚ r → r <ℚ q
    under q r h = subst (λ (x : ℚ). r <ℚ x) (twice q) (subst (λ (x : ℚ). x <ℚ neg_ℚ (neg_ℚ q)) (twice r) (neg_lt h))

    -- a negated value above a negated number
    turned : (r : ℚ) (p : Point) → neg_ℚ r <ℚ value_at (number p) (negated_form f) → value_at (number p) f <ℚ r
    turned r p h = under r (value_at (number p) f) (subst (λ (x : ℚ). neg_ℚ r <ℚ x) (value_at-negated_form (number p) f) h)

    pub least_bounds : (q : ℚ) → IsExtent Least l f q → IsGreatestLowerBound l e q
    least_bounds q h = record {
      valued = valued;
      bound = λ v t. below v q (subst (λ (x : ℚ). x ≤ℚ neg_ℚ q) (value_at-negated_form (number t.point) f ∙ ap neg_ℚ (taken v t)) (h.bound t.point t.solves));
      greatest = λ r k. (let x = h.least (neg_ℚ r) (neg_lt k) in (value_at (number x.0) f, takes x.0 x.1, turned r x.0 x.2));
    }

    pub least_none : HasNoExtent Least l f → HasNoLowerBound l e
    least_none h = record {
      valued = valued;
      less = λ r. (let x = h.more (neg_ℚ r) in (value_at (number x.0) f, takes x.0 x.1, turned r x.0 x.2));
    }
