-- Two solved forms of a list in one order solve for the same variables, each by the same form.
use Rattle.std.proofs.Common.{◌≡◌, ℕ, List, Option, Some, None, refl, ap, sym, subst, ◌∙◌}
use Rattle.spec_numbers.specs.Rational.{ℚ, 0ℚ}
use Rattle.spec_numbers.specs.Sums.{Mentions, unit}
use Rattle.spec_numbers.proofs.Sign.{one_not_zero}
use Rattle.spec_numbers.proofs.Sums.{unit-self, unit-other}
use Rattle.spec_linear.specs.Form.{Linear, value_at}
use Rattle.spec_linear.specs.Solution.{Constraint, Has}
use Rattle.spec_linear.specs.Echelon.{variables}
use Rattle.spec_linear.specs.SolvedForm.{IsSolvedForm}
use Rattle.spec_linear.proofs.Orders.{in_order-once, in_order-apart, mentions-has}
use Rattle.spec_linear.proofs.Filled.{value_at-agrees, filled, filled-free, filled-solved, filled-satisfies}
use Rattle.spec_linear.proofs.SameProducts.{forms_same}

module _ (order : List ℕ) (l : List Constraint) (solved others : ℕ → Option Linear) (s : IsSolvedForm order l solved) (o : IsSolvedForm order l others) where
  -- what fills in the one form gives a variable the value of the other's form
  value-filled : (a : ℕ → ℚ) (x : ℕ) (f : Linear) → solved x ≡ Some f → filled others a x ≡ value_at (filled others a) f
  value-filled a x f e = (s.same (filled others a)).0 (filled-satisfies order l others o a) x f e

  -- a variable behind x in the form of x has the same value whatever x is
  same_behind : (x y : ℕ) (f : Linear) → solved x ≡ Some f → Mentions y f.products → filled others (unit x) y ≡ filled others (λ z. 0ℚ) y
  same_behind x y f e m = go (others y) refl
    where
      go : (r : Option Linear) → others y ≡ r → filled others (unit x) y ≡ filled others (λ z. 0ℚ) y
      go None n =
          filled-free others (unit x) y n
          ∙ unit-other x y (λ w. in_order-once order x (variables f.products) s.distinct (s.before x f e).ordered (subst (λ z. Has z (variables f.products)) (sym w) (mentions-has y f.products m)))
          ∙ sym (filled-free others (λ z. 0ℚ) y n)
      go (Some g) k =
          filled-solved others (unit x) y g k
          ∙ value_at-agrees (unit x) (λ z. 0ℚ) g (λ z h. unit-other x z (λ w.
          in_order-apart order x y (variables f.products) (variables g.products) s.distinct (s.before x f e).ordered (mentions-has y f.products m)
          (o.before y g k).ordered (subst (λ u. Has u (variables g.products)) (sym w) (mentions-has z g.products h))))
          ∙ sym (filled-solved others (λ z. 0ℚ) y g k)

  -- so x is not free in the other: its form has one value where it would have two
  not_free : (x : ℕ) (f : Linear) → solved x ≡ Some f → others x ≡ None → ⊥
  not_free x f e n = one_not_zero (
      sym (unit-self x) ∙ sym (filled-free others (unit x) x n) ∙ value-filled (unit x) x f e
      ∙ value_at-agrees (filled others (unit x)) (filled others (λ z. 0ℚ)) f (λ y m. same_behind x y f e m)
      ∙ sym (value-filled (λ z. 0ℚ) x f e) ∙ filled-free others (λ z. 0ℚ) x n)

  -- what is free in the other is free
  free_too : (x : ℕ) → others x ≡ None → solved x ≡ None
  free_too x n = go (solved x) refl
    where
      go : (r : Option Linear) → solved x ≡ r → solved x ≡ None
      go None e = e
      go (Some f) e = absurd (not_free x f e n)

module _ (order : List ℕ) (l : List Constraint) (solved others : ℕ → Option Linear) (s : IsSolvedForm order l solved) (o : IsSolvedForm order l others) where
  -- at any values of the free variables both forms are what the list makes of x
  values_same : (x : ℕ) (f g : Linear) → solved x ≡ Some f → others x ≡ Some g → (a : ℕ → ℚ) → value_at a f ≡ value_at a g
  values_same x f g e k a =
      sym (filled-solved solved a x f e)
      ∙ value-filled order l others solved o s a x g k
      ∙ value_at-agrees (filled solved a) a g (λ y m. filled-free solved a y (free_too order l solved others s o y (o.free x y g k m)))

  pub solved_same : (x : ℕ) → solved x ≡ others x
  solved_same x = go (solved x) (others x) refl refl
    where
      go : (p q : Option Linear) → solved x ≡ p → others x ≡ q → solved x ≡ others x
      go None None e k = e ∙ sym k
      go (Some f) None e k = absurd (not_free order l solved others s o x f e k)
      go None (Some g) e k = absurd (not_free order l others solved o s x g k e)
      go (Some f) (Some g) e k = e ∙ ap Some (forms_same order x f g s.distinct (s.before x f e) (o.before x g k) (values_same x f g e k)) ∙ sym k
