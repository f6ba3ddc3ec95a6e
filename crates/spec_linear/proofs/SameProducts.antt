-- Products in one order of distinct variables are told apart by their sums, and forms by their values.
use Rattle.std.proofs.Common.{◌≡◌, ◌≢◌, ℕ, List, [], ◌∷◌, pos, refl, ap, ap₂, sym, subst, ◌∙◌, inl, inr}
use Rattle.std.specs.List.{AllByRecursion}
use Rattle.spec_numbers.specs.Rational.{ℚ, 0ℚ, ◌+ℚ◌, ◌*ℚ◌, ◌-ℚ◌}
use Rattle.spec_numbers.specs.Sums.{Monomial, Mentions, sum_at, unit}
use Rattle.spec_numbers.proofs.Ring.{var, int, ◌⊕◌, ◌⊗◌, minus}
use Rattle.spec_numbers.proofs.RationalLemmas.{ring}
use Rattle.spec_numbers.proofs.Sums.{sum_at-agrees, sum_at-nowhere, unit-self, unit-other}
use Rattle.spec_linear.specs.Form.{Linear, value_at}
use Rattle.spec_linear.specs.Solution.{Has}
use Rattle.spec_linear.proofs.Ordered.{product_same, form_same, constant_is}
use Rattle.spec_linear.specs.Echelon.{AreDistinct, InOrder, variables, IsBefore}
use Rattle.spec_linear.proofs.Orders.{in_order-has, in_order-once, in_order-rest, mentions-has}

pub cancelled : (c p q : ℚ) → c +ℚ p ≡ c +ℚ q → p ≡ q
cancelled c p q e =
    ring (c ∷ p ∷ []) (var 1) ((var 0 ⊕ var 1) ⊕ minus (var 0)) refl ∙ ap (λ r. r -ℚ c) e
    ∙ ring (c ∷ q ∷ []) ((var 0 ⊕ var 1) ⊕ minus (var 0)) (var 1) refl

-- ---- a unit tells the factor of its variable

unit-nowhere : (x : ℕ) (s : List Monomial) → (Mentions x s → ⊥) → sum_at (unit x) s ≡ 0ℚ
unit-nowhere x s n = sum_at-agrees (unit x) (λ y. 0ℚ) s (λ y k. unit-other x y (λ e. n (subst (λ z. Mentions z s) (sym e) k))) ∙ sum_at-nowhere s

unit-first : (m : Monomial) (s : List Monomial) → (Mentions m.variable s → ⊥) → sum_at (unit m.variable) (m ∷ s) ≡ m.factor
unit-first m s n =
    ap₂ (λ v w. m.factor *ℚ v +ℚ w) (unit-self m.variable) (unit-nowhere m.variable s n)
    ∙ ring (m.factor ∷ []) (var 0 ⊗ int (pos 1) ⊕ int (pos 0)) (var 0) refl

-- a first product stands once, where the order has its variable once
once : (order : List ℕ) (m : Monomial) (s : List Monomial) → AreDistinct order → InOrder order (variables (m ∷ s)) → Mentions m.variable s → ⊥
once order m s d i k = in_order-once order m.variable (variables s) d i (mentions-has m.variable s k)

-- products with the same sums don't lack the variable of a first product
not_lacked : (order : List ℕ) (m : Monomial) (s t : List Monomial) → AreDistinct order → InOrder order (variables (m ∷ s)) → m.factor ≢ 0ℚ
    → ((a : ℕ → ℚ) → sum_at a (m ∷ s) ≡ sum_at a t) → (Mentions m.variable t → ⊥) → ⊥
not_lacked order m s t d i n e k = n (sym (unit-first m s (once order m s d i)) ∙ e (unit m.variable) ∙ unit-nowhere m.variable t k)

-- what stands in the rest of the order lacks the first variable
lacks : (v x : ℕ) (order : List ℕ) (t : List Monomial) → (Has v order → ⊥) → x ≡ v → InOrder order (variables t) → Mentions x t → ⊥
lacks v x order t n e i k = n (subst (λ z. Has z order) e (in_order-has order (variables t) i x (mentions-has x t k)))

abbrev AreNonzero : List Monomial → Type 0
AreNonzero s = AllByRecursion (λ m. m.factor ≢ 0ℚ) s

-- ---- the same sums

module _ (v : ℕ) (order : List ℕ) (d : AreDistinct (v ∷ order)) (m n : Monomial) (s t : List Monomial) (is : m.variable ≡ v) (it : n.variable ≡ v)
    (i : InOrder order (variables s)) (j : InOrder order (variables t)) (same : (a : ℕ → ℚ) → sum_at a (m ∷ s) ≡ sum_at a (n ∷ t)) where
  first_same : m ≡ n
  first_same = product_same m n (is ∙ sym it) (
      sym (unit-first m s (lacks v m.variable order s d.0 is i)) ∙ same (unit m.variable)
      ∙ ap (λ x. sum_at (unit x) (n ∷ t)) (is ∙ sym it) ∙ unit-first n t (lacks v n.variable order t d.0 it j))

  rest_same : (a : ℕ → ℚ) → sum_at a s ≡ sum_at a t
  rest_same a = cancelled (m.factor *ℚ a m.variable) (sum_at a s) (sum_at a t) (same a ∙ ap (λ (p : Monomial). p.factor *ℚ a p.variable +ℚ sum_at a t) (sym first_same))

products_same : (order : List ℕ) (s t : List Monomial) → AreDistinct order → InOrder order (variables s) → InOrder order (variables t) → AreNonzero s → AreNonzero t
    → ((a : ℕ → ℚ) → sum_at a s ≡ sum_at a t) → s ≡ t
products_same order [] [] d i j k l e = refl
products_same order (m ∷ s) [] d i j k l e = absurd (not_lacked order m s [] d i k.0 e (λ w. w))
products_same order [] (n ∷ t) d i j k l e = absurd (not_lacked order n t [] d j l.0 (λ a. sym (e a)) (λ w. w))
products_same [] (m ∷ s) (n ∷ t) d i j k l e = absurd i
products_same (v ∷ order) (m ∷ s) (n ∷ t) d (inl i) (inl j) k l e =
    ap₂ (λ (p : Monomial) r. p ∷ r) (first_same v order d m n s t i.0 j.0 i.1 j.1 e)
    (products_same order s t d.1 i.1 j.1 k.1 l.1 (rest_same v order d m n s t i.0 j.0 i.1 j.1 e))
products_same (v ∷ order) (m ∷ s) (n ∷ t) d (inl i) (inr j) k l e =
    absurd (not_lacked (v ∷ order) m s (n ∷ t) d (inl i) k.0 e (lacks v m.variable order (n ∷ t) d.0 i.0 j))
products_same (v ∷ order) (m ∷ s) (n ∷ t) d (inr i) (inl j) k l e =
    absurd (not_lacked (v ∷ order) n t (m ∷ s) d (inl j) l.0 (λ a. sym (e a)) (lacks v n.variable order (m ∷ s) d.0 j.0 i))
products_same (v ∷ order) (m ∷ s) (n ∷ t) d (inr i) (inr j) k l e = products_same order (m ∷ s) (n ∷ t) d.1 i j k l e

-- ---- the same values

pub forms_same : (order : List ℕ) (x : ℕ) (f g : Linear) → AreDistinct order → IsBefore order x f.products → IsBefore order x g.products
    → ((a : ℕ → ℚ) → value_at a f ≡ value_at a g) → f ≡ g
forms_same order x f g d b c e =
    let k : f.constant ≡ g.constant = sym (constant_is f) ∙ e (λ y. 0ℚ) ∙ constant_is g in
    form_same f g
    (products_same order f.products g.products d (in_order-rest order x (variables f.products) b.ordered) (in_order-rest order x (variables g.products) c.ordered) b.nonzero c.nonzero
    (λ a. cancelled f.constant (sum_at a f.products) (sum_at a g.products) (e a ∙ ap (λ r. r +ℚ sum_at a g.products) (sym k))))
    k
