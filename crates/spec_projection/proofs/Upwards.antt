-- How far upwards rows of one variable hold: without end, or up to a number.
use Rattle.std.proofs.Common.{◌≡◌, ◌⊎◌, inl, inr, ℕ, List, [], ◌∷◌, pos, refl, ap, sym, subst, ◌∙◌}
use Rattle.std.specs.Prelude.{⊤}
use Rattle.spec_numbers.specs.Rational.{ℚ, 0ℚ, 1ℚ, ◌+ℚ◌, ◌-ℚ◌, ◌*ℚ◌, neg_ℚ, inv_ℚ, IsPositive, IsNotNegative, ◌≤ℚ◌, ◌<ℚ◌}
use Rattle.spec_numbers.proofs.Ring.{var, int, ◌⊕◌, ◌⊗◌, minus}
use Rattle.spec_numbers.proofs.RationalLemmas.{ring}
use Rattle.spec_numbers.proofs.Sign.{pos_add, nonneg_add, pos_mul, nonneg_mul, pos_nonneg, pos_one, Sign, is_zero, is_pos, is_neg, sign, inv_mul, inv_pos}
use Rattle.spec_numbers.proofs.Order.{le_refl, lt_trans, lt_le_trans, lt_or_le}
use Rattle.spec_linear.specs.declared.Relation.{Relation}
use Rattle.spec_linear.specs.declared.Relation.TheVariants.{Eq, Gt, Ge, Ne}
use Rattle.spec_linear.specs.Solution.{Constraint, Meets}
use Rattle.spec_projection.specs.Elimination.{IsInequality, coefficient}
use Rattle.spec_projection.specs.Partial.{AreInequalities}
use Rattle.spec_projection.proofs.Between.{meets_positive, meets_weakly}

-- from q on P holds without end, or up to some number and nowhere above it
pub data Upwards (P : ℚ → Type 0) (q : ℚ) : Type 0 where
  on : ((r : ℚ) → q ≤ℚ r → P r) → Upwards P q
  up_to : (b : ℚ) → q ≤ℚ b → ((r : ℚ) → P r → r ≤ℚ b) → ((r : ℚ) → q ≤ℚ r → r <ℚ b → P r) → Upwards P q

both : (P Q : ℚ → Type 0) (q : ℚ) → Upwards P q → Upwards Q q → Upwards (λ r. P r × Q r) q
both P Q q (on f) (on g) = on (λ r h. (f r h, g r h))
both P Q q (on f) (up_to c k u v) = up_to c k (λ r s. u r s.1) (λ r i j. (f r i, v r i j))
both P Q q (up_to b h u v) (on g) = up_to b h (λ r s. u r s.0) (λ r i j. (v r i j, g r i))
both P Q q (up_to b h u v) (up_to c k w x) = go (lt_or_le b c)
  where
    go : (b <ℚ c) ⊎ (c ≤ℚ b) → Upwards (λ r. P r × Q r) q
    go (inl m) = up_to b h (λ r s. u r s.0) (λ r i j. (v r i j, x r i (lt_trans j m)))
    go (inr m) = up_to c k (λ r s. w r s.1) (λ r i j. (v r i (lt_le_trans j m), x r i j))

-- ---- one row

meets_more : (r : Relation) (p q : ℚ) → IsInequality r → Meets r p → IsNotNegative q → Meets r (p +ℚ q)
meets_more Eq p q i h k = absurd i
meets_more Gt p q i h k = pos_add h k
meets_more Ge p q i h k = nonneg_add h k
meets_more Ne p q i h k = absurd i

module _ (r : Relation) (k d : ℚ) (inequality : IsInequality r) where
  flat : (x y : ℚ) → k ≡ 0ℚ → k *ℚ x +ℚ d ≡ k *ℚ y +ℚ d
  flat x y e =
      ap (λ w. w *ℚ x +ℚ d) e ∙ ring (x ∷ y ∷ d ∷ []) (int (pos 0) ⊗ var 0 ⊕ var 2) (int (pos 0) ⊗ var 1 ⊕ var 2) refl
      ∙ ap (λ w. w *ℚ y +ℚ d) (sym e)

  rising : (x y : ℚ) → (k *ℚ x +ℚ d) +ℚ k *ℚ (y -ℚ x) ≡ k *ℚ y +ℚ d
  rising x y =
      ring (k ∷ x ∷ y ∷ d ∷ []) ((var 0 ⊗ var 1 ⊕ var 3) ⊕ var 0 ⊗ (var 2 ⊕ minus (var 1))) (var 0 ⊗ var 2 ⊕ var 3) refl

  -- where the row falls it holds up to this number
  abbrev end : ℚ
  end = d *ℚ inv_ℚ (neg_ℚ k)

  left_over : IsPositive (neg_ℚ k) → (x : ℚ) → inv_ℚ (neg_ℚ k) *ℚ (k *ℚ x +ℚ d) ≡ end -ℚ x
  left_over h x =
      ring (k ∷ inv_ℚ (neg_ℚ k) ∷ x ∷ d ∷ []) (var 1 ⊗ (var 0 ⊗ var 2 ⊕ var 3)) (minus ((minus (var 0) ⊗ var 1) ⊗ var 2) ⊕ var 3 ⊗ var 1) refl
      ∙ ap (λ w. neg_ℚ (w *ℚ x) +ℚ end) (inv_mul h)
      ∙ ring (x ∷ end ∷ []) (minus (int (pos 1) ⊗ var 0) ⊕ var 1) (var 1 ⊕ minus (var 0)) refl

  from_left : IsPositive (neg_ℚ k) → (x : ℚ) → neg_ℚ k *ℚ (end -ℚ x) ≡ k *ℚ x +ℚ d
  from_left h x =
      ring (k ∷ inv_ℚ (neg_ℚ k) ∷ x ∷ d ∷ []) (minus (var 0) ⊗ (var 3 ⊗ var 1 ⊕ minus (var 2))) ((minus (var 0) ⊗ var 1) ⊗ var 3 ⊕ var 0 ⊗ var 2) refl
      ∙ ap (λ w. w *ℚ d +ℚ k *ℚ x) (inv_mul h)
      ∙ ring (k ∷ x ∷ d ∷ []) (int (pos 1) ⊗ var 2 ⊕ var 0 ⊗ var 1) (var 0 ⊗ var 1 ⊕ var 2) refl

  below_end : IsPositive (neg_ℚ k) → (x : ℚ) → Meets r (k *ℚ x +ℚ d) → x ≤ℚ end
  below_end h x m = record {
    gap = subst IsNotNegative (left_over h x) (nonneg_mul (pos_nonneg (inv_pos h)) (meets_weakly r (k *ℚ x +ℚ d) inequality m));
  }

  before_end : IsPositive (neg_ℚ k) → (x : ℚ) → x <ℚ end → Meets r (k *ℚ x +ℚ d)
  before_end h x j = meets_positive r (k *ℚ x +ℚ d) inequality (subst IsPositive (from_left h x) (pos_mul h j.gap))

  one_row : (q : ℚ) → Meets r (k *ℚ q +ℚ d) → Upwards (λ x. Meets r (k *ℚ x +ℚ d)) q
  one_row q m = go (sign k)
    where
      go : Sign k → Upwards (λ x. Meets r (k *ℚ x +ℚ d)) q
      go (is_zero e) = on (λ x h. subst (Meets r) (flat q x e) m)
      go (is_pos p) = on (λ x h. subst (Meets r) (rising q x) (meets_more r (k *ℚ q +ℚ d) (k *ℚ (x -ℚ q)) inequality m (nonneg_mul (pos_nonneg p) h.gap)))
      go (is_neg n) = up_to end (below_end n q m) (λ x s. below_end n x s) (λ x i j. before_end n x j)

-- ---- all rows

-- the row holds where z is q, its other coefficients being zero
abbrev pub AtValue : ℕ → ℚ → Constraint → Type 0
AtValue z q c = Meets c.relation (coefficient z c *ℚ q +ℚ c.form.constant)

abbrev pub AllAt : ℕ → List Constraint → ℚ → Type 0
AllAt z [] q = ⊤
AllAt z (c ∷ l) q = AtValue z q c × AllAt z l q

pub upwards : (z : ℕ) (l : List Constraint) → AreInequalities l → (q : ℚ) → AllAt z l q → Upwards (AllAt z l) q
upwards z [] i q s = on (λ r h. tt)
upwards z (c ∷ l) i q s =
    both (λ r. AtValue z r c) (AllAt z l) q (one_row c.relation (coefficient z c) c.form.constant (i c (inl refl)) q s.0)
    (upwards z l (λ d k. i d (inr k)) q s.1)

-- ---- numbers between

half : ℚ
half = inv_ℚ (1ℚ +ℚ 1ℚ)

two_pos : IsPositive (1ℚ +ℚ 1ℚ)
two_pos = pos_add pos_one (pos_nonneg pos_one)

half_pos : IsPositive half
unfolding half
half_pos = inv_pos two_pos

pub middle : ℚ → ℚ → ℚ
middle p q = half *ℚ (p +ℚ q)

above_first : (p q : ℚ) → half *ℚ (q -ℚ p) ≡ middle p q -ℚ p
unfolding half middle
above_first p q =
    ring (inv_ℚ (1ℚ +ℚ 1ℚ) ∷ p ∷ q ∷ []) (var 0 ⊗ (var 2 ⊕ minus (var 1))) (var 0 ⊗ (var 1 ⊕ var 2) ⊕ minus (((int (pos 1) ⊕ int (pos 1)) ⊗ var 0) ⊗ var 1)) refl
    ∙ ap (λ w. inv_ℚ (1ℚ +ℚ 1ℚ) *ℚ (p +ℚ q) +ℚ neg_ℚ (w *ℚ p)) (inv_mul two_pos)
    ∙ ring (inv_ℚ (1ℚ +ℚ 1ℚ) ∷ p ∷ q ∷ []) (var 0 ⊗ (var 1 ⊕ var 2) ⊕ minus (int (pos 1) ⊗ var 1)) (var 0 ⊗ (var 1 ⊕ var 2) ⊕ minus (var 1)) refl

below_second : (p q : ℚ) → half *ℚ (q -ℚ p) ≡ q -ℚ middle p q
unfolding half middle
below_second p q =
    ring (inv_ℚ (1ℚ +ℚ 1ℚ) ∷ p ∷ q ∷ []) (var 0 ⊗ (var 2 ⊕ minus (var 1))) (((int (pos 1) ⊕ int (pos 1)) ⊗ var 0) ⊗ var 2 ⊕ minus (var 0 ⊗ (var 1 ⊕ var 2))) refl
    ∙ ap (λ w. w *ℚ q +ℚ neg_ℚ (inv_ℚ (1ℚ +ℚ 1ℚ) *ℚ (p +ℚ q))) (inv_mul two_pos)
    ∙ ring (inv_ℚ (1ℚ +ℚ 1ℚ) ∷ p ∷ q ∷ []) (int (pos 1) ⊗ var 2 ⊕ minus (var 0 ⊗ (var 1 ⊕ var 2))) (var 2 ⊕ minus (var 0 ⊗ (var 1 ⊕ var 2))) refl

pub middle_above : (p q : ℚ) → p <ℚ q → p <ℚ middle p q
middle_above p q h = record { gap = subst IsPositive (above_first p q) (pos_mul half_pos h.gap) }

pub middle_below : (p q : ℚ) → p <ℚ q → middle p q <ℚ q
middle_below p q h = record { gap = subst IsPositive (below_second p q) (pos_mul half_pos h.gap) }

-- a number above one and not below another
pub beyond : (p q : ℚ) → (r : ℚ) × (p <ℚ r) × (q ≤ℚ r)
beyond p q = go (lt_or_le (p +ℚ 1ℚ) q)
  where
    next : p <ℚ (p +ℚ 1ℚ)
    next = record { gap = subst IsPositive (ring (p ∷ []) (int (pos 1)) ((var 0 ⊕ int (pos 1)) ⊕ minus (var 0)) refl) pos_one }

    go : ((p +ℚ 1ℚ) <ℚ q) ⊎ (q ≤ℚ (p +ℚ 1ℚ)) → (r : ℚ) × (p <ℚ r) × (q ≤ℚ r)
    go (inl h) = (q, lt_trans next h, le_refl q)
    go (inr h) = (p +ℚ 1ℚ, next, h)
