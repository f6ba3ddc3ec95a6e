-- What the tests of a fraction's fields say of the number.
use Rattle.std.proofs.Common.{◌≡◌, ℕ, ◌<◌, Bool, true, false, IsTrue, ◌↔◌, nat_eq, ℤ, pos, neg_ℤ, nat_abs, ◌*ℤ◌, ◌<ℤ◌, ◌≤ℤ◌, int_lt, arith, refl, ap, ap₂, sym, subst, ◌∙◌, to_z, of_z, inr}
use Rattle.std.proofs.lemmas.Int.{ints, to_z_pos}
use Rattle.std.specs.Bool.{OnFalse}
use Rattle.std.specs.Cmp.{eq_by_cmp_equiv}
use Rattle.std.specs.declared.cmp.Ordering.{Ordering}
use Rattle.std.specs.declared.cmp.Ordering.TheVariants.{Less, Equal, Greater}
use Rattle.std.specs.Ordering.{eq_by_cmp, is_eq}
use mir.Syntax.{w64, w128}
use mir.Val.{SFits}
use Rattle.spec_numbers.specs.Gcd.{gcd}
use Rattle.spec_numbers.specs.Rational.{ℚ, 0ℚ, denominator, ratio, int_ℚ, neg_ℚ, ◌<ℚ◌, IsPositive, IsNotNegative}
use Rattle.spec_numbers.specs.Order.{cmp_ℚ}
use Rattle.spec_numbers.proofs.Order.{cmp_ℚ-total, cmp_ℚ-equal, lt_from_cross, lt_to_cross}
use Rattle.spec_numbers.proofs.RationalLemmas.{suc_pos}
use Rattle.spec_numbers.proofs.Sign.{ratio_nonneg}
use Rattle.cq_frac.specs.Fits.{IsLowest, limit}
use Rattle.cq_frac.proofs.View.{num_is, den_is, back}
use Rattle.cq_frac.proofs.Zero.{zero_num, num_zero}
use Rattle.cq_frac.proofs.Halves.{gcd-one}

-- ---- tests of numbers

test_says : (x y : ℕ) → IsTrue (nat_eq x y) → x ≡ y
test_says x y h = grind arith

says_test : (x y : ℕ) → x ≡ y → IsTrue (nat_eq x y)
says_test x y h = grind arith

lt_says : (x y : ℤ) → IsTrue (int_lt x y) → x <ℤ y
lt_says x y h = grind (arith, ints)

says_lt : (x y : ℤ) → x <ℤ y → IsTrue (int_lt x y)
says_lt x y h = grind (arith, ints)

not_lt_says : (x y : ℤ) → int_lt x y ≡ false → y ≤ℤ x
not_lt_says x y h = grind (arith, ints)

on_false : (b : Bool) (P : Type 0) → (b ≡ false → P) → OnFalse b P
on_false true P h = tt
on_false false P h = h refl

same_bits : (x y : ℤ) → nat_abs x < limit → nat_abs y < limit → of_z w128 x ≡ of_z w128 y → x ≡ y
same_bits x y h k e = sym (back x h) ∙ ap (to_z w128) e ∙ back y k

-- ---- equality

equal_is : (q r : ℚ) → q ≡ r → true ≡ eq_by_cmp cmp_ℚ q r
equal_is q r e = sym ((eq_by_cmp_equiv cmp_ℚ-total).refl q) ∙ ap (eq_by_cmp cmp_ℚ q) e

unequal_is : (q r : ℚ) → (q ≡ r → ⊥) → false ≡ eq_by_cmp cmp_ℚ q r
unequal_is q r n = go (cmp_ℚ q r) refl
  where
    go : (o : Ordering) → cmp_ℚ q r ≡ o → false ≡ is_eq o
    go Less e = refl
    go Equal e = absurd (n (cmp_ℚ-equal q r e))
    go Greater e = refl

pub tested : (t : Bool) (q r : ℚ) → IsTrue t ↔ (q ≡ r) → t ≡ eq_by_cmp cmp_ℚ q r
tested true q r h = equal_is q r (h.0 refl)
tested false q r h = unequal_is q r (λ e. let f : false ≡ true = h.1 e in cc)

-- the fields of a number
pub record Fields (n d : ℤ) (q : ℚ) : Type 0 where
  pub lowest : IsLowest n d
  pub is : ratio n (nat_abs d) ≡ q

module _ {n d m e : ℤ} {q r : ℚ} (f : Fields n d q) (g : Fields m e r) where
  -- where the numerators are one, the denominators tell
  pub same_den : of_z w128 n ≡ of_z w128 m → IsTrue (nat_eq (of_z w128 d) (of_z w128 e)) ↔ (q ≡ r)
  same_den z = (
    (λ t. sym f.is
        ∙ ap₂ (λ x y. ratio x (nat_abs y)) (same_bits n m f.lowest.num_fits g.lowest.num_fits z) (same_bits d e f.lowest.den_fits g.lowest.den_fits (test_says _ _ t))
        ∙ g.is),
    (λ w. says_test _ _ (ap (of_z w128) (den_is n d q f.lowest f.is ∙ ap (λ (x : ℚ). pos (denominator x)) w ∙ sym (den_is m e r g.lowest g.is)))),
  )

  -- where they differ, the numbers do
  pub other_num : (of_z w128 n ≡ of_z w128 m → ⊥) → IsTrue (nat_eq (of_z w128 n) (of_z w128 m)) ↔ (q ≡ r)
  other_num z = (
    (λ t. absurd (z (test_says _ _ t))),
    (λ w. says_test _ _ (ap (of_z w128) (num_is n d q f.lowest f.is ∙ ap (λ (x : ℚ). x.numerator) w ∙ sym (num_is m e r g.lowest g.is)))),
  )

-- ---- zero and signs

zero_den : denominator 0ℚ ≡ 1
unfolding int_ℚ ratio gcd
zero_den = refl

read_num : (n d : ℤ) (q : ℚ) → Fields n d q → to_z w128 (of_z w128 n) ≡ q.numerator
read_num n d q f = back n f.lowest.num_fits ∙ num_is n d q f.lowest f.is

bits_zero : (z : ℤ) → nat_abs z < limit → of_z w128 z ≡ 0 → z ≡ pos 0
bits_zero z h e = sym (back z h) ∙ ap (to_z w128) e ∙ to_z_pos w128 0 (suc_pos _)

pub zero_test : (n d : ℤ) (q : ℚ) → Fields n d q → IsTrue (nat_eq (of_z w128 n) 0) ↔ (q ≡ 0ℚ)
zero_test n d q f = (
  (λ t. num_zero q (sym (num_is n d q f.lowest f.is) ∙ bits_zero n f.lowest.num_fits (test_says _ _ t))),
  (λ e. says_test _ _ (ap (of_z w128) (num_is n d q f.lowest f.is ∙ zero_num q e))),
)

times_one : (z : ℤ) (k : ℕ) → k ≡ 1 → z *ℤ pos k ≡ z
times_one z k e = ap (λ x. z *ℤ pos x) e ∙ omega (arith, ints)

zero_times : (z : ℤ) (k : ℕ) → z ≡ pos 0 → z *ℤ pos k ≡ pos 0
zero_times z k e = ap (λ x. x *ℤ pos k) e ∙ ap pos (omega arith)

below_zero : (q : ℚ) → (q.numerator <ℤ pos 0) ↔ (q <ℚ 0ℚ)
below_zero q =
    let a = times_one q.numerator (denominator 0ℚ) zero_den in
    let b = zero_times 0ℚ.numerator (denominator q) (zero_num 0ℚ refl) in (
      (λ h. lt_from_cross q 0ℚ (subst (λ x. x <ℤ (0ℚ.numerator *ℤ pos (denominator q))) (sym a) (subst (λ x. q.numerator <ℤ x) (sym b) h))),
      (λ h. subst (λ x. q.numerator <ℤ x) b (subst (λ x. x <ℤ (0ℚ.numerator *ℤ pos (denominator q))) a (lt_to_cross q 0ℚ h))),
    )

pub negative_test : (n d : ℤ) (q : ℚ) → Fields n d q → IsTrue (int_lt (to_z w128 (of_z w128 n)) (pos 0)) ↔ (q <ℚ 0ℚ)
negative_test n d q f = (
  (λ t. (below_zero q).0 (subst (λ x. x <ℤ pos 0) (read_num n d q f) (lt_says _ _ t))),
  (λ h. says_lt _ _ (subst (λ x. x <ℤ pos 0) (sym (read_num n d q f)) ((below_zero q).1 h))),
)

pub not_negative_test : (n d : ℤ) (q : ℚ) → Fields n d q → OnFalse (int_lt (to_z w128 (of_z w128 n)) (pos 0)) (IsNotNegative q)
not_negative_test n d q f = on_false (int_lt (to_z w128 (of_z w128 n)) (pos 0)) (IsNotNegative q) (λ e. record { not_negative = subst (λ x. pos 0 ≤ℤ x) (read_num n d q f) (not_lt_says _ _ e) })

pub positive_test : (n d : ℤ) (q : ℚ) → Fields n d q → IsTrue (int_lt (pos 0) (to_z w128 (of_z w128 n))) ↔ IsPositive q
positive_test n d q f = (
  (λ t. record { positive = subst (λ x. pos 0 <ℤ x) (read_num n d q f) (lt_says _ _ t) }),
  (λ h. says_lt _ _ (subst (λ x. pos 0 <ℤ x) (sym (read_num n d q f)) h.positive)),
)

neg_up : (z : ℤ) → z ≤ℤ pos 0 → pos 0 ≤ℤ neg_ℤ z
neg_up z h = omega (arith, ints)

pub not_positive_test : (n d : ℤ) (q : ℚ) → Fields n d q → OnFalse (int_lt (pos 0) (to_z w128 (of_z w128 n))) (IsNotNegative (neg_ℚ q))
unfolding neg_ℚ
not_positive_test n d q f =
    on_false (int_lt (pos 0) (to_z w128 (of_z w128 n))) (IsNotNegative (neg_ℚ q)) (λ e. ratio_nonneg (neg_ℤ q.numerator) (denominator q) (suc_pos q.below) (neg_up q.numerator (subst (λ x. x ≤ℤ pos 0) (read_num n d q f) (not_lt_says _ _ e))))

-- ---- whole numbers

pub whole_fits : (z n : ℤ) → z ≡ n → SFits w64 n → nat_abs z < limit
whole_fits z n e f = omega (arith, ints, f.sfits)

pub whole_lowest : (z : ℤ) → nat_abs z < limit → IsLowest (to_z w128 (of_z w128 z)) (pos 1)
whole_lowest z h =
    rw (back z h) (record { num_fits = h; den_pos = omega (arith, ints); den_fits = suc_lt; coprime = sym (gcd-one (nat_abs z) 1 (inr refl)) })
  where
    suc_lt : 1 < limit
    suc_lt = omega arith

pub whole_is : (z n : ℤ) → nat_abs z < limit → z ≡ n → ratio (to_z w128 (of_z w128 z)) (nat_abs (pos 1)) ≡ int_ℚ n
unfolding int_ℚ
whole_is z n h e = ap (λ x. ratio x 1) (back z h ∙ e)
