-- 1 over a number that is not zero.
use Rattle.std.proofs.Common.{◌≡◌, ℕ, zero, suc, ◌<◌, ◌*◌, [], ◌∷◌, ℤ, pos, negsuc, ◌*ℤ◌, neg_ℤ, arith, refl, ap, sym, subst, ◌∙◌}
use Rattle.spec_numbers.specs.Rational.{ℚ, 0ℚ, 1ℚ, denominator, ratio, int_ℚ, inv_ℚ, inverted, IsPositive, ◌*ℚ◌}
use Rattle.spec_numbers.proofs.Ring.{var, int, ◌⊗◌, minus}
use Rattle.spec_numbers.proofs.IntRing.{ring_ℤ}
use Rattle.spec_numbers.proofs.RationalLemmas.{ring, ratio-mul, ratio_same, ratio_back}
use Rattle.spec_numbers.proofs.Sign.{not_pos_zero, pos_one, one_not_zero, inverse_not_zero}

own_inverse : (n : ℤ) (d : ℕ) → 0 < d → (n ≡ pos 0 → ⊥) → ratio n d *ℚ inverted n d ≡ 1ℚ
unfolding int_ℚ
own_inverse (pos zero) d h n = absurd (n refl)
own_inverse (pos (suc k)) d h n =
    ratio-mul (pos (suc k)) (pos d) d (suc k) h (omega arith)
    ∙ ratio_same _ (pos 1) _ 1 (omega (arith, product_pos d k h)) (omega arith)
    (ring_ℤ (pos (suc k) ∷ pos d ∷ []) ((var 0 ⊗ var 1) ⊗ int (pos 1)) (int (pos 1) ⊗ (var 1 ⊗ var 0)) refl)
  where
    product_pos : (d k : ℕ) → 0 < d → 0 < d * suc k
    product_pos (suc d) k h = omega arith
    product_pos zero k h = absurd (omega arith)
own_inverse (negsuc k) d h n =
    ratio-mul (negsuc k) (neg_ℤ (pos d)) d (suc k) h (omega arith)
    ∙ ratio_same _ (pos 1) _ 1 (omega (arith, product_pos d k h)) (omega arith)
    (ring_ℤ (pos (suc k) ∷ pos d ∷ []) ((minus (var 0) ⊗ minus (var 1)) ⊗ int (pos 1)) (int (pos 1) ⊗ (var 1 ⊗ var 0)) refl)
  where
    product_pos : (d k : ℕ) → 0 < d → 0 < d * suc k
    product_pos (suc d) k h = omega arith
    product_pos zero k h = absurd (omega arith)

num_not_zero : (p : ℚ) → (p ≡ 0ℚ → ⊥) → p.numerator ≡ pos 0 → ⊥
unfolding int_ℚ
num_not_zero p n e =
    n (sym (ratio_back p) ∙ ratio_same p.numerator (pos 0) (denominator p) 1 (omega arith) (omega arith)
    (ap (λ z. z *ℤ pos 1) e ∙ ring_ℤ (pos (denominator p) ∷ []) (int (pos 0) ⊗ int (pos 1)) (int (pos 0) ⊗ var 0) refl))

pub times_inverse : (p : ℚ) → (p ≡ 0ℚ → ⊥) → p *ℚ inv_ℚ p ≡ 1ℚ
unfolding inv_ℚ
times_inverse p n = ap (λ q. q *ℚ inverted p.numerator (denominator p)) (sym (ratio_back p)) ∙ own_inverse p.numerator (denominator p) (omega arith) (num_not_zero p n)
