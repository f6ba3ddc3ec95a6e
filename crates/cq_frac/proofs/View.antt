-- The fields of a fraction, and the rational that it is.
use Rattle.std.proofs.Common.{◌≡◌, ◌<◌, ◌^◌, ℤ, pos, negsuc, nat_abs, neg_ℤ, ◌-ℤ◌, arith, ap, ap₂, sym, ◌∙◌, to_z, of_z}
use Rattle.std.proofs.lemmas.Int.{ints, fits_signed_from_abs, to_z-of_z}
use mir.Syntax.{w128}
use Rattle.spec_numbers.specs.Rational.{ℚ, denominator, ratio, neg_ℚ}
use Rattle.spec_numbers.proofs.RationalLemmas.{ratio-neg}
use Rattle.cq_frac.specs.Fits.{IsLowest}
use Rattle.cq_frac.specs.Lowest.{numerator-ratio, denominator-ratio}

pub num_is : (n d : ℤ) (q : ℚ) → IsLowest n d → ratio n (nat_abs d) ≡ q → n ≡ q.numerator
num_is n d q h e = sym (numerator-ratio n d h) ∙ ap (λ (x : ℚ). x.numerator) e

pub den_is : (n d : ℤ) (q : ℚ) → IsLowest n d → ratio n (nat_abs d) ≡ q → d ≡ pos (denominator q)
den_is n d q h e = sym (denominator-ratio n d h) ∙ ap (λ (x : ℚ). pos (denominator x)) e

-- a number of the right size is read back from its bits
pub back : (z : ℤ) → nat_abs z < 2 ^ 127 → to_z w128 (of_z w128 z) ≡ z
back z h = to_z-of_z w128 z (fits_signed_from_abs w128 z h)

den_pos : (n d : ℤ) → IsLowest n d → 0 < nat_abs d
den_pos n (pos d) h = let k = h.den_pos in omega (arith, ints)
den_pos n (negsuc d) h = let k = h.den_pos in omega (arith, ints)

pub nat_abs-neg : (z : ℤ) → nat_abs (neg_ℤ z) ≡ nat_abs z
nat_abs-neg z = omega (arith, ints)

pub minus_back : (n : ℤ) → nat_abs n < 2 ^ 127 → to_z w128 (of_z w128 (pos 0 -ℤ to_z w128 (of_z w128 n))) ≡ neg_ℤ n
minus_back n h =
    ap (λ x. to_z w128 (of_z w128 (pos 0 -ℤ x))) (back n h)
    ∙ ap (λ x. to_z w128 (of_z w128 x)) zero_minus
    ∙ back (neg_ℤ n) (omega (arith, nat_abs-neg n, h))
  where
    zero_minus : pos 0 -ℤ n ≡ neg_ℤ n
    zero_minus = omega (arith, ints)

pub negated : (n d : ℤ) (q : ℚ) → IsLowest n d → ratio n (nat_abs d) ≡ q →
    ratio (to_z w128 (of_z w128 (pos 0 -ℤ to_z w128 (of_z w128 n)))) (nat_abs (to_z w128 (of_z w128 d))) ≡ neg_ℚ q
negated n d q h e =
    ap₂ (λ x y. ratio x (nat_abs y)) (minus_back n h.num_fits) (back d h.den_fits)
    ∙ sym (ratio-neg n (nat_abs d) (den_pos n d h)) ∙ ap neg_ℚ e
