-- A pair in lowest terms is the pair of its ratio.
use Rattle.std.specs.Prelude.{◌≡◌, ℤ, pos, negsuc, nat_abs}
use Rattle.std.proofs.Common.{zero, suc, arith, ap}
use Rattle.std.proofs.lemmas.Int.{ints}
use Rattle.spec_numbers.specs.Rational.{ℚ, denominator, ratio}
use Rattle.spec_numbers.proofs.RationalLemmas.{ratio_back}
use Rattle.cq_frac.specs.Fits.{IsLowest}

pub numerator-ratio : (n d : ℤ) → IsLowest n d → (ratio n (nat_abs d)).numerator ≡ n
numerator-ratio n (pos zero) h = let k = h.den_pos in absurd (omega (arith, ints))
numerator-ratio n (pos (suc k)) h = ap (λ (q : ℚ). q.numerator) (ratio_back (record { numerator = n; below = k; lowest = h.coprime }))
numerator-ratio n (negsuc k) h = let k = h.den_pos in absurd (omega (arith, ints))

pub denominator-ratio : (n d : ℤ) → IsLowest n d → pos (denominator (ratio n (nat_abs d))) ≡ d
denominator-ratio n (pos zero) h = let k = h.den_pos in absurd (omega (arith, ints))
denominator-ratio n (pos (suc k)) h = ap (λ (q : ℚ). pos (denominator q)) (ratio_back (record { numerator = n; below = k; lowest = h.coprime }))
denominator-ratio n (negsuc k) h = let k = h.den_pos in absurd (omega (arith, ints))
