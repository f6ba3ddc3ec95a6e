-- The text of a number, as the fraction prints itself.
use Rattle.std.proofs.Common.{◌≡◌, ℕ, zero, suc, ◌<◌, ◌^◌, ◌++◌, ℤ, pos, negsuc, nat_abs, codes, refl, ap, sym, arith}
use Rattle.std.specs.Fmt.{signed_decimal}
use Rattle.spec_numbers.specs.Rational.{ℚ, denominator}
use Rattle.spec_text.specs.Numbers.{under_text, parts_text, number_text}
use Rattle.spec_text.proofs.Decimals.{whole_is}
use Rattle.cq_frac.specs.Text as printed

under_same : (below : ℕ) → suc below < 10 ^ 64 → printed.denominator_text below ≡ under_text below
under_same zero h = refl
under_same (suc n) h = ap (λ t. codes "r" ++ t) (sym (whole_is (suc (suc n)) h))

parts_same : (z : ℤ) (below : ℕ) → nat_abs z < 10 ^ 64 → suc below < 10 ^ 64 → signed_decimal z ++ printed.denominator_text below ≡ parts_text z below
parts_same (pos n) below h k = λ i. sym (whole_is n h) i ++ under_same below k i
parts_same (negsuc n) below h k = λ i. (codes "-" ++ sym (whole_is (suc n) h) i) ++ under_same below k i

pub text_same : (q : ℚ) → nat_abs q.numerator < 2 ^ 127 → denominator q < 2 ^ 127 → printed.number_text q ≡ number_text q
text_same q top bottom = parts_same q.numerator q.below (omega (arith, top)) (omega (arith, bottom))
