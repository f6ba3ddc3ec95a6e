-- A rational is stored as its two parts.
use Rattle.std.specs.Prelude.{ℕ, ℤ}
use Rattle.std.specs.Coded.{Coded, code_by, coded×, coded_ℕ, coded_ℤ}
use Rattle.spec_numbers.specs.Rational.{ℚ, denominator, ratio}
use Rattle.spec_numbers.proofs.RationalLemmas.{ratio_back}

abbrev pub rational_code : Coded ℚ
rational_code = code_by (ℤ × ℕ) (coded× coded_ℤ coded_ℕ) (λ q. (q.numerator, denominator q)) (λ p. ratio p.0 p.1) ratio_back
