use Rattle.std.proofs.Common.{refl, ap, pos}
use Rattle.spec_numbers.specs.Gcd.{gcd}
use Rattle.spec_numbers.specs.Rational.{int_ℚ, ratio, ◌+ℚ◌}
use Rattle.spec_numbers.proofs.RationalLemmas.{cross_same}
use Rattle.spec_terms.specs.Operations.{Value}
use Rattle.spec_terms.proofs.arithmetic.examples.Goals as goal

pub returns : goal.returns
unfolding int_ℚ ratio gcd ◌+ℚ◌
returns c = record {
  whole_quotient = refl;
  remainder = refl;
  modulo = refl;
  negative_modulo = refl;
  sum = ap Value (cross_same (ratio (pos 1) 3 +ℚ ratio (pos 1) 6) (ratio (pos 1) 2) refl);
  atom = refl;
  variable = λ v. refl;
  zero = refl;
  whole_first = refl;
  unlisted = λ v. refl;
}
