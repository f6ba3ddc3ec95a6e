use Rattle.spec_numbers.specs.Rational.{denominator}
use Rattle.spec_terms.proofs.Rounded.{floor_between, ceiling_between, truncated_down, truncated_up}
use Rattle.spec_terms.proofs.arithmetic.roundings.Goals as goal

pub returns : goal.returns
returns c = record {
  floor = floor_between;
  ceiling = ceiling_between;
  down = λ q h. truncated_down q.numerator (denominator q) h;
  up = λ q h. truncated_up q.numerator (denominator q) h;
}
