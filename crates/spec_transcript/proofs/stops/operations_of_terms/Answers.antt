use Rattle.std.proofs.Common.{refl}
use Rattle.spec_numbers.specs.Gcd.{gcd}
use Rattle.spec_numbers.specs.Rational.{ratio, int_ℚ, ◌*ℚ◌}
use Rattle.spec_transcript.proofs.stops.operations_of_terms.Goals as goal

pub returns : goal.returns
unfolding gcd ratio int_ℚ ◌*ℚ◌
returns c = record { product = refl; waiting = refl; power = refl }
