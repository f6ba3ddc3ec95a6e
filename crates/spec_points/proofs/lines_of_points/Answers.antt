use Rattle.std.proofs.Common.{refl}
use Rattle.std.specs.Str.{chars}
use lib.Utf8.{encode}
use Rattle.spec_numbers.specs.Gcd.{gcd}
use Rattle.spec_numbers.specs.Rational.{int_ℚ, ratio}
use Rattle.spec_points.proofs.lines_of_points.Goals as goal

pub returns : goal.returns
unfolding int_ℚ ratio gcd chars encode
returns c = record { one = refl; three = refl }
