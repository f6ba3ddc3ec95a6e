use Rattle.std.proofs.Common.{refl}
use Rattle.std.specs.Str.{chars}
use lib.Utf8.{encode}
use Rattle.spec_numbers.specs.Rational.{int_ℚ, ratio}
use Rattle.spec_numbers.specs.Gcd.{gcd}
use Rattle.spec_builtins.proofs.goals_on_texts.Goals as goal

pub returns : goal.returns
unfolding int_ℚ ratio gcd chars encode
returns c = record { size = refl; characters = refl; from_codes = refl; code = refl; character = refl; number_codes = refl; joined = refl; split = refl; rest = refl; found = refl }
