use Rattle.std.proofs.Common.{refl}
use Rattle.std.specs.Str.{chars, is_utf8}
use lib.Utf8.{encode}
use Rattle.spec_numbers.specs.Rational.{int_ℚ, ratio, ◌*ℚ◌, neg_ℚ}
use Rattle.spec_numbers.specs.Gcd.{gcd}
use Rattle.spec_syntax.specs.Characters.{first_char}
use Rattle.spec_builtins.proofs.texts_of_numbers.Goals as goal

pub returns : goal.returns
unfolding int_ℚ ratio gcd ◌*ℚ◌ neg_ℚ chars encode first_char is_utf8
returns c = record { negative = refl; hexadecimal = refl; fraction = refl; float = refl; layout_behind = refl; layout_behind_the_sign = refl; nothing = refl }
