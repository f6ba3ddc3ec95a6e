use Rattle.std.proofs.Common.{refl}
use Rattle.std.specs.Char.{encode_utf8}
use Rattle.std.specs.Str.{chars, is_utf8}
use Rattle.spec_numbers.specs.Gcd.{gcd}
use Rattle.spec_numbers.specs.Rational.{ratio, neg_ℚ}
use Rattle.spec_syntax.specs.Characters.{first_char}
use Rattle.spec_syntax.specs.Writing.{is_bare_right, is_bare_left, is_bare_argument, needs_quotes, is_spaced, infix_token}
use Rattle.spec_text.specs.Pieces.{pieces_at, argument_pieces}
use Rattle.spec_text.specs.Texts.{name_text, is_apart}
use Rattle.spec_text.proofs.writing.operators_as_written.Goals as goal

pub returns : goal.returns
unfolding encode_utf8 chars is_utf8 gcd ratio neg_ℚ first_char is_bare_right is_bare_left is_bare_argument needs_quotes is_spaced infix_token pieces_at argument_pieces name_text is_apart
returns c = record {
  operator_and_power = refl;
  number_to_a_power = refl;
  operator_and_number = refl;
  operator_and_negative = refl;
  plus_and_number = refl;
  plus_and_negative = refl;
  operator_on_the_left = refl;
  negative_on_the_right = refl;
  prefix_on_the_right = refl;
  nested_prefix = refl;
  negation = refl;
  negated_conjunction = refl;
  operator_and_atom = refl;
  grouped_right = refl;
  grouped_left = refl;
  letters = refl;
  prefix_letters = refl;
  alternatives = refl;
  indicator = refl;
}
