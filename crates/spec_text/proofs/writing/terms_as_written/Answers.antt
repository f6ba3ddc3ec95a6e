use Rattle.std.proofs.Common.{refl}
use Rattle.std.specs.Char.{encode_utf8}
use Rattle.std.specs.Str.{chars, is_utf8}
use Rattle.spec_numbers.specs.Gcd.{gcd}
use Rattle.spec_numbers.specs.Rational.{ratio, neg_ℚ}
use Rattle.spec_syntax.specs.Characters.{first_char}
use Rattle.spec_syntax.specs.Writing.{is_bare_right, is_bare_left, is_bare_argument, needs_quotes, is_spaced, infix_token}
use Rattle.spec_text.specs.Pieces.{pieces_at, argument_pieces}
use Rattle.spec_text.specs.Texts.{name_text, is_apart}
use Rattle.spec_text.proofs.writing.terms_as_written.Goals as goal

pub returns : goal.returns
unfolding encode_utf8 chars is_utf8 gcd ratio neg_ℚ first_char is_bare_right is_bare_left is_bare_argument needs_quotes is_spaced infix_token pieces_at argument_pieces name_text is_apart
returns c = record {
  arguments = refl;
  argument = refl;
  list = refl;
  lists = refl;
  element = refl;
  braces = refl;
  negative_in_braces = refl;
  quoted = refl;
  as_it_is = refl;
  capital = refl;
  full_stop = refl;
  comment = refl;
  escapes = refl;
  control = refl;
  fraction = refl;
  variables = refl;
  nothing_between = refl;
  nothing_before = refl;
  nothing_behind = refl;
  nothing_between_letters = refl;
}
