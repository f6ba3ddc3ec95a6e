use Rattle.std.proofs.Common.{refl}
use Rattle.spec_numbers.specs.Gcd.{gcd}
use Rattle.spec_numbers.specs.Rational.{ratio, int_ℚ, neg_ℚ}
use Rattle.std.specs.Char.{encode_utf8}
use Rattle.std.specs.Str.{chars, is_utf8}
use Rattle.spec_syntax.specs.Characters.{first_char}
use Rattle.spec_syntax.specs.Writing.{is_bare_right, is_bare_left, is_bare_argument, needs_quotes, is_spaced, infix_token}
use Rattle.spec_text.specs.Pieces.{pieces_at, argument_pieces}
use Rattle.spec_text.specs.Texts.{name_text, is_apart}
use Rattle.spec_answers.proofs.lines.Goals as goal

pub returns-clause-rows : goal.returns-clause-rows
unfolding ratio int_ℚ neg_ℚ gcd
returns-clause-rows c = refl

pub returns-clause-residues : goal.returns-clause-residues
unfolding encode_utf8 chars is_utf8 first_char is_bare_right is_bare_left is_bare_argument needs_quotes is_spaced infix_token pieces_at argument_pieces name_text is_apart
returns-clause-residues c = refl
