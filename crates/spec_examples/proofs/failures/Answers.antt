use Rattle.std.proofs.Common.{[], codes, refl}
use Rattle.std.specs.Char.{encode_utf8}
use Rattle.std.specs.Str.{chars, is_utf8}
use Rattle.spec_numbers.specs.Gcd.{gcd}
use Rattle.spec_numbers.specs.Rational.{ratio, int_ℚ, neg_ℚ, inv_ℚ, ◌+ℚ◌, ◌*ℚ◌}
use Rattle.spec_syntax.specs.Characters.{first_char}
use Rattle.spec_syntax.specs.Grammar.{use_of, begins_term}
use Rattle.spec_syntax.specs.Writing.{is_bare_right, is_bare_left, is_bare_argument, needs_quotes, is_spaced, infix_token}
use Rattle.spec_text.specs.Pieces.{pieces_at, argument_pieces}
use Rattle.spec_text.specs.Texts.{name_text, is_apart}
use Rattle.spec_examples.specs.Rows.{some_goals, no_files}
use Rattle.spec_examples.proofs.Walk.{derived}
use Rattle.spec_examples.proofs.failures.Goals as goal

pub returns-clause-nothing : goal.returns-clause-nothing
unfolding encode_utf8 chars is_utf8 first_char use_of begins_term ratio int_ℚ neg_ℚ inv_ℚ gcd ◌+ℚ◌ ◌*ℚ◌ is_bare_right is_bare_left is_bare_argument needs_quotes is_spaced infix_token pieces_at argument_pieces name_text is_apart
returns-clause-nothing c = derived some_goals no_files [] [] refl refl

pub returns-clause-failure : goal.returns-clause-failure
unfolding encode_utf8 chars is_utf8 first_char use_of begins_term ratio int_ℚ neg_ℚ inv_ℚ gcd ◌+ℚ◌ ◌*ℚ◌ is_bare_right is_bare_left is_bare_argument needs_quotes is_spaced infix_token pieces_at argument_pieces name_text is_apart
returns-clause-failure c = derived some_goals no_files (codes "?- fail.") [] refl refl

pub returns-clause-occurs : goal.returns-clause-occurs
unfolding encode_utf8 chars is_utf8 first_char use_of begins_term ratio int_ℚ neg_ℚ inv_ℚ gcd ◌+ℚ◌ ◌*ℚ◌ is_bare_right is_bare_left is_bare_argument needs_quotes is_spaced infix_token pieces_at argument_pieces name_text is_apart
returns-clause-occurs c = derived some_goals no_files (codes "?- X=f(X).") [] refl refl
