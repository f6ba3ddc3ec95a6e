use Rattle.std.proofs.Common.{[], codes, refl}
use Rattle.std.specs.Char.{encode_utf8}
use Rattle.std.specs.Str.{chars, is_utf8}
use Rattle.spec_numbers.specs.Gcd.{gcd}
use Rattle.spec_numbers.specs.Rational.{ratio, int_ℚ, neg_ℚ, inv_ℚ, ◌+ℚ◌, ◌*ℚ◌}
use Rattle.spec_syntax.specs.Characters.{first_char}
use Rattle.spec_syntax.specs.Grammar.{use_of, begins_term}
use Rattle.spec_syntax.specs.Writing.{is_bare_right, is_bare_left, is_bare_argument, needs_quotes, is_spaced, infix_token}
use Rattle.spec_text.specs.Pieces.{pieces_at, argument_pieces}
use Rattle.spec_text.specs.Texts.{name_text, is_apart}
use Rattle.spec_examples.specs.Rows.{some_goals, no_files}
use Rattle.spec_examples.proofs.Walk.{derived}
use Rattle.spec_examples.proofs.bindings.Goals as goal

pub returns-clause-variables : goal.returns-clause-variables
unfolding encode_utf8 chars is_utf8 first_char use_of begins_term ratio int_ℚ neg_ℚ inv_ℚ gcd ◌+ℚ◌ ◌*ℚ◌ is_bare_right is_bare_left is_bare_argument needs_quotes is_spaced infix_token pieces_at argument_pieces name_text is_apart
returns-clause-variables c = derived some_goals no_files (codes "?- X=Y.") [] refl refl

pub returns-clause-alternatives : goal.returns-clause-alternatives
unfolding encode_utf8 chars is_utf8 first_char use_of begins_term ratio int_ℚ neg_ℚ inv_ℚ gcd ◌+ℚ◌ ◌*ℚ◌ is_bare_right is_bare_left is_bare_argument needs_quotes is_spaced infix_token pieces_at argument_pieces name_text is_apart
returns-clause-alternatives c = derived some_goals no_files (codes "?- ( X=1 ; X=2 ), ( X=1 -> Y=a ; Y=b ).") [] refl refl

pub returns-clause-terms : goal.returns-clause-terms
unfolding encode_utf8 chars is_utf8 first_char use_of begins_term ratio int_ℚ neg_ℚ inv_ℚ gcd ◌+ℚ◌ ◌*ℚ◌ is_bare_right is_bare_left is_bare_argument needs_quotes is_spaced infix_token pieces_at argument_pieces name_text is_apart
returns-clause-terms c = derived some_goals no_files (codes "?- X = 'hello world', Y = [a|T], Z = -(1), W = (a:-b).") [] refl refl

pub returns-clause-order : goal.returns-clause-order
unfolding encode_utf8 chars is_utf8 first_char use_of begins_term ratio int_ℚ neg_ℚ inv_ℚ gcd ◌+ℚ◌ ◌*ℚ◌ is_bare_right is_bare_left is_bare_argument needs_quotes is_spaced infix_token pieces_at argument_pieces name_text is_apart
returns-clause-order c = derived some_goals no_files (codes "?- f(b) @> 3, a @< f(b), 1r2 @< 1.") [] refl refl

pub returns-clause-concatenations : goal.returns-clause-concatenations
unfolding encode_utf8 chars is_utf8 first_char use_of begins_term ratio int_ℚ neg_ℚ inv_ℚ gcd ◌+ℚ◌ ◌*ℚ◌ is_bare_right is_bare_left is_bare_argument needs_quotes is_spaced infix_token pieces_at argument_pieces name_text is_apart
returns-clause-concatenations c = derived some_goals no_files (codes "?- atom_concat(X,Y,ab).") [] refl refl
