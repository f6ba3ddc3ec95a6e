use Rattle.std.proofs.Common.{refl}
use Rattle.std.specs.Char.{encode_utf8}
use Rattle.std.specs.Str.{chars, is_utf8}
use Rattle.spec_numbers.specs.Gcd.{gcd}
use Rattle.spec_numbers.specs.Rational.{ratio, neg_ℚ}
use Rattle.spec_syntax.specs.Characters.{first_char}
use Rattle.spec_syntax.specs.Grammar.{use_of, begins_term}
use Rattle.spec_syntax.specs.Writing.{is_bare_right, is_bare_left, is_bare_argument, needs_quotes, is_spaced, infix_token, written_at, arguments_written}
use Rattle.spec_syntax.proofs.Runs.{run_parses}
use Rattle.spec_syntax.proofs.texts_that_are_written_again.Goals as goal

pub returns : goal.returns
unfolding encode_utf8 chars is_utf8 gcd ratio neg_ℚ first_char use_of begins_term is_bare_right is_bare_left is_bare_argument needs_quotes is_spaced infix_token written_at arguments_written
returns c = record {
  operator_and_number = (_, run_parses _ _ _ refl, refl);
  operator_and_power = (_, run_parses _ _ _ refl, refl);
  operator_and_negative = (_, run_parses _ _ _ refl, refl);
  operator_and_fraction = (_, run_parses _ _ _ refl, refl);
  nested_operators = (_, run_parses _ _ _ refl, refl);
  operator_and_atom = (_, run_parses _ _ _ refl, refl);
  atom_on_the_left = (_, run_parses _ _ _ refl, refl);
  atom_on_the_right = (_, run_parses _ _ _ refl, refl);
  negative_on_the_right = (_, run_parses _ _ _ refl, refl);
  negative_on_the_left = (_, run_parses _ _ _ refl, refl);
  operator_on_the_left = (_, run_parses _ _ _ refl, refl);
  prefix_on_the_right = (_, run_parses _ _ _ refl, refl);
  high_priority_on_the_right = (_, run_parses _ _ _ refl, refl);
  grouped_right = (_, run_parses _ _ _ refl, refl);
  grouped_left = (_, run_parses _ _ _ refl, refl);
  right_of_a_right = (_, run_parses _ _ _ refl, refl);
  left_of_a_right = (_, run_parses _ _ _ refl, refl);
  rule = (_, run_parses _ _ _ refl, refl);
  rule_on_the_left = (_, run_parses _ _ _ refl, refl);
  conjunction = (_, run_parses _ _ _ refl, refl);
  argument = (_, run_parses _ _ _ refl, refl);
  element = (_, run_parses _ _ _ refl, refl);
  list = (_, run_parses _ _ _ refl, refl);
  empty_list = (_, run_parses _ _ _ refl, refl);
  pair = (_, run_parses _ _ _ refl, refl);
  letters = (_, run_parses _ _ _ refl, refl);
  letters_and_list = (_, run_parses _ _ _ refl, refl);
  indicator = (_, run_parses _ _ _ refl, refl);
  quoted_comma = (_, run_parses _ _ _ refl, refl);
  braces = (_, run_parses _ _ _ refl, refl);
  empty_braces = (_, run_parses _ _ _ refl, refl);
  remainder = (_, run_parses _ _ _ refl, refl);
  postfix = (_, run_parses _ _ _ refl, refl);
}
