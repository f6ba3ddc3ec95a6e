use Rattle.std.proofs.Common.{refl}
use Rattle.std.specs.Char.{encode_utf8}
use Rattle.std.specs.Str.{chars, is_utf8}
use Rattle.spec_syntax.specs.Characters.{first_char}
use Rattle.spec_syntax.specs.Grammar.{use_of, begins_term}
use Rattle.spec_syntax.proofs.Runs.{run_refuses}
use Rattle.spec_syntax.proofs.refused_tokens.Goals as goal

pub returns : goal.returns
unfolding encode_utf8 chars is_utf8 first_char use_of begins_term
returns c = record {
  two_atoms = run_refuses _ _ _ (_, refl, tt, refl);
  two_variables = run_refuses _ _ _ (_, refl, tt, refl);
  comma_as_argument = run_refuses _ _ _ (_, refl, tt, refl);
  no_argument = run_refuses _ _ _ (_, refl, tt, refl);
  space_before_arguments = run_refuses _ _ _ (_, refl, tt, refl);
  not_associative = run_refuses _ _ _ (_, refl, tt, refl);
  prefix_as_argument = run_refuses _ _ _ (_, refl, tt, refl);
  prefix_before_a_functor = run_refuses _ _ _ (_, refl, tt, refl);
  prefix_of_high_priority = run_refuses _ _ _ (_, refl, tt, refl);
  quoted_name_begins = run_refuses _ _ _ (_, refl, tt, refl);
  bar_in_parentheses = run_refuses _ _ _ (_, refl, tt, refl);
  two_bars = run_refuses _ _ _ (_, refl, tt, refl);
  comma_behind_bar = run_refuses _ _ _ (_, refl, tt, refl);
  bar_first = run_refuses _ _ _ (_, refl, tt, refl);
  no_operand = run_refuses _ _ _ (_, refl, tt, refl);
  nothing = run_refuses _ _ _ (_, refl, tt, refl);
  open_parenthesis = run_refuses _ _ _ (_, refl, tt, refl);
}
