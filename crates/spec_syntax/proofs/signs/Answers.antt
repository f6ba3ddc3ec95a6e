use Rattle.std.proofs.Common.{refl}
use Rattle.std.specs.Char.{encode_utf8}
use Rattle.std.specs.Str.{chars, is_utf8}
use Rattle.spec_syntax.specs.Characters.{first_char}
use Rattle.spec_syntax.specs.Grammar.{use_of, begins_term}
use Rattle.spec_syntax.proofs.Runs.{run_parses}
use Rattle.spec_syntax.proofs.signs.Goals as goal

pub returns : goal.returns
unfolding encode_utf8 chars is_utf8 first_char use_of begins_term
returns c = record {
  number = run_parses _ _ _ refl;
  operator = run_parses _ _ _ refl;
  functional = run_parses _ _ _ refl;
  quoted = run_parses _ _ _ refl;
  number_to_a_power = run_parses _ _ _ refl;
  operator_and_power = run_parses _ _ _ refl;
  difference = run_parses _ _ _ refl;
  difference_of_a_number = run_parses _ _ _ refl;
}
