use Rattle.std.proofs.Common.{refl}
use Rattle.std.specs.Char.{encode_utf8}
use Rattle.std.specs.Str.{chars, is_utf8}
use Rattle.spec_syntax.specs.Characters.{first_char}
use Rattle.spec_syntax.specs.Grammar.{use_of, begins_term}
use Rattle.spec_syntax.proofs.Runs.{run_parses}
use Rattle.spec_syntax.proofs.operators_as_atoms.Goals as goal

pub returns : goal.returns
unfolding encode_utf8 chars is_utf8 first_char use_of begins_term
returns c = record {
  operand = run_parses _ _ _ refl;
  operands = run_parses _ _ _ refl;
  arguments = run_parses _ _ _ refl;
  element = run_parses _ _ _ refl;
  alone = run_parses _ _ _ refl;
  operand_of_a_prefix = run_parses _ _ _ refl;
  functional = run_parses _ _ _ refl;
}
