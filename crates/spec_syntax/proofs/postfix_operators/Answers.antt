use Rattle.std.proofs.Common.{refl}
use Rattle.std.specs.Char.{encode_utf8}
use Rattle.std.specs.Str.{chars, is_utf8}
use Rattle.spec_syntax.specs.Characters.{first_char}
use Rattle.spec_syntax.specs.Grammar.{use_of, begins_term}
use Rattle.spec_syntax.proofs.Runs.{run_parses}
use Rattle.spec_syntax.proofs.postfix_operators.Goals as goal

pub returns : goal.returns
unfolding encode_utf8 chars is_utf8 first_char use_of begins_term
returns c = record {
  taken_within = run_parses _ _ _ refl;
  taken_outside = run_parses _ _ _ refl;
  as_atom = run_parses _ _ _ refl;
}
