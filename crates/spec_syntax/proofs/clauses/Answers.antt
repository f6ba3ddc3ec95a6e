use Rattle.std.proofs.Common.{refl}
use Rattle.std.specs.Char.{encode_utf8}
use Rattle.std.specs.Str.{chars, is_utf8}
use Rattle.spec_syntax.specs.Characters.{first_char}
use Rattle.spec_syntax.specs.Grammar.{use_of, begins_term}
use Rattle.spec_syntax.proofs.Runs.{run_parses}
use Rattle.spec_syntax.proofs.clauses.Goals as goal

pub returns : goal.returns
unfolding encode_utf8 chars is_utf8 first_char use_of begins_term
returns c = record {
  rule = run_parses _ _ _ refl;
  directive = run_parses _ _ _ refl;
  from_the_left = run_parses _ _ _ refl;
  from_the_right = run_parses _ _ _ refl;
  by_priority = run_parses _ _ _ refl;
  in_parentheses = run_parses _ _ _ refl;
  prefix = run_parses _ _ _ refl;
  nested_prefix = run_parses _ _ _ refl;
  quoted_comma = run_parses _ _ _ refl;
  list = run_parses _ _ _ refl;
  empty_list = run_parses _ _ _ refl;
  curly = run_parses _ _ _ refl;
  functional_curly = run_parses _ _ _ refl;
  empty_curly = run_parses _ _ _ refl;
  text = run_parses _ _ _ refl;
  variables = run_parses _ _ _ refl;
}
