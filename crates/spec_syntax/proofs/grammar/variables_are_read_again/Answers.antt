use Rattle.spec_syntax.proofs.Again.{variable_again}
use Rattle.spec_syntax.proofs.grammar.variables_are_read_again.Goals as goal

pub returns : goal.returns
returns c = variable_again
