use Rattle.spec_command.proofs.Least.{least_value}
use Rattle.spec_command.proofs.generating.the_last_variable_has_a_least_value.Goals as goal

pub returns : goal.returns
returns c = least_value
