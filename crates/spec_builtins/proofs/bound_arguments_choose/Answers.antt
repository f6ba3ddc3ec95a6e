use Rattle.spec_builtins.proofs.Compared.{left_out}
use Rattle.spec_builtins.proofs.bound_arguments_choose.Goals as goal

pub returns : goal.returns
returns c = left_out
