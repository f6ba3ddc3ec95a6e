use Rattle.spec_command.proofs.Bound.{bound_is_least}
use Rattle.spec_command.proofs.generating.the_bound_is_the_least_value.Goals as goal

pub returns : goal.returns
returns c k small l e q solutions valued h = bound_is_least k small l e solutions valued q h
