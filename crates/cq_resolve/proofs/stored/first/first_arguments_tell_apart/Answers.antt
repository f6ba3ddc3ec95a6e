use Rattle.cq_resolve.proofs.FirstArguments.{told_apart}
use Rattle.cq_resolve.proofs.stored.first.first_arguments_tell_apart.Goals as goal

pub returns : goal.returns
returns c = told_apart
