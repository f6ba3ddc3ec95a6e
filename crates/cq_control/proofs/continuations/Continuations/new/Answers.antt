use Rattle.cq_control.proofs.Lists.{lists-none}
use Rattle.cq_control.proofs.continuations.Continuations.new.Goals as goal

pub returns-clause-now : goal.returns-clause-now
returns-clause-now g c = rw c.new.ensures.now lists-none
