use Rattle.cq_settle.proofs.RestBeginning.{begins_ready}
use Rattle.cq_settle.proofs.rest.laws.new_worlds_are_ready.Goals as goal

pub returns : goal.returns
returns c = record { ready = begins_ready }
