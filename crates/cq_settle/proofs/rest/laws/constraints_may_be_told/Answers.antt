use Rattle.cq_settle.proofs.Told.{may_be_told}
use Rattle.cq_settle.proofs.rest.laws.constraints_may_be_told.Goals as goal

pub returns : goal.returns
returns c = record { called = may_be_told }
