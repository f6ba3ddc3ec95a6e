use Rattle.cq_branch.proofs.Stopping.{refuses, takes}
use Rattle.cq_branch.proofs.begin.laws.settlings_stop.Goals as goal

pub returns : goal.returns
returns c = record { overflow = refuses; pivots = takes }
