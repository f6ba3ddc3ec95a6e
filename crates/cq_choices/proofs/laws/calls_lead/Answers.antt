use Rattle.cq_choices.proofs.Leading.{call_comes}
use Rattle.cq_choices.proofs.laws.calls_lead.Goals as goal

pub returns : goal.returns
returns c = call_comes
