use Rattle.cq_calls.proofs.CalledClauses.{calls_come}
use Rattle.cq_calls.proofs.laws.called_goals_come_on.Goals as goal

pub returns : goal.returns
returns c = calls_come
