use Rattle.cq_settle.proofs.Asleep.{goal_sleeps}
use Rattle.cq_settle.proofs.rest.laws.goals_may_be_put_to_sleep.Goals as goal

pub returns : goal.returns
returns c = record { ready = goal_sleeps }
