use Rattle.cq_settle.proofs.Told.{left_ready, left_live, left_goals, ready_names}
use Rattle.cq_settle.proofs.rest.laws.kept_worlds_are_ready.Goals as goal

pub returns : goal.returns
returns c = record { ready = left_ready; live = left_live; goals = left_goals; names = ready_names }
