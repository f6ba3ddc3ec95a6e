use Rattle.spec_engine.proofs.Thrown.{nearest_fits, caught, ball_waits, uncaught}
use Rattle.spec_engine.proofs.machine.laws.balls_are_handed.Goals as goal

pub returns-clause-fits : goal.returns-clause-fits
returns-clause-fits g c = nearest_fits

pub returns-clause-caught : goal.returns-clause-caught
returns-clause-caught g c = λ texts. caught (g.R.StateWorlds.is_state texts) (g.R.StateWorlds.term texts)

pub returns-clause-uncaught : goal.returns-clause-uncaught
returns-clause-uncaught g c = λ texts. uncaught (g.R.StateWorlds.is_state texts) (g.R.StateWorlds.term texts)

pub returns-clause-waits : goal.returns-clause-waits
returns-clause-waits g c = λ texts. ball_waits (g.R.StateWorlds.is_state texts) (g.R.StateWorlds.term texts)
