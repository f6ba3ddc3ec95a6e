use Rattle.spec_engine.proofs.Made.{goal_made}
use Rattle.spec_engine.proofs.Passed.{selects}
use Rattle.spec_engine.proofs.machine.laws.goals_are_selected.Goals as goal

pub returns-clause-selected : goal.returns-clause-selected
returns-clause-selected g c = λ texts. selects (g.R.StateWorlds.is_state texts) (g.R.StateWorlds.term texts) 0

pub returns-clause-made : goal.returns-clause-made
returns-clause-made g c = goal_made
