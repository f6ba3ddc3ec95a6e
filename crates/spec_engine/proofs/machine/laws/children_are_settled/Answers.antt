use Rattle.spec_engine.proofs.Made.{child_kept, child_removes, child_pruned, choice_waits}
use Rattle.spec_engine.proofs.machine.laws.children_are_settled.Goals as goal

pub returns-clause-kept : goal.returns-clause-kept
returns-clause-kept g c = λ texts. child_kept (g.R.StateWorlds.is_state texts) (g.R.StateWorlds.term texts)

pub returns-clause-pruned : goal.returns-clause-pruned
returns-clause-pruned g c = λ texts. child_pruned (g.R.StateWorlds.is_state texts) (g.R.StateWorlds.term texts)

pub returns-clause-waits : goal.returns-clause-waits
returns-clause-waits g c = λ texts. choice_waits (g.R.StateWorlds.is_state texts) (g.R.StateWorlds.term texts)

pub returns-clause-removed : goal.returns-clause-removed
returns-clause-removed g c = λ texts. child_removes (g.R.StateWorlds.is_state texts) (g.R.StateWorlds.term texts)
