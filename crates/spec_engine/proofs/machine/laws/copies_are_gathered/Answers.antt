use Rattle.spec_engine.proofs.Gathered.{collects_there, copy_gathered}
use Rattle.spec_engine.proofs.machine.laws.copies_are_gathered.Goals as goal

pub returns-clause-gathers : goal.returns-clause-gathers
returns-clause-gathers g c = λ texts. collects_there (g.R.StateWorlds.is_state texts) (g.R.StateWorlds.term texts)

pub returns-clause-comes : goal.returns-clause-comes
returns-clause-comes g c = λ texts. copy_gathered (g.R.StateWorlds.is_state texts) (g.R.StateWorlds.term texts)
