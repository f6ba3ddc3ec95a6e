use Rattle.spec_engine.proofs.Passed.{cut_passed, fail_passed, end_passed, end_cuts}
use Rattle.spec_engine.proofs.machine.laws.marks_are_passed.Goals as goal

pub returns-clause-cut : goal.returns-clause-cut
returns-clause-cut g c = λ texts. cut_passed (g.R.StateWorlds.is_state texts) (g.R.StateWorlds.term texts)

pub returns-clause-cut_fails : goal.returns-clause-cut_fails
returns-clause-cut_fails g c = λ texts. fail_passed (g.R.StateWorlds.is_state texts) (g.R.StateWorlds.term texts)

pub returns-clause-end : goal.returns-clause-end
returns-clause-end g c = λ texts. end_passed (g.R.StateWorlds.is_state texts) (g.R.StateWorlds.term texts)

pub returns-clause-end_cuts : goal.returns-clause-end_cuts
returns-clause-end_cuts g c = λ texts. end_cuts (g.R.StateWorlds.is_state texts) (g.R.StateWorlds.term texts)
