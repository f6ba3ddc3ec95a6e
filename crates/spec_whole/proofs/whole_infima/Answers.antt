use Rattle.spec_whole.proofs.Infima.{one, never_both, alike, alike_none}
use Rattle.spec_whole.proofs.whole_infima.Goals as goal

pub returns-clause-one : goal.returns-clause-one
returns-clause-one c = one

pub returns-clause-never_both : goal.returns-clause-never_both
returns-clause-never_both c = never_both

pub returns-clause-alike : goal.returns-clause-alike
returns-clause-alike c = alike

pub returns-clause-alike_none : goal.returns-clause-alike_none
returns-clause-alike_none c = alike_none
