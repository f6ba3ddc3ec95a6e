use Rattle.spec_branch.proofs.Meant.{closure_keeps}
use Rattle.spec_branch.proofs.closures_keep_the_solutions.Goals as goal

pub returns : goal.returns
returns c = closure_keeps
