use Rattle.spec_branch.proofs.AtRest.{kept_rests}
use Rattle.spec_branch.proofs.kept_branches_are_settled.Goals as goal

pub returns : goal.returns
returns c = kept_rests
