use Rattle.spec_branch.proofs.Telling.{told_kept, told_pruned}
use Rattle.spec_branch.proofs.telling_adds_the_constraint.Goals as goal

pub returns : goal.returns
returns c = record { kept = told_kept; pruned = told_pruned }
