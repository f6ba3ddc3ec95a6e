use Rattle.spec_branch.proofs.Meant.{kept_means, pruned_means}
use Rattle.spec_branch.proofs.settling_keeps_the_solutions.Goals as goal

pub returns : goal.returns
returns c = record { kept = kept_means; pruned = pruned_means }
