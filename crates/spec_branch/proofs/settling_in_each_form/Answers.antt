use Rattle.spec_branch.proofs.EachForm.{kept_too, pruned_too}
use Rattle.spec_branch.proofs.settling_in_each_form.Goals as goal

pub returns : goal.returns
returns g = record {
  kept = λ items st l p b e. kept_too items st l e p b;
  pruned = λ items st l p why e. pruned_too items st l e p why;
}
