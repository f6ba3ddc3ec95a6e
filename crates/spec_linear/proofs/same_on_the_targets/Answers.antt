use Rattle.spec_linear.proofs.Targets.{same_solvable, same_entails, same_fixed}
use Rattle.spec_linear.proofs.same_on_the_targets.Goals as goal

pub returns : goal.returns
returns c = record {
  solvable = same_solvable;
  entails = same_entails;
  fixed = same_fixed;
}
