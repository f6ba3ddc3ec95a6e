use Rattle.spec_linear.proofs.Lists.{entailed_member, alike_solvable, alike_entails, alike_fixed}
use Rattle.spec_linear.proofs.lists_with_the_same_solutions.Goals as goal

pub returns : goal.returns
returns c = record {
  entailed = entailed_member;
  solvable = alike_solvable;
  entails = alike_entails;
  fixed = alike_fixed;
}
