use Rattle.spec_linear.proofs.Lists.{member_holds, solves_append, unsolvable_more, entails_more, fixed_more, false_unsolvable}
use Rattle.spec_linear.proofs.more_constraints.Goals as goal

pub returns : goal.returns
returns c = record {
  member = member_holds;
  together = solves_append;
  unsolvable = unsolvable_more;
  entails = entails_more;
  fixed = fixed_more;
  never = false_unsolvable;
}
