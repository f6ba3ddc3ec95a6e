use Rattle.spec_linear.proofs.Targets.{same_for_alike_lists, same_for_alike_rows}
use Rattle.spec_linear.proofs.same_for_alike.Goals as goal

pub returns : goal.returns
returns c = record {
  lists = same_for_alike_lists;
  rows = same_for_alike_rows;
}
