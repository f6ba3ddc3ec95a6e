use Rattle.spec_branch.proofs.Truth.{linear_holds, false_nowhere, joins_as_truth, false_over}
use Rattle.spec_branch.proofs.told.told_constraints_are_true_terms.Goals as goal

pub returns : goal.returns
returns c = record { linear = linear_holds; nowhere = false_nowhere; joined = joins_as_truth; unsolvable = false_over }
