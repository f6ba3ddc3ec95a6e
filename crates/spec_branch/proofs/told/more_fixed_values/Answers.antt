use Rattle.spec_branch.proofs.AtPoints.{linear_over, false_stays}
use Rattle.spec_branch.proofs.told.more_fixed_values.Goals as goal

pub returns : goal.returns
returns c = record { linear = linear_over; no_solution = false_stays }
