use Rattle.spec_linear.proofs.echelon.solved_lists_are_solvable.Goals as goal
use Rattle.spec_linear.proofs.Solving.{solvable}

pub returns : goal.returns
returns c = solvable
