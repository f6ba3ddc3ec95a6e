use Rattle.spec_linear.proofs.Points.{solves_same, multiplied_same, equation_multiplied_same}
use Rattle.spec_linear.proofs.multiplying_changes_nothing.Goals as goal

pub returns : goal.returns
returns c = record {
  through = solves_same;
  constraint = multiplied_same;
  equation = equation_multiplied_same;
}
