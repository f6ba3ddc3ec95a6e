use Rattle.spec_linear.proofs.Together.{met_together}
use Rattle.spec_linear.proofs.inequalities.constraints_met_singly_are_met_together.Goals as goal

pub returns : goal.returns
returns c = met_together
