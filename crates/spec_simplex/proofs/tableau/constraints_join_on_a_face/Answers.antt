use Rattle.spec_simplex.proofs.Steps.{joined_again}
use Rattle.spec_simplex.proofs.tableau.constraints_join_on_a_face.Goals as goal

pub returns : goal.returns
returns c = joined_again
