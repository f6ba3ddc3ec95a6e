use Rattle.spec_simplex.proofs.Steps.{joined_apart}
use Rattle.spec_simplex.proofs.tableau.disequations_join.Goals as goal

pub returns : goal.returns
returns c = joined_apart
