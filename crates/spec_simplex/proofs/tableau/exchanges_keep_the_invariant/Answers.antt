use Rattle.spec_simplex.proofs.Steps.{exchanged}
use Rattle.spec_simplex.proofs.tableau.exchanges_keep_the_invariant.Goals as goal

pub returns : goal.returns
returns c = λ d e l i r w f. exchanged d e l i r w f
