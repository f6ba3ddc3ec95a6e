use Rattle.spec_simplex.proofs.More.{empty_kept, empty_linked}
use Rattle.spec_simplex.proofs.tableau.empty_tableau.Goals as goal

pub returns : goal.returns
returns c = record {
  keeps = empty_kept;
  linked = empty_linked;
}
