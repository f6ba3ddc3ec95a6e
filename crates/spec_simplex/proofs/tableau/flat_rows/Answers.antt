use Rattle.spec_simplex.proofs.TableauWritten.{nothing_is, moves}
use Rattle.spec_simplex.proofs.tableau.flat_rows.Goals as goal

pub returns : goal.returns
returns c = record {
  nothing = nothing_is;
  something = moves;
}
