use Rattle.spec_simplex.proofs.More.{one_constant, one_entry}
use Rattle.spec_simplex.proofs.tableau.rows_are_unique.Goals as goal

pub returns : goal.returns
returns c = record {
  constant = one_constant;
  entry = one_entry;
}
