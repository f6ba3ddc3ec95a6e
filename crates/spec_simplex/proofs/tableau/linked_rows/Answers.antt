use Rattle.spec_simplex.proofs.Linked.{linked_written, linked_changed, linked_row, linked_column}
use Rattle.spec_simplex.proofs.tableau.linked_rows.Goals as goal

pub returns : goal.returns
returns c = record {
  written = linked_written;
  change = linked_changed;
  row = linked_row;
  column = linked_column;
}
