use Rattle.spec_copies.proofs.Numeric.{numeric_row}
use Rattle.spec_copies.proofs.rows_of_copies_are_numeric.Goals as goal

pub returns : goal.returns
returns c = numeric_row
