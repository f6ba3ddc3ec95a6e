use Rattle.spec_points.proofs.Lines.{a_line, one_line}
use Rattle.spec_points.proofs.rows_have_one_line.Goals as goal

pub returns : goal.returns
returns c = record { exists = a_line; one = one_line }
