use Rattle.std.proofs.Common.{◌≡◌, take}
use Rattle.std.specs.Prelude.{map}
use Rattle.spec_projection.specs.Elimination.{lower_rows, upper_rows, other_rows}
use Rattle.cq_elimination.specs.FourierSides.{over_coefficient}
use Rattle.cq_elimination.proofs.fourier.sides_of.Given as goal

abbrev pub invariant-rows : goal.invariant-rows
invariant-rows l = record {
  others : l.sides.others.items ≡ other_rows l.variable.0 (take l.row-index l.rows);
  lower : l.sides.lower.items ≡ map (over_coefficient l.variable.0) (lower_rows l.variable.0 (take l.row-index l.rows));
  upper : l.sides.upper.items ≡ map (over_coefficient l.variable.0) (upper_rows l.variable.0 (take l.row-index l.rows));
}
