use Rattle.std.proofs.Common.{take}
use Rattle.cq_elimination.specs.ApartSides.{NoneBounds}
use Rattle.cq_elimination.proofs.apart.is_bounded.Given as goal

abbrev pub invariant-rows : goal.invariant-rows
invariant-rows l = NoneBounds l.side l.variable (take l.row-index l.rows)
