use Rattle.std.proofs.Common.{take}
use Rattle.spec_projection.specs.Partial.{AreInequalities}
use Rattle.tests_projection.proofs.eliminate.are_inequalities.Given as goal

abbrev pub invariant-rows : goal.invariant-rows
invariant-rows l = AreInequalities (take l.row-index l.rows)
