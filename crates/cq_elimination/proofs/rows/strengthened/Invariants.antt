use Rattle.std.proofs.Common.{take}
use Rattle.spec_projection.specs.Strict.{Strengthened}
use Rattle.cq_elimination.proofs.rows.strengthened.Given as goal

abbrev pub invariant-rows : goal.invariant-rows
invariant-rows l = Strengthened l.disequations (take l.row-index l.rows) l.strict.items
