use Rattle.std.proofs.Common.{take}
use Rattle.cq_equations.specs.Told.{numbers_of}
use Rattle.cq_elimination.specs.Lines.{lines_of}
use Rattle.cq_elimination.proofs.Joined.{Arranged}
use Rattle.cq_elimination.proofs.arrange.arranged.Given as goal

abbrev pub invariant-rows : goal.invariant-rows
invariant-rows l = Arranged (numbers_of l.order) (take l.row-index l.rows) (lines_of l.arranged.items)
