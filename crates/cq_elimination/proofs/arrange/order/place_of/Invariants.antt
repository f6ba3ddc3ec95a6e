use Rattle.std.proofs.Common.{◌-◌}
use Rattle.cq_equations.specs.Told.{numbers_of}
use Rattle.cq_elimination.proofs.Placed.{Between}
use Rattle.cq_elimination.proofs.arrange.order.place_of.Given as goal

abbrev pub invariant-halves : goal.invariant-halves
invariant-halves l = Between (numbers_of l.order) l.rows l.row l.low l.high

abbrev pub decreases-halves : goal.decreases-halves
decreases-halves l = l.high - l.low
