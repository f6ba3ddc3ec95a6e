-- What was found so far is a rise.
use Rattle.std.specs.Prelude.{IfSome}
use Rattle.cq_simplex.specs.Climbs.{IsRise}
use Rattle.cq_simplex.proofs.climb.best_rise.Given as goal

abbrev pub invariant-loop-m : goal.invariant-loop-m
invariant-loop-m l = IfSome l.best (IsRise l.dict.roles l.dict.restricted l.row)
