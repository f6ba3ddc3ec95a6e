-- What the exchanges so far keep.
use Rattle.cq_simplex.proofs.Climbing.{Climbing}
use Rattle.cq_simplex.proofs.climb.climb.Given as goal

abbrev pub invariant-loop : goal.invariant-loop
invariant-loop l = Climbing l.row l.fn.dict l.dict
