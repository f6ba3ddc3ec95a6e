-- The row is off zero still, and a search may begin.
use Rattle.cq_tableau.proofs.Goes.{Climbs}
use Rattle.cq_tableau.proofs.level.levelling.climb.Given as goal

abbrev pub invariant-loop : goal.invariant-loop
invariant-loop l = Climbs l.fn.q l.fn.up l.fn.dict l.dict
