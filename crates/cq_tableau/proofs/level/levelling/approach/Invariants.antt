-- The row is off zero still, and the exchanges are those of the rule.
use Rattle.cq_tableau.proofs.Goes.{Approaches}
use Rattle.cq_tableau.proofs.level.levelling.approach.Given as goal

abbrev pub invariant-loop : goal.invariant-loop
invariant-loop l = Approaches l.fn.q l.fn.up l.counter l.fn.dict l.dict
