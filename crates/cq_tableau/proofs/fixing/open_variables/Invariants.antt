-- The open variables of the quantities so far.
use Rattle.cq_tableau.specs.Fixing.{AreOpen}
use Rattle.cq_tableau.proofs.fixing.open_variables.Given as goal

abbrev pub invariant-loop-n : goal.invariant-loop-n
invariant-loop-n l = AreOpen l.names.now l.dict.roles l.n l.found.items
