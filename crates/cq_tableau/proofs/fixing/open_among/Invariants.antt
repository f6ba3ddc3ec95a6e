-- The open variables of the quantities so far.
use Rattle.cq_tableau.specs.Fixing.{AreOpenAmong}
use Rattle.cq_tableau.proofs.fixing.open_among.Given as goal

abbrev pub invariant-loop-n : goal.invariant-loop-n
invariant-loop-n l = AreOpenAmong l.rows l.names.now l.dict.roles l.n-index l.found.items
