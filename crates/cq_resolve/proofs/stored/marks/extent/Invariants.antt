use Rattle.cq_resolve.proofs.Marks.{Through}
use Rattle.cq_resolve.proofs.stored.marks.extent.Given as goal

abbrev pub invariant-loop : goal.invariant-loop
invariant-loop l = Through l.parts l.place l.counter l.end l.top
