use Rattle.std.proofs.Common.{take}
use Rattle.std.specs.Prelude.{All}
use Rattle.cq_unify.proofs.Occurrences.{IsAbsent}
use Rattle.cq_unify.proofs.occurs.occurs_flat.Given as goal

abbrev pub invariant-loop-id : goal.invariant-loop-id
invariant-loop-id l = All (IsAbsent l.heap.now.terms l.variable.0) (take l.id-index l.ids)
