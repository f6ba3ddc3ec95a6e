use Rattle.std.proofs.Common.{Some, length}
use Rattle.cq_goals.specs.Splitting.{all_resumed, halves_at, IsJoining}
use Rattle.cq_goals.proofs.halves.joined.Given as goal

abbrev pub invariant-loop-frame : goal.invariant-loop-frame
invariant-loop-frame l =
    IsJoining l.atoms l.fn.heap (all_resumed l.atoms l.fn.heap.now.terms l.fn.place.path.items (Some (halves_at l.atoms l.fn.heap.now.terms l.fn.place.halves)))
    l.heap l.path.items l.halves

abbrev pub decreases-loop-frame : goal.decreases-loop-frame
decreases-loop-frame l = length l.path.items
