use Rattle.cq_goals.specs.Checking.{part_error, waiting_size, IsUnderWay}
use Rattle.cq_goals.proofs.checks.check.Given as goal

abbrev pub invariant-loop-part : goal.invariant-loop-part
invariant-loop-part l = IsUnderWay l.purpose l.atoms l.heap.now.terms (part_error l.purpose l.atoms l.heap.now.terms l.fn.whole) l.waiting.items

abbrev pub decreases-loop-part : goal.decreases-loop-part
decreases-loop-part l = waiting_size l.heap.now.terms l.waiting.items
