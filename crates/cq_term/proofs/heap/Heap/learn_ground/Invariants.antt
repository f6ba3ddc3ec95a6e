use Rattle.std.proofs.Common.{◌≡◌}
use Rattle.cq_term.proofs.heap.Heap.learn_ground.Given as goal

abbrev pub invariant-loop-id : goal.invariant-loop-id
invariant-loop-id l = l.self ≡ l.fn.self
