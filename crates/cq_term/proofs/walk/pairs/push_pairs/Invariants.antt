use Rattle.cq_term.specs.Pairs.{PushesPairs}
use Rattle.cq_term.proofs.walk.pairs.push_pairs.Given as goal

abbrev pub invariant-loop-i : goal.invariant-loop-i
invariant-loop-i l = PushesPairs l.heap.now.terms l.fn.left l.fn.right l.i l.fn.work.items l.work.items
