use Rattle.cq_term.proofs.SideBySide.{weight}
use Rattle.cq_unify.proofs.Equations.{Remains}
use Rattle.cq_unify.proofs.pairs.next.Given as goal

abbrev pub invariant-loop-pair : goal.invariant-loop-pair
invariant-loop-pair l = Remains l.heap.now.terms l.fn.work.items l.work.items

abbrev pub decreases-loop-pair : goal.decreases-loop-pair
decreases-loop-pair l = weight l.heap.now.terms l.work.items
