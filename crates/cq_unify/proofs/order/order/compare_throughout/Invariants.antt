use Rattle.cq_term.specs.Meaning.{at}
use Rattle.cq_unify.specs.Standing.{order_of}
use Rattle.cq_term.proofs.SideBySide.{weight}
use Rattle.cq_unify.proofs.Ranks.{TellOrder}
use Rattle.cq_unify.proofs.order.order.compare_throughout.Given as goal

abbrev pub invariant-loop-pair : goal.invariant-loop-pair
invariant-loop-pair l = TellOrder l.atoms l.heap.now.terms (order_of l.atoms (at l.heap.now.terms l.fn.a) (at l.heap.now.terms l.fn.b)) l.work.items

abbrev pub decreases-loop-pair : goal.decreases-loop-pair
decreases-loop-pair l = weight l.heap.now.terms l.work.items
