use Rattle.cq_unify.proofs.Progress.{Solving}
use Rattle.cq_unify.proofs.Unbound.{unbound_from}
use Rattle.cq_unify.proofs.unification.solve.Given as goal

abbrev pub invariant-bindings : goal.invariant-bindings
invariant-bindings l = Solving l.fn.heap l.heap l.fn.a l.fn.b l.fn.newly l.newly l.work.items

abbrev pub decreases-bindings : goal.decreases-bindings
decreases-bindings l = unbound_from 0 l.heap.now.images
