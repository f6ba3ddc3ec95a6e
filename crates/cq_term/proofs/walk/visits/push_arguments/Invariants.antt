use Rattle.cq_term.specs.Meaning.{at}
use Rattle.cq_term.specs.Arguments.{PushesArguments}
use Rattle.cq_term.proofs.walk.visits.push_arguments.Given as goal

abbrev pub invariant-loop-i : goal.invariant-loop-i
invariant-loop-i l = PushesArguments l.heap.now.terms (at l.heap.now.terms l.fn.id) l.i l.fn.work.items l.work.items
