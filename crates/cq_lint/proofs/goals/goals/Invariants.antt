use Rattle.cq_term.specs.Trees.{tree}
use Rattle.cq_built.specs.Splitting.{waiting_size, IsTakenApart}
use Rattle.cq_lint.specs.Goals.{goals_of}
use Rattle.cq_lint.proofs.goals.goals.Given as goal

abbrev pub invariant-loop-id : goal.invariant-loop-id
invariant-loop-id l = IsTakenApart goals_of l.atoms l.heap.now.terms (goals_of (tree l.atoms l.heap.now.terms l.fn.goal)) l.found.items l.waiting.items

abbrev pub decreases-loop-id : goal.decreases-loop-id
decreases-loop-id l = waiting_size l.heap.now.terms l.waiting.items
