use Rattle.spec_branch.specs.Checks.{halves}
use Rattle.cq_term.specs.Trees.{tree}
use Rattle.cq_goals.specs.Splitting.{IsNext, next_work}
use Rattle.cq_goals.proofs.halves.first_disjunction.Given as goal

abbrev pub invariant-loop-next : goal.invariant-loop-next
invariant-loop-next l = IsNext l.atoms l.heap.now.terms (halves (tree l.atoms l.heap.now.terms l.fn.constraint)) l.next l.path.items

abbrev pub decreases-loop-next : goal.decreases-loop-next
decreases-loop-next l = next_work l.heap.now.terms l.next l.path.items
