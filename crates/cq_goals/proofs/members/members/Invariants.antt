use Rattle.spec_branch.specs.Checks.{members}
use Rattle.cq_term.specs.Trees.{tree}
use Rattle.cq_built.specs.Splitting.{waiting_size, IsTakenApart}
use Rattle.cq_goals.proofs.members.members.Given as goal

abbrev pub invariant-loop-id : goal.invariant-loop-id
invariant-loop-id l = IsTakenApart members l.atoms l.heap.now.terms (members (tree l.atoms l.heap.now.terms l.fn.constraint)) l.found.items l.waiting.items

abbrev pub decreases-loop-id : goal.decreases-loop-id
decreases-loop-id l = waiting_size l.heap.now.terms l.waiting.items
