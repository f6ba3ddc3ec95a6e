use Rattle.spec_builtins.specs.Clauses.{declared_terms}
use Rattle.cq_term.specs.Trees.{tree}
use Rattle.cq_built.specs.Splitting.{waiting_size, IsTakenApart}
use Rattle.cq_goals.proofs.declarations.declarations.declared_terms.Given as goal

abbrev pub invariant-loop-id : goal.invariant-loop-id
invariant-loop-id l = IsTakenApart declared_terms l.atoms l.heap.now.terms (declared_terms (tree l.atoms l.heap.now.terms l.fn.term)) l.found.items l.waiting.items

abbrev pub decreases-loop-id : goal.decreases-loop-id
decreases-loop-id l = waiting_size l.heap.now.terms l.waiting.items
