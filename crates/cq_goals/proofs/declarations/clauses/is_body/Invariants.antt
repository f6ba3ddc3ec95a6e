use Rattle.spec_builtins.specs.Bodies.{is_body}
use Rattle.cq_term.specs.Trees.{tree}
use Rattle.cq_built.specs.Splitting.{waiting_size}
use Rattle.cq_goals.specs.Clauses.{IsBodyUnderWay}
use Rattle.cq_goals.proofs.declarations.clauses.is_body.Given as goal

abbrev pub invariant-loop-id : goal.invariant-loop-id
invariant-loop-id l = IsBodyUnderWay l.atoms l.heap.now.terms (is_body (tree l.atoms l.heap.now.terms l.fn.body)) l.waiting.items

abbrev pub decreases-loop-id : goal.decreases-loop-id
decreases-loop-id l = waiting_size l.heap.now.terms l.waiting.items
