use Rattle.std.proofs.Common.{map}
use Rattle.std.specs.List.{sum_by}
use Rattle.spec_terms.specs.Term.{size}
use Rattle.cq_term.specs.Meaning.{at}
use Rattle.cq_unify.proofs.Walked.{Walks}
use Rattle.cq_unify.proofs.occurs.walk.Given as goal

abbrev pub invariant-loop-id : goal.invariant-loop-id
invariant-loop-id l = Walks l.heap.now.terms l.variable.0 (at l.heap.now.terms l.fn.term) l.work.items l.visited.known l.walked.items l.is_clean

abbrev pub decreases-loop-id : goal.decreases-loop-id
decreases-loop-id l = sum_by size (map (at l.heap.now.terms) l.work.items)
