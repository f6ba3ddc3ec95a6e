use Rattle.cq_clauses.specs.Named.{behind, Searches}
use Rattle.cq_clauses.proofs.predicates.find_from.Given as goal

abbrev pub invariant-loop-number : goal.invariant-loop-number
invariant-loop-number l = Searches l.pred l.named l.number

abbrev pub decreases-loop-number : goal.decreases-loop-number
decreases-loop-number l = behind l.number
