use Rattle.std.proofs.Common.{length}
use Rattle.cq_term.specs.Meaning.{at}
use Rattle.cq_clauses.specs.Walks.{IsWalk}
use Rattle.cq_calls.specs.Calling.{numbers_left}
use Rattle.cq_calls.specs.Matching.{Narrows}
use Rattle.cq_calls.proofs.calling.may_follow.Given as goal

abbrev pub invariant-clauses : goal.invariant-clauses
invariant-clauses l =
    record {
      passed : Narrows l.fn.clauses (at l.fn.heap.now.terms l.goal) (numbers_left l.fn.clauses l.fn.walk) (numbers_left l.fn.clauses l.left);
      opened : IsWalk l.left l.fn.clauses;
    }

abbrev pub decreases-clauses : goal.decreases-clauses
decreases-clauses l = length (numbers_left l.fn.clauses l.left)
