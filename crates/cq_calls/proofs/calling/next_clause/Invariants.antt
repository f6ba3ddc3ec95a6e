use Rattle.std.proofs.Common.{◌<◌, length}
use Rattle.cq_term.specs.Meaning.{at}
use Rattle.cq_clauses.specs.Walks.{IsWalk}
use Rattle.cq_calls.specs.Calling.{LeavesFirst, numbers_left}
use Rattle.cq_calls.specs.Matching.{Narrows}
use Rattle.cq_calls.proofs.calling.next_clause.Given as goal

abbrev pub invariant-clauses : goal.invariant-clauses
invariant-clauses l =
    record {
      passed : Narrows l.fn.clauses (at l.fn.heap.now.terms l.goal) (numbers_left l.fn.clauses l.fn.walk) (numbers_left l.fn.clauses l.walk);
      opened : IsWalk l.walk l.fn.clauses;
      behind : IsWalk l.behind l.fn.clauses;
      known : l.number < length l.fn.clauses.contents;
      next : LeavesFirst l.fn.clauses l.walk l.number l.behind;
    }

abbrev pub decreases-clauses : goal.decreases-clauses
decreases-clauses l = length (numbers_left l.fn.clauses l.walk)
