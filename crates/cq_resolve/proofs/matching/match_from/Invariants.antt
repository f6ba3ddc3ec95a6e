use Rattle.std.proofs.Common.{◌≡◌, ◌≤◌, ◌-◌, ◌++◌, ℕ, List, length, map, drop}
use Rattle.std.specs.Prelude.{All}
use Rattle.cq_frac.specs.declared.VarId.{VarId}
use Rattle.cq_resolve.specs.Pattern.{IsNamedBelow}
use Rattle.cq_term.specs.Names.{KeepsNames}
use Rattle.cq_resolve.specs.Marks.{shown, AreMet}
use Rattle.cq_resolve.specs.Matching.{Call, IsAt}
use Rattle.cq_resolve.proofs.matching.match_from.Given as goal

abbrev pub invariant-loop-goal : goal.invariant-loop-goal
invariant-loop-goal l = record {
  matching : (c : Call) → IsAt c (map shown l.head) l.first l.fn.heap.now l.fn.newly l.fn.walk → IsAt c (map shown l.head) l.first l.heap.now l.newly l.walk;
  within : l.walk.place ≤ length l.head;
  met : AreMet l.walk.met (drop l.walk.place l.head);
  told : (more : List VarId) × (l.newly ≡ l.fn.newly ++ more);
  names : (n : ℕ) → All (IsNamedBelow n) (map shown l.head) → KeepsNames n l.fn.heap.now l.heap.now;
  saved : l.heap.saved ≡ l.fn.heap.saved;
  room : l.fn.heap.room ≤ l.heap.room;
}

abbrev pub decreases-loop-goal : goal.decreases-loop-goal
decreases-loop-goal l = length l.head - l.walk.place
