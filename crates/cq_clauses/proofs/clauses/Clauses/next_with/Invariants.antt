use Rattle.std.proofs.Common.{◌≡◌, Some, length}
use Rattle.cq_clauses.specs.Selected.{key_at, matching}
use Rattle.cq_clauses.specs.Snapshots.{IsSnapshot, seen}
use Rattle.cq_clauses.proofs.clauses.Clauses.next_with.Given as goal

abbrev pub invariant-loop-clause : goal.invariant-loop-clause
invariant-loop-clause g l =
    let picked = matching (key_at g.C.Keyed.key_of l.self.contents) (Some l.key) in
    record {
      opened : IsSnapshot l.rest l.self.procedures;
      left : picked (seen l.rest l.self.procedures) ≡ picked (seen l.fn.snapshot l.self.procedures);
    }

abbrev pub decreases-loop-clause : goal.decreases-loop-clause
decreases-loop-clause g l = length (seen l.rest l.self.procedures)
