use Rattle.std.proofs.Common.{◌≡◌, ℕ, ◌+◌, ◌-◌, ◌<◌, ◌≤◌, Some, length}
use Rattle.std.specs.Prelude.{slice_get}
use Rattle.cq_clauses.specs.declared.index.Index.{Index}
use Rattle.cq_clauses.proofs.indexes.Indexes.put.Given as goal

abbrev pub invariant-loop-self : goal.invariant-loop-self
invariant-loop-self l = record {
  within : (bound : ℕ) → length l.fn.self.list.items ≤ bound → l.procedure < bound → length l.self.list.items ≤ bound;
  kept : (q : ℕ) (i : Index) → slice_get l.self.list.items q ≡ Some (Some i) → slice_get l.fn.self.list.items q ≡ Some (Some i);
}

abbrev pub decreases-loop-self : goal.decreases-loop-self
decreases-loop-self l = l.procedure + 1 - length l.self.list.items
