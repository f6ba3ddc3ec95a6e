use Rattle.std.proofs.Common.{◌≡◌, ℕ, take}
use Rattle.std.specs.Prelude.{slice_index}
use Rattle.cq_attr.specs.Chains.{HasPlaces}
use Rattle.cq_attr.proofs.notes.widen.Given as goal

abbrev pub invariant-loop-variable : goal.invariant-loop-variable
invariant-loop-variable l = record {
  same : (v : ℕ) → slice_index l.newest.items v ≡ slice_index l.fn.newest.items v;
  places : HasPlaces l.newest.items (take l.variable-index l.variables);
}
