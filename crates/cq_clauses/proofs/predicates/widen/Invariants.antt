use Rattle.std.proofs.Common.{◌≡◌, ℕ, None, get_or, take}
use Rattle.cq_clauses.specs.Named.{HasPlaces}
use Rattle.cq_clauses.proofs.predicates.widen.Given as goal

abbrev pub invariant-loop-pred : goal.invariant-loop-pred
invariant-loop-pred l = record {
  same : (name : ℕ) → get_or l.newest.items name None ≡ get_or l.fn.newest.items name None;
  places : HasPlaces l.newest.items (take l.pred-index l.preds);
}
