use Rattle.std.proofs.Common.{◌≡◌, ℕ, take}
use Rattle.spec_numbers.specs.Rational.{ℚ}
use Rattle.cq_frac.specs.Rows.{sum_at, joined}
use Rattle.cq_cexpr.specs.Slots.{IsRisingFrom}
use Rattle.cq_cexpr.proofs.slots.join_all.Given as goal

abbrev pub invariant-loop-entry : goal.invariant-loop-entry
invariant-loop-entry l = record {
  rising : IsRisingFrom 0 l.slots.items;
  value : (v : ℕ → ℚ) → sum_at v l.slots.items ≡ joined l.how (sum_at v l.fn.slots.items) (sum_at v (take l.entry-index l.entries));
}
