use Rattle.std.proofs.Common.{◌≡◌, ℕ}
use Rattle.spec_numbers.specs.Rational.{ℚ, 0ℚ}
use Rattle.cq_frac.specs.Rows.{sum_at}
use Rattle.cq_cexpr.specs.Slots.{IsRisingFrom}
use Rattle.cq_cexpr.proofs.slots.slots_for.Given as goal

abbrev pub invariant-loop-variable : goal.invariant-loop-variable
invariant-loop-variable l = record {
  rising : IsRisingFrom 0 l.slots.items;
  value : (v : ℕ → ℚ) → sum_at v l.slots.items ≡ 0ℚ;
}
