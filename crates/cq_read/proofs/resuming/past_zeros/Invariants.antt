use Rattle.std.proofs.Common.{ℕ, ◌≤◌, ◌-◌, length}
use Rattle.spec_text.specs.Readings.{Resumes}
use Rattle.cq_read.proofs.resuming.past_zeros.Given as goal

abbrev pub invariant-loop-at : goal.invariant-loop-at
invariant-loop-at l = record {
  forward : l.from ≤ l.at;
  fits : l.at ≤ length l.text;
  same : (to : ℕ) → Resumes l.text l.at to → Resumes l.text l.from to;
}

abbrev pub decreases-loop-at : goal.decreases-loop-at
decreases-loop-at l = length l.text - l.at
