use Rattle.std.proofs.Common.{ℕ, ◌<◌, ◌≤◌, ◌-◌, length}
use Rattle.spec_text.specs.Decided.{IsFullStop}
use Rattle.cq_read.proofs.feed.has_full_stop.Given as goal

abbrev pub invariant-loop-at : goal.invariant-loop-at
invariant-loop-at l = record {
  fits : l.at ≤ length l.text;
  none : (stop : ℕ) → l.from ≤ stop → stop < l.at → IsFullStop l.text stop → ⊥;
}

abbrev pub decreases-loop-at : goal.decreases-loop-at
decreases-loop-at l = length l.text - l.at
