use Rattle.std.proofs.Common.{ℕ, ◌≤◌, ◌+◌, ◌-◌, length}
use Rattle.spec_text.specs.Readings.{Resumes}
use Rattle.cq_read.proofs.resuming.resume.Given as goal

abbrev pub invariant-loop-token : goal.invariant-loop-token
invariant-loop-token l = record {
  fits : l.at ≤ length l.text;
  same : (to : ℕ) → Resumes l.text l.at to → Resumes l.text l.from to;
}

abbrev pub decreases-loop-token : goal.decreases-loop-token
decreases-loop-token l = length l.text - l.at
