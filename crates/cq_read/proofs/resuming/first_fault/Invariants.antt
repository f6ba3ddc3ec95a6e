use Rattle.std.proofs.Common.{◌≤◌, ◌-◌, length}
use Rattle.cq_read.proofs.Passing.{SameFault}
use Rattle.cq_read.proofs.resuming.first_fault.Given as goal

abbrev pub invariant-loop-token : goal.invariant-loop-token
invariant-loop-token l = record {
  fits : l.at ≤ length l.text;
  same : SameFault l.text l.from l.at l.at;
}

abbrev pub decreases-loop-token : goal.decreases-loop-token
decreases-loop-token l = length l.text - l.at
