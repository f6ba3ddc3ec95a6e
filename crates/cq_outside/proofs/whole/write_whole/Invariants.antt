use Rattle.std.proofs.Common.{◌≡◌, ◌≤◌, ◌-◌, length, take}
use Rattle.cq_outside.specs.Bytes.{Appends}
use Rattle.cq_outside.proofs.whole.write_whole.Given as goal

-- the first `at` bytes are written, and no write failed
abbrev pub invariant-loop-at : goal.invariant-loop-at
invariant-loop-at g l =
    (l.at ≤ length l.text)
    × Appends (g.K.Sink.held l.fn.sink) (g.K.Sink.held l.sink) (take l.at l.text)
    × (g.K.Sink.faults l.sink ≡ g.K.Sink.faults l.fn.sink)

abbrev pub decreases-loop-at : goal.decreases-loop-at
decreases-loop-at g l = length l.text - l.at
