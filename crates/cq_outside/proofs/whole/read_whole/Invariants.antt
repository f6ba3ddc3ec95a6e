use Rattle.std.proofs.Common.{◌≡◌, ◌≤◌, ◌+◌, ◌-◌, length}
use Rattle.cq_outside.specs.Whole.{TakesBytes}
use Rattle.cq_outside.proofs.whole.read_whole.Given as goal

-- the bytes are those that were taken, within the limit, and no read failed
abbrev pub invariant-pieces : goal.invariant-pieces
invariant-pieces g l =
    TakesBytes (g.S.Source.left l.fn.source) (g.S.Source.left l.source) (g.S.Source.taken l.fn.source) (g.S.Source.taken l.source) l.bytes.items
    × (length l.bytes.items ≤ l.limit)
    × (g.S.Source.faults l.source ≡ g.S.Source.faults l.fn.source)

abbrev pub decreases-pieces : goal.decreases-pieces
decreases-pieces g l = l.limit + 1 - length l.bytes.items
