use Rattle.std.proofs.Common.{◌+◌, ◌-◌, length}
use Rattle.cq_frac.proofs.Merge.{State}
use Rattle.cq_frac.proofs.row.merged.Given as goal

abbrev pub invariant-loop-next : goal.invariant-loop-next
invariant-loop-next l = State l.how l.scale l.a l.b l.row.items l.i l.j

abbrev pub decreases-loop-next : goal.decreases-loop-next
decreases-loop-next l = (length l.a - l.i) + (length l.b - l.j)
