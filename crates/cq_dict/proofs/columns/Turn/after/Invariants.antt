use Rattle.std.proofs.Common.{length}
use Rattle.cq_dict.proofs.Turned.{Turning}
use Rattle.cq_dict.proofs.columns.Turn.after.Given as goal

abbrev pub invariant-loop-change : goal.invariant-loop-change
invariant-loop-change l = Turning l.fn.self l.fn.column l.initial.changes.items l.changes.items l.turned.items

abbrev pub decreases-loop-change : goal.decreases-loop-change
decreases-loop-change l = length l.changes.items
