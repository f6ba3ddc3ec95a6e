use Rattle.std.proofs.Common.{take}
use Rattle.cq_dict.proofs.Entries.{HoldingChanges}
use Rattle.cq_dict.proofs.holders.hold_changes.Given as goal

abbrev pub invariant-loop-change : goal.invariant-loop-change
invariant-loop-change l = HoldingChanges l.fn.heads l.fn.cells (take l.change-index l.changes) l.heads l.cells
