use Rattle.std.proofs.Common.{take}
use Rattle.cq_dict.specs.Changes.{Turned}
use Rattle.cq_dict.proofs.Written.{CoversThese}
use Rattle.cq_dict.proofs.columns.Turn.changes.Given as goal

abbrev pub invariant-loop-row : goal.invariant-loop-row
invariant-loop-row l = CoversThese (Turned l.fn.self l.fn.column) l.roles (take l.row-index l.rows) l.changes.items
