use Rattle.std.proofs.Common.{take}
use Rattle.cq_dict.specs.Changes.{Moved}
use Rattle.cq_dict.proofs.Written.{CoversThese}
use Rattle.cq_dict.proofs.exchange.all_moved.Given as goal

abbrev pub invariant-loop-row : goal.invariant-loop-row
invariant-loop-row l = CoversThese (Moved l.fn.leaving l.fn.column l.fn.q l.fn.rate) l.roles (take l.row-index l.rows) l.changes.items
