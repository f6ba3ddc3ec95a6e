use Rattle.std.proofs.Common.{sym}
use Rattle.std.specs.List.{take-map}
use Rattle.cq_control.specs.Cells.{lists}
use Rattle.cq_control.proofs.continuations.ContinuationsUndo.forget.Goals as goal

pub returns-clause-saved : goal.returns-clause-saved
returns-clause-saved g c = rw (← c.self.view_is, c.forget.ensures.saved) (sym (take-map lists c.args.m.number c.self.inside.cells.saved))
