use Rattle.std.proofs.Common.{sym}
use Rattle.std.specs.List.{take-map}
use Rattle.cq_trail.specs.StackValue.{cut_at}
use Rattle.cq_trail.proofs.stack.StackUndo.forget.Goals as goal

pub returns-clause-saved : goal.returns-clause-saved
returns-clause-saved g c = rw (← c.self.view_is, c.truncate.ensures.items) (sym (take-map (cut_at c.self.inside.items.items) c.args.m.number c.self.inside.marks.items))
