use Rattle.std.proofs.Common.{sym}
use Rattle.std.specs.List.{take-map}
use Rattle.cq_term.specs.Layout.{contents, terms_at}
use Rattle.cq_term.proofs.Marks.{marked_take}
use Rattle.cq_term.proofs.heap.HeapUndo.forget.Goals as goal

pub invariant_of-self : goal.invariant_of-self
invariant_of-self c = rw c.truncate.ensures.items (marked_take (contents c.self.inside.lists) c.self.inside.marks.items c.self.invariant c.args.m.number)

pub returns-clause-saved : goal.returns-clause-saved
returns-clause-saved c = rw (← c.self.view_is, c.truncate.ensures.items) (sym (take-map (terms_at (contents c.self.inside.lists)) c.args.m.number c.self.inside.marks.items))
