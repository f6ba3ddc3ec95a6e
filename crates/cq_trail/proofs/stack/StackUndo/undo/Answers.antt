use Rattle.std.proofs.Common.{◌<◌, refl, length}
use Rattle.std.proofs.lemmas.List.{length-map}
use Rattle.std.proofs.lemmas.Option.{slice_get_read}
use Rattle.cq_trail.proofs.Cut.{cuts_undo}
use Rattle.cq_trail.proofs.stack.StackUndo.undo.Goals as goal

pub returns-clause-saved : goal.returns-clause-saved
returns-clause-saved g c =
    let w : c.args.m.number < length c.self.inside.marks.items = rw length-map at (rw (← c.self.view_is) at c.requires) in
    let here = slice_get_read c.self.inside.marks.items (length c.self.inside.marks.items) c.args.m.number c.index.result.now refl w c.index.ensures in
    rw (← c.self.view_is, c.truncate.ensures.items, c.truncate-2.ensures.items) (cuts_undo c.self.inside.items.items c.self.inside.marks.items c.self.invariant c.args.m.number c.index.result.now here)
