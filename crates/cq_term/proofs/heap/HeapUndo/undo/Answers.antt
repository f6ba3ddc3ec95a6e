use Rattle.std.proofs.Common.{◌<◌, ◌∙◌, ap, length, refl}
use Rattle.std.specs.Option.{option_map}
use Rattle.std.proofs.lemmas.List.{length-map}
use Rattle.std.proofs.lemmas.Option.{slice_get_read, slice_get-map}
use Rattle.cq_term.specs.Layout.{contents, terms_at}
use Rattle.cq_term.proofs.Marks.{marked_undo, saved_undo}
use Rattle.cq_term.proofs.heap.HeapUndo.undo.Goals as goal

pub unbind-requires-clause-from : goal.unbind-requires-clause-from
unbind-requires-clause-from c =
    let w : c.args.m.number < length c.self.inside.marks.items = rw length-map at (rw (← c.self.view_is) at c.requires) in
    let here = slice_get_read c.self.inside.marks.items (length c.self.inside.marks.items) c.args.m.number c.index-place.result.now refl w c.index-place.ensures in
    (c.self.invariant.within c.args.m.number c.index-place.result.now here).order

pub unbind-requires-clause-noted : goal.unbind-requires-clause-noted
unbind-requires-clause-noted c = rw c.deref.ensures.value c.self.invariant.now.noted

pub unlearn-requires-clause-from : goal.unlearn-requires-clause-from
unlearn-requires-clause-from c =
    let w : c.args.m.number < length c.self.inside.marks.items = rw length-map at (rw (← c.self.view_is) at c.requires) in
    let here = slice_get_read c.self.inside.marks.items (length c.self.inside.marks.items) c.args.m.number c.index-place.result.now refl w c.index-place.ensures in
    (c.self.invariant.within c.args.m.number c.index-place.result.now here).learnt

pub unlearn-requires-clause-there : goal.unlearn-requires-clause-there
unlearn-requires-clause-there c = c.self.invariant.now.learnt

pub invariant_of-self : goal.invariant_of-self
invariant_of-self c =
    let w : c.args.m.number < length c.self.inside.marks.items = rw length-map at (rw (← c.self.view_is) at c.requires) in
    let here = slice_get_read c.self.inside.marks.items (length c.self.inside.marks.items) c.args.m.number c.index-place.result.now refl w c.index-place.ensures in
    rw (c.truncate.ensures.items, c.truncate-2.ensures.items, c.truncate-3.ensures.items, c.truncate-4.ensures.items, c.truncate-5.ensures.items, c.unlearn.ensures.cells, c.unlearn.ensures.learnt, c.unbind.ensures.vars, c.deref.ensures.value, c.unbind.ensures.order) (marked_undo (contents c.self.inside.lists) c.self.inside.marks.items c.self.invariant c.args.m.number c.index-place.result.now here)

pub returns-clause-now : goal.returns-clause-now
returns-clause-now c =
    let w : c.args.m.number < length c.self.inside.marks.items = rw length-map at (rw (← c.self.view_is) at c.requires) in
    let here = slice_get_read c.self.inside.marks.items (length c.self.inside.marks.items) c.args.m.number c.index-place.result.now refl w c.index-place.ensures in
    rw (← c.self.view_is, c.truncate.ensures.items, c.truncate-2.ensures.items, c.truncate-3.ensures.items, c.truncate-4.ensures.items, c.unlearn.ensures.cells, c.unbind.ensures.vars, c.deref.ensures.value, c.unbind.ensures.order) (slice_get-map (terms_at (contents c.self.inside.lists)) c.self.inside.marks.items c.args.m.number ∙ ap (option_map (terms_at (contents c.self.inside.lists))) here)

pub returns-clause-saved : goal.returns-clause-saved
returns-clause-saved c =
    let w : c.args.m.number < length c.self.inside.marks.items = rw length-map at (rw (← c.self.view_is) at c.requires) in
    let here = slice_get_read c.self.inside.marks.items (length c.self.inside.marks.items) c.args.m.number c.index-place.result.now refl w c.index-place.ensures in
    rw (← c.self.view_is, c.truncate.ensures.items, c.truncate-2.ensures.items, c.truncate-3.ensures.items, c.truncate-4.ensures.items, c.truncate-5.ensures.items, c.unlearn.ensures.cells, c.unlearn.ensures.learnt, c.unbind.ensures.vars, c.deref.ensures.value, c.unbind.ensures.order) (saved_undo (contents c.self.inside.lists) c.self.inside.marks.items c.self.invariant c.args.m.number c.index-place.result.now here)
