use Rattle.std.proofs.Common.{◌<◌, ap, ◌∙◌, refl, length}
use Rattle.std.proofs.lemmas.List.{length-map}
use Rattle.std.proofs.lemmas.Option.{slice_get_read, slice_get-map}
use Rattle.std.specs.Option.{option_map}
use Rattle.cq_trail.specs.Log.{at_mark}
use Rattle.cq_trail.proofs.Kept.{is_trail_undo, saved_undo, changed_undo}
use Rattle.cq_trail.proofs.trail.TrailUndo.undo.Goals as goal

pub invariant_of-self : goal.invariant_of-self
invariant_of-self g c =
    let w : c.args.m.number < length c.self.inside.marks.items = rw length-map at (rw (← c.self.view_is) at c.requires) in
    let p = slice_get_read c.self.inside.marks.items (length c.self.inside.marks.items) c.args.m.number c.index-place.result.now refl w c.index-place.ensures in
    rw (c.truncate.ensures.items, c.truncate-2.ensures.items, c.truncate-3.ensures.items, c.give_back.ensures.items, c.give_back.ensures.stamps, c.give_back.ensures.log) (is_trail_undo _ _ _ _ c.args.m.number c.index-place.result.now c.self.invariant p)

pub returns-clause-now : goal.returns-clause-now
returns-clause-now g c =
    let w : c.args.m.number < length c.self.inside.marks.items = rw length-map at (rw (← c.self.view_is) at c.requires) in
    let p = slice_get_read c.self.inside.marks.items (length c.self.inside.marks.items) c.args.m.number c.index-place.result.now refl w c.index-place.ensures in
    rw (← c.self.view_is, c.truncate.ensures.items, c.give_back.ensures.items) (slice_get-map (at_mark c.self.inside.log.items c.self.inside.items.items) c.self.inside.marks.items c.args.m.number ∙ ap (option_map (at_mark c.self.inside.log.items c.self.inside.items.items)) p)

pub returns-clause-saved : goal.returns-clause-saved
returns-clause-saved g c =
    let w : c.args.m.number < length c.self.inside.marks.items = rw length-map at (rw (← c.self.view_is) at c.requires) in
    let p = slice_get_read c.self.inside.marks.items (length c.self.inside.marks.items) c.args.m.number c.index-place.result.now refl w c.index-place.ensures in
    rw (← c.self.view_is, c.truncate.ensures.items, c.truncate-3.ensures.items, c.give_back.ensures.items, c.give_back.ensures.log) (saved_undo _ _ _ _ c.args.m.number c.index-place.result.now c.self.invariant p)

pub returns-clause-changed : goal.returns-clause-changed
returns-clause-changed g c =
    let w : c.args.m.number < length c.self.inside.marks.items = rw length-map at (rw (← c.self.view_is) at c.requires) in
    let p = slice_get_read c.self.inside.marks.items (length c.self.inside.marks.items) c.args.m.number c.index-place.result.now refl w c.index-place.ensures in
    rw (← c.self.view_is, c.truncate-3.ensures.items, c.give_back.ensures.log) (changed_undo c.self.inside.items.items c.self.inside.stamps.items _ _ c.args.m.number c.index-place.result.now c.self.invariant p)
