use Rattle.std.proofs.Common.{◌∙◌, map, arith}
use Rattle.std.proofs.lemmas.List.{length-map}
use Rattle.cq_store.specs.StoreValue.{kept}
use Rattle.cq_settle.proofs.Parts.{length-at_marks, at_marks-take, at_mark}
use Rattle.cq_settle.proofs.world.WorldUndo.undo.Goals as goal

pub undo-requires : goal.undo-requires
undo-requires c =
    let w = c.args.self.now in
    let marks = map (kept w.store.pivots) w.store.saved in
    omega (arith, c.requires, length-at_marks w.heap.saved w.attrs.saved marks w.attrs_together (length-map w.store.saved (kept w.store.pivots) ∙ w.store_together))

pub undo-requires-2 : goal.undo-requires-2
undo-requires-2 c =
    let w = c.args.self.now in
    let marks = map (kept w.store.pivots) w.store.saved in
    omega (arith, c.requires, w.attrs_together, length-at_marks w.heap.saved w.attrs.saved marks w.attrs_together (length-map w.store.saved (kept w.store.pivots) ∙ w.store_together))

pub undo-requires-3 : goal.undo-requires-3
undo-requires-3 c =
    let w = c.args.self.now in
    let marks = map (kept w.store.pivots) w.store.saved in
    let all = length-map w.store.saved (kept w.store.pivots) in
    omega (arith, c.requires, w.store_together, all, length-at_marks w.heap.saved w.attrs.saved marks w.attrs_together (length-map w.store.saved (kept w.store.pivots) ∙ w.store_together))

pub returns-clause-now : goal.returns-clause-now
returns-clause-now c =
    let w = c.args.self.now in
    at_mark c.args.m.number w.heap.saved w.attrs.saved (map (kept w.store.pivots) w.store.saved) _ _ _ c.undo.ensures.now c.undo-2.ensures.now c.undo-3.ensures.now

pub returns-clause-saved : goal.returns-clause-saved
returns-clause-saved c =
    let w = c.args.self.now in
    rw (c.undo.ensures.saved, c.undo-2.ensures.saved, c.undo-3.ensures.saved) (at_marks-take c.args.m.number w.heap.saved w.attrs.saved (map (kept w.store.pivots) w.store.saved))

pub returns-clause-room : goal.returns-clause-room
returns-clause-room c =
    let w = c.args.self.now in
    let marks = map (kept w.store.pivots) w.store.saved in
    let all = length-map w.store.saved (kept w.store.pivots) in
    let whole = length-at_marks w.heap.saved w.attrs.saved marks w.attrs_together (length-map w.store.saved (kept w.store.pivots) ∙ w.store_together) in
    omega (arith, w.attrs_together, w.store_together, all, whole, c.undo.ensures.room, c.undo-2.ensures.room, c.undo-3.ensures.room)
