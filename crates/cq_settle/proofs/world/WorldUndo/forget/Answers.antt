use Rattle.std.proofs.Common.{◌∙◌, map, arith}
use Rattle.std.proofs.lemmas.List.{length-map}
use Rattle.cq_store.specs.StoreValue.{kept}
use Rattle.cq_settle.proofs.Parts.{length-at_marks, at_marks-take}
use Rattle.cq_settle.proofs.world.WorldUndo.forget.Goals as goal

pub forget-requires : goal.forget-requires
forget-requires c =
    let w = c.args.self.now in
    let marks = map (kept w.store.pivots) w.store.saved in
    omega (arith, c.requires, length-at_marks w.heap.saved w.attrs.saved marks w.attrs_together (length-map w.store.saved (kept w.store.pivots) ∙ w.store_together))

pub forget-requires-2 : goal.forget-requires-2
forget-requires-2 c =
    let w = c.args.self.now in
    let marks = map (kept w.store.pivots) w.store.saved in
    omega (arith, c.requires, w.attrs_together, length-at_marks w.heap.saved w.attrs.saved marks w.attrs_together (length-map w.store.saved (kept w.store.pivots) ∙ w.store_together))

pub forget-requires-3 : goal.forget-requires-3
forget-requires-3 c =
    let w = c.args.self.now in
    let marks = map (kept w.store.pivots) w.store.saved in
    let all = length-map w.store.saved (kept w.store.pivots) in
    omega (arith, c.requires, w.store_together, all, length-at_marks w.heap.saved w.attrs.saved marks w.attrs_together (length-map w.store.saved (kept w.store.pivots) ∙ w.store_together))

pub returns-clause-saved : goal.returns-clause-saved
returns-clause-saved c =
    let w = c.args.self.now in
    rw (c.forget.ensures.saved, c.forget-2.ensures.saved, c.forget-3.ensures.saved) (at_marks-take c.args.m.number w.heap.saved w.attrs.saved (map (kept w.store.pivots) w.store.saved))

pub returns-clause-room : goal.returns-clause-room
returns-clause-room c =
    let w = c.args.self.now in
    let marks = map (kept w.store.pivots) w.store.saved in
    let all = length-map w.store.saved (kept w.store.pivots) in
    let whole = length-at_marks w.heap.saved w.attrs.saved marks w.attrs_together (length-map w.store.saved (kept w.store.pivots) ∙ w.store_together) in
    omega (arith, w.attrs_together, w.store_together, all, whole, c.forget.ensures.room, c.forget-2.ensures.room, c.forget-3.ensures.room)
