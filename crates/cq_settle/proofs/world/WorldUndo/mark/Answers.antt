use Rattle.std.proofs.Common.{◌∙◌, sym, ap, map, length}
use Rattle.std.proofs.lemmas.List.{length-map}
use Rattle.cq_store.specs.StoreValue.{kept}
use Rattle.cq_settle.proofs.Parts.{length-at_marks, at_marks_push}
use Rattle.cq_settle.proofs.world.WorldUndo.mark.Goals as goal

pub returns-clause-mark : goal.returns-clause-mark
returns-clause-mark c =
    let w = c.reserve.new.self in
    let number = rw c.unwrap-m.ensures at c.mark.ensures.mark in
    number
    ∙ sym (length-at_marks w.heap.saved w.attrs.saved (map (kept w.store.pivots) w.store.saved) w.attrs_together (length-map w.store.saved (kept w.store.pivots) ∙ w.store_together))
    ∙ ap length c.reserve.ensures.saved

pub returns-clause-saved : goal.returns-clause-saved
returns-clause-saved c =
    let w = c.reserve.new.self in
    let heap = rw c.unwrap-m.ensures at c.mark.ensures.saved in
    let attrs = rw c.unwrap.ensures at c.mark-2.ensures.saved in
    let store = rw c.unwrap-2.ensures at c.mark-3.ensures.saved in
    rw (← c.reserve.ensures.saved, ← c.reserve.ensures.now, heap, attrs, store)
    (at_marks_push w.heap.saved w.attrs.saved (map (kept w.store.pivots) w.store.saved) w.attrs_together (length-map w.store.saved (kept w.store.pivots) ∙ w.store_together)
    w.heap.now w.attrs.now (kept w.store.pivots w.store.told))
