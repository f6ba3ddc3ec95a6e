use Rattle.std.proofs.Common.{◌≡◌, ◌++◌, ◌∷◌, [], ◌∙◌, true, map, ap, ap₂, length}
use Rattle.std.specs.List.{zip}
use Rattle.cq_trail.proofs.Counting.{counted_changed}
use Rattle.cq_term.specs.Places.{numbers_of}
use Rattle.cq_attr.specs.declared.susp.Slot.{Slot}
use Rattle.cq_attr.specs.Attributes.{suspended}
use Rattle.cq_attr.specs.Layout.{Parts, HaveSlots, attributes_by}
use Rattle.cq_attr.specs.NotesValue.{noted}
use Rattle.cq_attr.proofs.Changes.{attributes_suspended, have_suspended}
use Rattle.cq_attr.proofs.Parts.{slots_same, parts_changed}
use Rattle.cq_attr.proofs.attrs.Attrs.suspend.Goals as goal

pub invariant_of-self-2 : goal.invariant_of-self-2
invariant_of-self-2 c =
    let ss = c.put_marks.new.self.inner.second.second.now in
    let ws = c.put_marks.new.self.inner.second.first.now in
    let vs = c.args.variables.now in
    let s : Slot = record { susp = c.args.susp; waits = true } in
    let have : HaveSlots ws ss = slots_same _ _ c.put_marks.ensures.now c.self.invariant.now in
    let more : c.extend.new.self.now ≡ ws ++ noted vs (length ss) = c.in_ok-extend.ensures.ok ∙ ap (λ n. ws ++ noted vs n) c.len-number.ensures in
    let pushed : c.push.new.self.now ≡ ss ++ s ∷ [] = (rw c.unwrap.ensures at c.push.ensures.ok) ∙ ap (λ xs. xs ++ s ∷ []) c.reserve_places.ensures.now in
    parts_changed _ _ c.self.invariant _ (rw (more, pushed) (have_suspended ws ss vs s have)) _
    (counted_changed _ _ c.in_ok-put_marks.ensures.all _
    (ap₂ (λ ws ss. zip c.put_marks.new.self.inner.first.saved (zip ws ss)) c.extend.ensures.saved (c.push.ensures.saved ∙ c.reserve_places.ensures.saved)) _
    ∙ c.in_ok-put_marks.ensures.put)

pub returns-clause-ok : goal.returns-clause-ok
returns-clause-ok c =
    let ss = c.put_marks.new.self.inner.second.second.now in
    let ws = c.put_marks.new.self.inner.second.first.now in
    let vs = c.args.variables.now in
    let s : Slot = record { susp = c.args.susp; waits = true } in
    let have : HaveSlots ws ss = slots_same _ _ c.put_marks.ensures.now c.self.invariant.now in
    let more : c.extend.new.self.now ≡ ws ++ noted vs (length ss) = c.in_ok-extend.ensures.ok ∙ ap (λ n. ws ++ noted vs n) c.len-number.ensures in
    let pushed : c.push.new.self.now ≡ ss ++ s ∷ [] = (rw c.unwrap.ensures at c.push.ensures.ok) ∙ ap (λ xs. xs ++ s ∷ []) c.reserve_places.ensures.now in
    rw (← c.self.view_is, more, pushed)
    (attributes_suspended c.put_marks.new.self.inner.first.now ws ss vs c.args.susp have
    ∙ ap (λ (p : Parts). suspended (attributes_by p) (numbers_of vs) c.args.susp) c.put_marks.ensures.now)

pub returns-clause-number : goal.returns-clause-number
returns-clause-number c = rw (← c.self.view_is) (c.new.ensures ∙ c.len-number.ensures ∙ ap (λ (p : Parts). length p.1.1) c.put_marks.ensures.now)

pub returns-clause-saved : goal.returns-clause-saved
returns-clause-saved c = rw (← c.self.view_is)
    (ap (map attributes_by)
    (counted_changed _ _ c.in_ok-put_marks.ensures.all _
    (ap₂ (λ ws ss. zip c.put_marks.new.self.inner.first.saved (zip ws ss)) c.extend.ensures.saved (c.push.ensures.saved ∙ c.reserve_places.ensures.saved)) _
    ∙ c.in_ok-put_marks.ensures.put))
