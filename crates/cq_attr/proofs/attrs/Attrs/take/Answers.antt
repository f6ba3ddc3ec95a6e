use Rattle.std.proofs.Common.{◌≡◌, ◌∙◌, map, ap, length, arith}
use Rattle.std.specs.List.{zip}
use Rattle.cq_trail.proofs.Counting.{counted_changed}
use Rattle.cq_attr.specs.Attributes.{without}
use Rattle.cq_attr.specs.Layout.{Parts, HaveSlots, attributes_by}
use Rattle.cq_attr.proofs.Changes.{attributes_taken, have_taken}
use Rattle.cq_attr.proofs.Numbers.{number_within}
use Rattle.cq_attr.proofs.Parts.{slots_same, parts_changed}
use Rattle.cq_attr.proofs.attrs.Attrs.take.Goals as goal

pub get-requires : goal.get-requires
get-requires c =
    let old = number_within c.self.inside.parts.inner.second.second.now c.self.inside.parts.inner.second.first.now c.args.number (rw (← c.self.view_is) at c.requires) in
    let same : length c.put_marks.new.self.inner.second.second.now ≡ length c.self.inside.parts.inner.second.second.now = ap (λ (p : Parts). length p.1.1) c.put_marks.ensures.now in
    omega (arith, c.index.ensures, old, same)

pub set-requires : goal.set-requires
set-requires c =
    let old = number_within c.self.inside.parts.inner.second.second.now c.self.inside.parts.inner.second.first.now c.args.number (rw (← c.self.view_is) at c.requires) in
    let same : length c.put_marks.new.self.inner.second.second.now ≡ length c.self.inside.parts.inner.second.second.now = ap (λ (p : Parts). length p.1.1) c.put_marks.ensures.now in
    omega (arith, c.index-2.ensures, old, same)

pub invariant_of-self-2 : goal.invariant_of-self-2
invariant_of-self-2 c =
    let ss = c.put_marks.new.self.inner.second.second.now in
    let ws = c.put_marks.new.self.inner.second.first.now in
    let have : HaveSlots ws ss = slots_same _ _ c.put_marks.ensures.now c.self.invariant.now in
    parts_changed _ _ c.self.invariant _ (rw c.in_ok-set.ensures.ok (have_taken ws ss _ _ have)) _
    (counted_changed _ _ c.in_ok-put_marks.ensures.all _
    (ap (λ ss. zip c.put_marks.new.self.inner.first.saved (zip c.put_marks.new.self.inner.second.first.saved ss)) c.set.ensures.saved) _
    ∙ c.in_ok-put_marks.ensures.put)

pub returns-clause-ok : goal.returns-clause-ok
returns-clause-ok c =
    rw (← c.self.view_is, c.in_ok-set.ensures.ok, c.index-2.ensures)
    (attributes_taken c.put_marks.new.self.inner.first.now c.put_marks.new.self.inner.second.first.now c.put_marks.new.self.inner.second.second.now c.args.number c.get.result.now.susp
    ∙ ap (λ (p : Parts). without (attributes_by p) c.args.number) c.put_marks.ensures.now)

pub returns-clause-saved : goal.returns-clause-saved
returns-clause-saved c = rw (← c.self.view_is)
    (ap (map attributes_by)
    (counted_changed _ _ c.in_ok-put_marks.ensures.all _
    (ap (λ ss. zip c.put_marks.new.self.inner.first.saved (zip c.put_marks.new.self.inner.second.first.saved ss)) c.set.ensures.saved) _
    ∙ c.in_ok-put_marks.ensures.put))
