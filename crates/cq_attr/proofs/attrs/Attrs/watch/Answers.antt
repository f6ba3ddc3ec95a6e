use Rattle.std.proofs.Common.{◌≡◌, ◌∙◌, map, ap, length, ◌<◌, arith}
use Rattle.std.specs.List.{zip}
use Rattle.cq_trail.proofs.Counting.{counted_changed}
use Rattle.cq_term.specs.Places.{numbers_of}
use Rattle.cq_attr.specs.Attributes.{watched_more}
use Rattle.cq_attr.specs.Layout.{Parts, HaveSlots, attributes_by}
use Rattle.cq_attr.proofs.Changes.{attributes_watched, have_noted}
use Rattle.cq_attr.proofs.Numbers.{number_within}
use Rattle.cq_attr.proofs.Parts.{slots_same, parts_changed}
use Rattle.cq_attr.proofs.attrs.Attrs.watch.Goals as goal

pub invariant_of-self-2 : goal.invariant_of-self-2
invariant_of-self-2 c =
    let ss = c.put_marks.new.self.inner.second.second.now in
    let ws = c.put_marks.new.self.inner.second.first.now in
    let have : HaveSlots ws ss = slots_same _ _ c.put_marks.ensures.now c.self.invariant.now in
    let old = number_within c.self.inside.parts.inner.second.second.now c.self.inside.parts.inner.second.first.now c.args.number (rw (← c.self.view_is) at c.requires) in
    let same : length ss ≡ length c.self.inside.parts.inner.second.second.now = ap (λ (p : Parts). length p.1.1) c.put_marks.ensures.now in
    let within : c.index.result < length ss = omega (arith, c.index.ensures, old, same) in
    parts_changed _ _ c.self.invariant _ (rw c.in_ok-extend.ensures.ok (have_noted ws ss c.args.variables.now c.index.result have within)) _
    (counted_changed _ _ c.in_ok-put_marks.ensures.all _
    (ap (λ ws. zip c.put_marks.new.self.inner.first.saved (zip ws c.put_marks.new.self.inner.second.second.saved)) c.extend.ensures.saved) _
    ∙ c.in_ok-put_marks.ensures.put)

pub returns-clause-ok : goal.returns-clause-ok
returns-clause-ok c =
    rw (← c.self.view_is, c.in_ok-extend.ensures.ok, c.index.ensures)
    (attributes_watched c.put_marks.new.self.inner.first.now c.put_marks.new.self.inner.second.first.now c.put_marks.new.self.inner.second.second.now c.args.variables.now c.args.number
    ∙ ap (λ (p : Parts). watched_more (attributes_by p) c.args.number (numbers_of c.args.variables.now)) c.put_marks.ensures.now)

pub returns-clause-saved : goal.returns-clause-saved
returns-clause-saved c = rw (← c.self.view_is)
    (ap (map attributes_by)
    (counted_changed _ _ c.in_ok-put_marks.ensures.all _
    (ap (λ ws. zip c.put_marks.new.self.inner.first.saved (zip ws c.put_marks.new.self.inner.second.second.saved)) c.extend.ensures.saved) _
    ∙ c.in_ok-put_marks.ensures.put))
