use Rattle.std.proofs.Common.{map, ap, sym, ◌∙◌}
use Rattle.std.specs.List.{take-map}
use Rattle.cq_attr.specs.Layout.{attributes_by, parts_saved}
use Rattle.cq_attr.proofs.Parts.{slots_same, parts_taken}
use Rattle.cq_attr.proofs.attrs.AttrsUndo.forget.Goals as goal

pub invariant_of-self : goal.invariant_of-self
invariant_of-self c = parts_taken _ _ c.self.invariant c.args.m.number _ (slots_same _ _ c.forget.ensures.now c.self.invariant.now) _ c.forget.ensures.saved

pub returns-clause-saved : goal.returns-clause-saved
returns-clause-saved c =
    let p = c.self.inside.parts in
    let all = parts_saved p.inner.first p.inner.second.first p.inner.second.second p.marks in
    rw (← c.self.view_is) (ap (map attributes_by) c.forget.ensures.saved ∙ sym (take-map attributes_by c.args.m.number all))
