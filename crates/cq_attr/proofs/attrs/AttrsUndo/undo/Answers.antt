use Rattle.std.proofs.Common.{map, ap, sym, ◌∙◌}
use Rattle.std.proofs.lemmas.Option.{slice_get-map}
use Rattle.std.specs.List.{take-map}
use Rattle.std.specs.Option.{option_map}
use Rattle.cq_attr.specs.Layout.{attributes_by, parts_saved}
use Rattle.cq_attr.proofs.Parts.{parts_taken}
use Rattle.cq_attr.proofs.attrs.AttrsUndo.undo.Goals as goal

pub invariant_of-self : goal.invariant_of-self
invariant_of-self c = parts_taken _ _ c.self.invariant c.args.m.number _ (c.self.invariant.marks c.args.m.number _ c.undo.ensures.now) _ c.undo.ensures.saved

pub returns-clause-now : goal.returns-clause-now
returns-clause-now c =
    let p = c.self.inside.parts in
    let all = parts_saved p.inner.first p.inner.second.first p.inner.second.second p.marks in
    rw (← c.self.view_is) (slice_get-map attributes_by all c.args.m.number ∙ ap (option_map attributes_by) c.undo.ensures.now)

pub returns-clause-saved : goal.returns-clause-saved
returns-clause-saved c =
    let p = c.self.inside.parts in
    let all = parts_saved p.inner.first p.inner.second.first p.inner.second.second p.marks in
    rw (← c.self.view_is) (ap (map attributes_by) c.undo.ensures.saved ∙ sym (take-map attributes_by c.args.m.number all))
