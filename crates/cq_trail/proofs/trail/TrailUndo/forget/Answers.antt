use Rattle.std.proofs.Common.{◌≡◌, ◌∙◌, sym, eqb-true, vec_len}
use Rattle.std.specs.List.{take-map}
use Rattle.cq_trail.proofs.Kept.{is_trail_forget, is_trail_idle}
use Rattle.cq_trail.proofs.trail.TrailUndo.forget.Goals as goal

pub invariant_of-self : goal.invariant_of-self
invariant_of-self g c =
    let empty : vec_len c.truncate.new.self ≡ 0 = eqb-true (vec_len c.truncate.new.self) 0 (sym c.is_empty.ensures ∙ c.if-is_empty.true) in
    rw (c.discard.ensures.stamps, c.discard.ensures.log)
    (is_trail_idle _ _ _ c.self.inside.marks.items _ (sym c.truncate.new.self.ok.0 ∙ empty) c.self.invariant)

pub invariant_of-self-else-is_empty : goal.invariant_of-self-else-is_empty
invariant_of-self-else-is_empty g c = rw c.truncate.ensures.items (is_trail_forget _ _ _ _ c.args.m.number c.self.invariant)

pub returns-else-is_empty-clause-saved : goal.returns-else-is_empty-clause-saved
returns-else-is_empty-clause-saved g c = rw (← c.self.view_is, c.truncate.ensures.items) (sym (take-map _ _ _))

pub returns-else-is_empty-clause-changed : goal.returns-else-is_empty-clause-changed
returns-else-is_empty-clause-changed g c = rw (← c.self.view_is, c.truncate.ensures.items) (sym (take-map _ _ _))
