use Rattle.std.proofs.Common.{◌∙◌, sym}
use Rattle.cq_dict.proofs.Held.{held_more}
use Rattle.cq_dict.proofs.Marks.{marked_more, saved_push, length-saved}
use Rattle.cq_dict.proofs.dict.DictUndo.mark.Goals as goal

pub invariant_of-self : goal.invariant_of-self
invariant_of-self c =
    let roles = rw c.unwrap-m.ensures at c.mark.ensures.saved in
    let flags = rw c.unwrap.ensures at c.mark-2.ensures.saved in
    let heads = rw c.unwrap-2.ensures at c.mark-3.ensures.saved in
    let cells = rw c.unwrap-3.ensures at c.mark-4.ensures.saved in
    rw (roles, flags, heads, cells, c.mark.ensures.now, c.mark-2.ensures.now, c.mark-3.ensures.now, c.mark-4.ensures.now) (marked_more _ _ _ _ c.self.invariant.0, held_more _ _ _ _ _ _ c.self.invariant.1)

pub returns-clause-mark : goal.returns-clause-mark
returns-clause-mark c =
    let number = rw c.unwrap-m.ensures at c.mark.ensures.mark in
    rw (← c.reserve.ensures.saved, ← c.self.view_is) (number ∙ sym (length-saved c.self.inside.roles.saved c.self.inside.restricted.saved c.self.invariant.0.together))

pub returns-clause-saved : goal.returns-clause-saved
returns-clause-saved c =
    let roles = rw c.unwrap-m.ensures at c.mark.ensures.saved in
    let flags = rw c.unwrap.ensures at c.mark-2.ensures.saved in
    rw (← c.reserve.ensures.saved, ← c.reserve.ensures.now, ← c.self.view_is, roles, flags) (saved_push c.self.inside.roles.saved c.self.inside.restricted.saved _ _ c.self.invariant.0.together)
