use Rattle.std.proofs.Common.{arith}
use Rattle.cq_dict.proofs.Held.{held_take}
use Rattle.cq_dict.proofs.Marks.{marked_take, saved_take, length-saved}
use Rattle.cq_dict.proofs.dict.DictUndo.forget.Goals as goal

pub forget-requires : goal.forget-requires
forget-requires c = let k = length-saved c.self.inside.roles.saved c.self.inside.restricted.saved c.self.invariant.0.together in let h = rw (← c.self.view_is) at c.requires in omega (arith, h, k)

pub forget-requires-2 : goal.forget-requires-2
forget-requires-2 c = let k = length-saved c.self.inside.roles.saved c.self.inside.restricted.saved c.self.invariant.0.together in let h = rw (← c.self.view_is) at c.requires in omega (arith, h, k, c.self.invariant.0.together)

pub forget-requires-3 : goal.forget-requires-3
forget-requires-3 c = let k = length-saved c.self.inside.roles.saved c.self.inside.restricted.saved c.self.invariant.0.together in let h = rw (← c.self.view_is) at c.requires in omega (arith, h, k, c.self.invariant.1.heads_together)

pub forget-requires-4 : goal.forget-requires-4
forget-requires-4 c = let k = length-saved c.self.inside.roles.saved c.self.inside.restricted.saved c.self.invariant.0.together in let h = rw (← c.self.view_is) at c.requires in omega (arith, h, k, c.self.invariant.1.cells_together)

pub invariant_of-self : goal.invariant_of-self
invariant_of-self c =
    rw (c.forget.ensures.saved, c.forget-2.ensures.saved, c.forget-3.ensures.saved, c.forget-4.ensures.saved, c.forget.ensures.now, c.forget-2.ensures.now, c.forget-3.ensures.now, c.forget-4.ensures.now) (
      marked_take c.self.inside.roles.now c.self.inside.restricted.now c.self.inside.roles.saved c.self.inside.restricted.saved c.self.invariant.0 c.args.m.number _ _ c.self.invariant.0.now,
      held_take c.self.inside.roles.now c.self.inside.heads.now c.self.inside.cells.now c.self.inside.roles.saved c.self.inside.heads.saved c.self.inside.cells.saved c.self.invariant.1 c.args.m.number _ _ _ c.self.invariant.1.now,
    )

pub returns-clause-saved : goal.returns-clause-saved
returns-clause-saved c = rw (← c.self.view_is, c.forget.ensures.saved, c.forget-2.ensures.saved) (saved_take c.args.m.number c.self.inside.roles.saved c.self.inside.restricted.saved)

pub returns-clause-room : goal.returns-clause-room
returns-clause-room c =
    let k = length-saved c.self.inside.roles.saved c.self.inside.restricted.saved c.self.invariant.0.together in
    rw (← c.self.view_is) (omega (arith, k, c.self.invariant.0.together, c.self.invariant.1.heads_together, c.self.invariant.1.cells_together, c.forget.ensures.room, c.forget-2.ensures.room, c.forget-3.ensures.room, c.forget-4.ensures.room))
