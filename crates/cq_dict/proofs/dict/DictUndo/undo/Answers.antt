use Rattle.std.proofs.Common.{arith}
use Rattle.cq_dict.proofs.Held.{held_take}
use Rattle.cq_dict.proofs.Marks.{marked_take, saved_take, length-saved, saved_at}
use Rattle.cq_dict.proofs.dict.DictUndo.undo.Goals as goal

pub undo-requires : goal.undo-requires
undo-requires c = let k = length-saved c.self.inside.roles.saved c.self.inside.restricted.saved c.self.invariant.0.together in let h = rw (← c.self.view_is) at c.requires in omega (arith, h, k)

pub undo-requires-2 : goal.undo-requires-2
undo-requires-2 c = let k = length-saved c.self.inside.roles.saved c.self.inside.restricted.saved c.self.invariant.0.together in let h = rw (← c.self.view_is) at c.requires in omega (arith, h, k, c.self.invariant.0.together)

pub undo-requires-3 : goal.undo-requires-3
undo-requires-3 c = let k = length-saved c.self.inside.roles.saved c.self.inside.restricted.saved c.self.invariant.0.together in let h = rw (← c.self.view_is) at c.requires in omega (arith, h, k, c.self.invariant.1.heads_together)

pub undo-requires-4 : goal.undo-requires-4
undo-requires-4 c = let k = length-saved c.self.inside.roles.saved c.self.inside.restricted.saved c.self.invariant.0.together in let h = rw (← c.self.view_is) at c.requires in omega (arith, h, k, c.self.invariant.1.cells_together)

pub invariant_of-self : goal.invariant_of-self
invariant_of-self c =
    rw (c.undo.ensures.saved, c.undo-2.ensures.saved, c.undo-3.ensures.saved, c.undo-4.ensures.saved) (
      marked_take c.self.inside.roles.now c.self.inside.restricted.now c.self.inside.roles.saved c.self.inside.restricted.saved c.self.invariant.0 c.args.m.number _ _
          (c.self.invariant.0.marks c.args.m.number _ _ c.undo.ensures.now c.undo-2.ensures.now),
      held_take c.self.inside.roles.now c.self.inside.heads.now c.self.inside.cells.now c.self.inside.roles.saved c.self.inside.heads.saved c.self.inside.cells.saved c.self.invariant.1 c.args.m.number _ _ _
          (c.self.invariant.1.marks c.args.m.number _ _ _ c.undo.ensures.now c.undo-3.ensures.now c.undo-4.ensures.now),
    )

pub returns-clause-now : goal.returns-clause-now
returns-clause-now c = rw (← c.self.view_is) (saved_at c.args.m.number c.self.inside.roles.saved c.self.inside.restricted.saved _ _ c.undo.ensures.now c.undo-2.ensures.now)

pub returns-clause-saved : goal.returns-clause-saved
returns-clause-saved c = rw (← c.self.view_is, c.undo.ensures.saved, c.undo-2.ensures.saved) (saved_take c.args.m.number c.self.inside.roles.saved c.self.inside.restricted.saved)

pub returns-clause-room : goal.returns-clause-room
returns-clause-room c =
    let k = length-saved c.self.inside.roles.saved c.self.inside.restricted.saved c.self.invariant.0.together in
    rw (← c.self.view_is) (omega (arith, k, c.self.invariant.0.together, c.self.invariant.1.heads_together, c.self.invariant.1.cells_together, c.undo.ensures.room, c.undo-2.ensures.room, c.undo-3.ensures.room, c.undo-4.ensures.room))
