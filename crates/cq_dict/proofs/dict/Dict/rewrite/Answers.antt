use Rattle.std.proofs.Common.{◌∙◌, refl, sym}
use Rattle.cq_dict.proofs.Held.{held_now}
use Rattle.cq_dict.proofs.Keeping.{held_still}
use Rattle.cq_dict.proofs.Marks.{marked}
use Rattle.cq_dict.proofs.dict.Dict.rewrite.Goals as goal

pub write-requires : goal.write-requires
write-requires c = rw (← c.self.view_is) at c.requires.within

pub invariant_of-self : goal.invariant_of-self
invariant_of-self c = (
  marked c.self.invariant.0 c.write.ensures.saved refl (rw c.in_err-write.ensures.err c.self.invariant.0.now),
  held_now _ _ _ _ _ _ c.self.invariant.1 c.write.ensures.saved refl refl (rw c.in_err-write.ensures.err c.self.invariant.1.now),
)

pub invariant_of-self-2 : goal.invariant_of-self-2
invariant_of-self-2 c =
    let written = c.in_ok-write.ensures.written in (
      marked c.self.invariant.0 c.write.ensures.saved refl (record {
        table = (rw (← c.self.view_is) at c.requires.table) _ written;
        flags = c.self.invariant.0.now.flags ∙ sym written.size;
      }),
      held_now _ _ _ _ _ _ c.self.invariant.1 c.write.ensures.saved refl refl
          (held_still c.self.inside.roles.now c.write.new.roles.now c.args.changes.items c.self.inside.heads.now c.self.inside.cells.now c.self.invariant.1.now written
          (rw (← c.self.view_is) at c.requires.held)),
    )
