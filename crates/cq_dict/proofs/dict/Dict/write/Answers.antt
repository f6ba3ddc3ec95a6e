use Rattle.std.proofs.Common.{◌∙◌, refl, sym, subst}
use Rattle.cq_dict.specs.Changes.{Changes}
use Rattle.cq_dict.proofs.Held.{held_now, held_grows, held_written, written_below}
use Rattle.cq_dict.proofs.Marks.{marked}
use Rattle.cq_dict.proofs.dict.Dict.write.Goals as goal

pub hold_changes-requires-clause-table : goal.hold_changes-requires-clause-table
hold_changes-requires-clause-table c = rw c.as_slice.ensures c.self.invariant.0.now.table

pub hold_changes-requires-clause-held : goal.hold_changes-requires-clause-held
hold_changes-requires-clause-held c = rw c.as_slice.ensures c.self.invariant.1.now

pub hold_changes-requires-clause-within : goal.hold_changes-requires-clause-within
hold_changes-requires-clause-within c =
    let w = rw (← c.self.view_is) at c.requires.within in
    rw c.as_slice.ensures (λ d h. w d (subst (Changes d) c.deref.ensures.value h))

pub hold_changes-requires-clause-columns : goal.hold_changes-requires-clause-columns
hold_changes-requires-clause-columns c =
    let w = rw (← c.self.view_is) at c.requires.within in
    let t = rw (← c.self.view_is) at c.requires.table in
    rw c.as_slice.ensures (λ d own e h f k. written_below c.self.inside.roles.now c.args.changes.items w t d own e (subst (Changes d) c.deref.ensures.value h) f k)

pub invariant_of-self : goal.invariant_of-self
invariant_of-self c =
    let g = c.hold_changes.ensures.grows in (
      c.self.invariant.0,
      held_now _ _ _ _ _ _ c.self.invariant.1 refl g.heads_saved g.cells_saved (held_grows c.self.inside.roles.now c.self.inside.heads c.hold_changes.new.heads c.self.inside.cells c.hold_changes.new.cells c.self.invariant.1.now g),
    )

pub write-requires : goal.write-requires
write-requires c = rw (← c.self.view_is) at c.requires.within

pub invariant_of-self-in_err-write : goal.invariant_of-self-in_err-write
invariant_of-self-in_err-write c =
    let g = c.hold_changes.ensures.grows in (
      marked c.self.invariant.0 c.write.ensures.saved refl (rw c.in_err-write.ensures.err c.self.invariant.0.now),
      held_now _ _ _ _ _ _ c.self.invariant.1 c.write.ensures.saved g.heads_saved g.cells_saved
          (rw c.in_err-write.ensures.err (held_grows c.self.inside.roles.now c.self.inside.heads c.hold_changes.new.heads c.self.inside.cells c.hold_changes.new.cells c.self.invariant.1.now g)),
    )

pub invariant_of-self-2 : goal.invariant_of-self-2
invariant_of-self-2 c =
    let written = c.in_ok-write.ensures.written in
    let g = c.hold_changes.ensures.grows in (
      marked c.self.invariant.0 c.write.ensures.saved refl (record {
        table = (rw (← c.self.view_is) at c.requires.table) _ written;
        flags = c.self.invariant.0.now.flags ∙ sym written.size;
      }),
      held_now _ _ _ _ _ _ c.self.invariant.1 c.write.ensures.saved g.heads_saved g.cells_saved
          (held_written c.self.inside.roles.now c.write.new.roles.now c.args.changes.items c.hold_changes.new.heads.now c.hold_changes.new.cells.now
          (held_grows c.self.inside.roles.now c.self.inside.heads c.hold_changes.new.heads c.self.inside.cells c.hold_changes.new.cells c.self.invariant.1.now g) written
          (λ d own e h f k. c.in_ok-hold_changes.ensures.listed d own e (subst (Changes d) (sym c.deref.ensures.value) h) f k)),
    )
