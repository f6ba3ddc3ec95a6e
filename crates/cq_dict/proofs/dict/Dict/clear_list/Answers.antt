use Rattle.std.proofs.Common.{refl, arith}
use Rattle.cq_dict.specs.declared.table.Role.TheVariants.{Basic}
use Rattle.cq_dict.proofs.Held.{held_now, held_cleared}
use Rattle.cq_dict.proofs.Roles.{at_below}
use Rattle.cq_dict.proofs.dict.Dict.clear_list.Goals as goal

pub set-requires : goal.set-requires
set-requires c =
    let row = rw (← c.self.view_is) at c.requires in
    let l = at_below c.self.inside.roles.now c.args.r (Basic row.0) row.1 in
    omega (arith, l, c.self.invariant.1.now.size)

pub invariant_of-self-2 : goal.invariant_of-self-2
invariant_of-self-2 c =
    let row = rw (← c.self.view_is) at c.requires in (
      c.self.invariant.0,
      held_now _ _ _ _ _ _ c.self.invariant.1 refl c.set.ensures.saved refl
          (held_cleared c.self.inside.roles.now c.self.inside.heads.now c.set.new.self.now c.self.inside.cells.now c.args.r row.0 c.self.invariant.0.now.table row.1 c.in_ok-set.ensures.ok c.self.invariant.1.now),
    )
