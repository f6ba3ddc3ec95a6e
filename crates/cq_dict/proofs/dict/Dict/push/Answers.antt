use Rattle.std.proofs.Common.{◌≡◌, ◌∙◌, ◌++◌, ◌∷◌, [], arith, refl, ap, subst, length, length-append}
use Rattle.cq_dict.specs.Holders.{IsListed, AreHeld}
use Rattle.cq_dict.proofs.Held.{held_now, held_grows, held_pushed, pushed_below}
use Rattle.cq_dict.proofs.Marks.{marked}
use Rattle.cq_dict.proofs.Roles.{at_last}
use Rattle.cq_dict.proofs.dict.Dict.push.Goals as goal
use Rattle.cq_dict.proofs.dict.Dict.push.Goals.{After-hold_new}

pub hold_new-requires : goal.hold_new-requires
hold_new-requires c = λ own d e k.
    let l = pushed_below c.self.inside.roles.now c.args.role own d (rw (← c.self.view_is) at c.requires) (at_last c.self.inside.roles.now c.args.role) e k in
    omega (arith, l, c.self.invariant.1.now.size)

held : (c : After-hold_new) → AreHeld c.self.inside.roles.now c.hold_new.new.heads.now c.hold_new.new.cells.now
held c = held_grows c.self.inside.roles.now c.self.inside.heads c.hold_new.new.heads c.self.inside.cells c.hold_new.new.cells c.self.invariant.1.now c.hold_new.ensures.grows

pub invariant_of-self : goal.invariant_of-self
invariant_of-self c =
    let k = goal.at.invariant_of-self c in
    let g = c.hold_new.ensures.grows in
    (c.self.invariant.0, held_now _ _ _ _ _ _ c.self.invariant.1 refl g.heads_saved g.cells_saved (held k.After-hold_new))

pub invariant_of-self-in_err-reserve_places : goal.invariant_of-self-in_err-reserve_places
invariant_of-self-in_err-reserve_places c =
    let k = goal.at.invariant_of-self-in_err-reserve_places c in
    let g = c.hold_new.ensures.grows in (
      marked c.self.invariant.0 c.reserve_places.ensures.saved refl (rw c.reserve_places.ensures.now c.self.invariant.0.now),
      held_now _ _ _ _ _ _ c.self.invariant.1 c.reserve_places.ensures.saved g.heads_saved g.cells_saved (rw c.reserve_places.ensures.now (held k.After-hold_new)),
    )

pub invariant_of-self-in_err-reserve_places-2 : goal.invariant_of-self-in_err-reserve_places-2
invariant_of-self-in_err-reserve_places-2 c =
    let k = goal.at.invariant_of-self-in_err-reserve_places-2 c in
    let g = c.hold_new.ensures.grows in (
      marked c.self.invariant.0 c.reserve_places.ensures.saved refl (rw c.reserve_places.ensures.now c.self.invariant.0.now),
      held_now _ _ _ _ _ _ c.self.invariant.1 c.reserve_places.ensures.saved (c.reserve_places-2.ensures.saved ∙ g.heads_saved) g.cells_saved
          (rw (c.reserve_places.ensures.now, c.reserve_places-2.ensures.now) (held k.After-hold_new)),
    )

pub invariant_of-self-in_err-push : goal.invariant_of-self-in_err-push
invariant_of-self-in_err-push c =
    let k = goal.at.invariant_of-self-in_err-push c in
    let g = c.hold_new.ensures.grows in (
      marked c.self.invariant.0 c.reserve_places.ensures.saved c.push.ensures.saved (rw (c.reserve_places.ensures.now, c.in_err-push.ensures.err) c.self.invariant.0.now),
      held_now _ _ _ _ _ _ c.self.invariant.1 c.reserve_places.ensures.saved (c.reserve_places-2.ensures.saved ∙ g.heads_saved) g.cells_saved
          (rw (c.reserve_places.ensures.now, c.reserve_places-2.ensures.now) (held k.After-hold_new)),
    )

pub invariant_of-self-2 : goal.invariant_of-self-2
invariant_of-self-2 c =
    let k = goal.at.invariant_of-self-2 c in
    let g = c.hold_new.ensures.grows in
    let heads : c.push-2.new.self.now ≡ c.hold_new.new.heads.now ++ 0 ∷ [] = rw (c.unwrap.ensures, c.reserve_places-2.ensures.now) at c.push-2.ensures.ok in
    let roles : c.push-3.new.self.now ≡ c.self.inside.roles.now ++ c.args.role ∷ [] = rw (c.unwrap-2.ensures, c.reserve_places.ensures.now) at c.push-3.ensures.ok in
    let flags : c.push.new.self.now ≡ c.self.inside.restricted.now ++ c.args.restricted ∷ [] = c.in_ok-push.ensures.ok in (
      marked c.self.invariant.0 (c.push-3.ensures.saved ∙ c.reserve_places.ensures.saved) c.push.ensures.saved (record {
        table = rw roles (rw (← c.self.view_is) at c.requires);
        flags = omega (arith, ap length roles, ap length flags, length-append c.self.inside.roles.now (c.args.role ∷ []), length-append c.self.inside.restricted.now (c.args.restricted ∷ []), c.self.invariant.0.now.flags);
      }),
      held_now _ _ _ _ _ _ c.self.invariant.1 (c.push-3.ensures.saved ∙ c.reserve_places.ensures.saved) (c.push-2.ensures.saved ∙ c.reserve_places-2.ensures.saved ∙ g.heads_saved) g.cells_saved
          (rw (roles, heads) (held_pushed c.self.inside.roles.now c.args.role c.hold_new.new.heads.now c.hold_new.new.cells.now (held k.After-hold_new)
          (λ own d e m. subst (λ z. IsListed c.hold_new.new.heads.now c.hold_new.new.cells.now d z) c.len-number.ensures (c.in_ok-hold_new.ensures.listed own d e m)))),
    )
