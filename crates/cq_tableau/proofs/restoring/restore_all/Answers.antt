use Rattle.std.proofs.Common.{◌≡◌, true, false, arith, subst, ◌∙◌}
use Rattle.cq_dict.specs.Roles.{is_dropped, is_restricted}
use Rattle.cq_tableau.specs.Restored.{Restores}
use Rattle.cq_tableau.proofs.Restores.{restores_further, none_further}
use Rattle.cq_tableau.proofs.restoring.restore_all.Goals as goal

pub loop-q-preserved : goal.loop-q-preserved
loop-q-preserved c =
    let old = c.args.dict.now in
    let mid = c.loop-q.dict.roles in
    let new = c.restore_restricted.new.dict.roles in
    let i = c.loop-q.invariant in
    let e = c.in_ok-restore_restricted.ensures in
    let r = subst (λ f. Restores f mid new) i.flags e.restored in
    record {
      restored = restores_further old.restricted old.roles mid new i.restored r;
      none = none_further old.restricted old.roles mid new c.loop-q.q r i.none
          (subst (λ f. is_dropped new c.loop-q.q ≡ true → is_restricted f c.loop-q.q ≡ false) i.flags e.own);
      flags = e.flags ∙ i.flags;
      saved = e.saved ∙ i.saved;
      room = omega (arith, e.room, i.room);
    }
