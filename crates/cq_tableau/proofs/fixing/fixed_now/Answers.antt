use Rattle.std.proofs.Common.{◌∙◌, ◌+◌, ◌<◌, List, length, take, arith, ap, sym, subst}
use Rattle.cq_frac.specs.declared.VarId.{VarId}
use Rattle.cq_dict.specs.DictValue.{quantities_of}
use Rattle.cq_tableau.specs.Fixing.{AreFixedNow}
use Rattle.cq_tableau.proofs.Opens.{open_at, value_at, no_value, some_value}
use Rattle.cq_tableau.proofs.fixing.fixed_now.Goals as goal
use Rattle.cq_tableau.proofs.fixing.fixed_now.Goals.{in-Some+in_ok-push, in_default}

pub loop-x-preserved : goal.loop-x-preserved
loop-x-preserved c =
    let names = c.args.names.now.now in
    let q = quantities_of c.args.dict.now in
    let items = c.args.before.now in
    let i = c.loop-x.x-index in
    let l : c.loop-x.x-index < length c.args.before.now = omega arith in
    elim c.match-value_of.branch [
      | in-Some+in_ok-push w ↦
          subst (λ (s : List VarId). AreFixedNow names q (take (i + 1) items) s) (sym (ap (λ v. v.items) w.fixed-is ∙ w.in_ok-push.ensures.items))
          (value_at names q items c.loop-x.fixed.items i l c.loop-x.invariant _ (some_value names q _ c.value_of.result c.value_of.ensures _ w.in-Some.is))
      | in_default w ↦
          subst (λ (s : List VarId). AreFixedNow names q (take (i + 1) items) s) (sym (ap (λ v. v.items) w.fixed-is))
          (open_at names q items c.loop-x.fixed.items i l c.loop-x.invariant _ (no_value names q _ c.value_of.result c.value_of.ensures w.in_default.is))
    ]
