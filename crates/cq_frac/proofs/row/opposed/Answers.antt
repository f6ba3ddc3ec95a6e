use Rattle.std.proofs.Common.{◌<◌, length, arith}
use Rattle.cq_frac.proofs.Steps.{negated_more}
use Rattle.cq_frac.proofs.row.opposed.Goals as goal

pub loop-m-preserved : goal.loop-m-preserved
loop-m-preserved c =
    let l : c.loop-m.m-index < length c.args.row.now = omega arith in
    negated_more c.args.row.now _ _ c.loop-m.m-index c.m-item.result _ l c.m-item.is c.in_ok-push.ensures.items c.loop-m.invariant c.neg.ensures
