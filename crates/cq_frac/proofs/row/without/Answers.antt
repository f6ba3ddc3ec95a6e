use Rattle.std.proofs.Common.{◌<◌, length, arith}
use Rattle.cq_frac.proofs.Steps.{others_skip, others_more}
use Rattle.cq_frac.proofs.row.without.Goals as goal

pub loop-m-preserved-then-m-quantity : goal.loop-m-preserved-then-m-quantity
loop-m-preserved-then-m-quantity c =
    let l : c.loop-m.m-index < length c.args.row.now = omega arith in
    others_skip c.args.quantity c.args.row.now _ c.loop-m.m-index c.m-item.result l c.m-item.is c.loop-m.invariant c.if-m-quantity.true

pub loop-m-preserved : goal.loop-m-preserved
loop-m-preserved c =
    let l : c.loop-m.m-index < length c.args.row.now = omega arith in
    others_more c.args.quantity c.args.row.now _ c.loop-m.m-index c.m-item.result l c.m-item.is c.loop-m.invariant _ c.if-m-quantity.false c.in_ok-push.ensures.items
