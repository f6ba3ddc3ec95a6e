use Rattle.std.proofs.Common.{◌<◌, length, arith}
use Rattle.cq_cexpr.proofs.Places.{zero_skipped, entry_kept}
use Rattle.cq_cexpr.proofs.slots.filled.Goals as goal

pub loop-slot-preserved-then-is_zero : goal.loop-slot-preserved-then-is_zero
loop-slot-preserved-then-is_zero c =
    let l : c.loop-slot.slot-index < length c.args.slots.now = omega arith in
    zero_skipped c.args.slots.now _ c.loop-slot.slot-index c.slot-item.result l c.slot-item.is c.loop-slot.invariant (c.is_zero.ensures.0 c.if-is_zero.true)

pub loop-slot-preserved : goal.loop-slot-preserved
loop-slot-preserved c =
    let l : c.loop-slot.slot-index < length c.args.slots.now = omega arith in
    entry_kept c.args.slots.now _ c.loop-slot.slot-index c.slot-item.result l c.slot-item.is c.loop-slot.invariant _ (λ z. let e = c.is_zero.ensures.1 z in let f = c.if-is_zero.false in cc) c.in_ok-push.ensures.items
