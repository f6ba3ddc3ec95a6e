use Rattle.std.proofs.Common.{◌<◌, length, arith}
use Rattle.cq_elimination.proofs.Bounding.{none_more}
use Rattle.cq_elimination.proofs.apart.is_bounded.Goals as goal

pub rows-preserved : goal.rows-preserved
rows-preserved c =
    let within : c.rows.row-index < length c.args.rows.now = omega arith in
    none_more c.args.side c.args.variable c.args.rows.now c.rows.row-index c.row-item.result within c.row-item.is c.if-bounds.ensures c.rows.invariant
