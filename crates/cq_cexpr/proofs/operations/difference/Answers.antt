use Rattle.cq_frac.specs.declared.row.Joining.TheVariants.{Less}
use Rattle.cq_cexpr.proofs.Overflowing.{joined_comes}
use Rattle.cq_cexpr.proofs.operations.difference.Goals as goal

pub returns-clause-overflow : goal.returns-clause-overflow
returns-clause-overflow c = λ pair e.
    joined_comes Less c.args.left c.args.right.now c.is_in_order.ensures c.is_in_order-2.ensures pair (c.sub.ensures.overflow pair e)
