use Rattle.std.proofs.Common.{Err, ap}
use Rattle.cq_frac.specs.declared.row.Joining.TheVariants.{Plus}
use Rattle.cq_frac.proofs.Exits.{refusal_told}
use Rattle.cq_cexpr.proofs.Overflowing.{joined_comes}
use Rattle.cq_cexpr.proofs.operations.plus.Goals as goal

pub returns-in_err-add-clause-overflow : goal.returns-in_err-add-clause-overflow
returns-in_err-add-clause-overflow c = λ pair e.
    joined_comes Plus c.args.left c.args.right.now c.is_in_order.ensures c.is_in_order-2.ensures pair
    (c.in_err-add.ensures.overflow pair (ap Err (refusal_told _ _ pair c.from_residual.ensures.1 e)))
