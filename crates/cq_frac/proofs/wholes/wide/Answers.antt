use Rattle.std.proofs.Common.{refl}
use Rattle.cq_frac.proofs.Wide.{carried}
use Rattle.cq_frac.proofs.wholes.wide.Goals as goal

pub returns-clause-value : goal.returns-clause-value
returns-clause-value c =
    carried c.halves-a_high.result.0 c.halves-a_high.result.1 c.halves-b_high.result.0 c.halves-b_high.result.1 c.args.a c.args.b
    c.product_64-3.result c.product_64.result c.product_64-2.result c.product_64-lowest.result _ _ c.halves-a_high.ensures c.halves-b_high.ensures
    c.product_64-3.ensures.value c.product_64.ensures.value c.product_64-2.ensures.value c.product_64-lowest.ensures.value refl refl
