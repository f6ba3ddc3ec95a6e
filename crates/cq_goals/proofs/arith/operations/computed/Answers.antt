use Rattle.std.proofs.Common.{sym, subst}
use Rattle.cq_frac.specs.declared.Operation.TheVariants.{Sum, Difference, Product}
use Rattle.cq_goals.specs.ArithFaults.{IsComputed}
use Rattle.cq_goals.proofs.Computed.{computed, computed_quotient}
use Rattle.cq_goals.proofs.arith.operations.computed.Goals as goal

pub returns-in-Sum : goal.returns-in-Sum
returns-in-Sum c =
    subst (λ o. IsComputed o c.args.left c.args.right c.add.result) (sym c.in-Sum.is)
    (computed Sum c.args.left c.args.right c.add.result (λ e. cc) c.add.ensures.value c.add.ensures.accepted c.add.ensures.overflow.0 c.add.ensures.other)

pub returns-in-Difference : goal.returns-in-Difference
returns-in-Difference c =
    subst (λ o. IsComputed o c.args.left c.args.right c.sub.result) (sym c.in-Difference.is)
    (computed Difference c.args.left c.args.right c.sub.result (λ e. cc) c.sub.ensures.value c.sub.ensures.accepted c.sub.ensures.overflow.0 c.sub.ensures.other)

pub returns-in-Product : goal.returns-in-Product
returns-in-Product c =
    subst (λ o. IsComputed o c.args.left c.args.right c.mul.result) (sym c.in-Product.is)
    (computed Product c.args.left c.args.right c.mul.result (λ e. cc) c.mul.ensures.value c.mul.ensures.accepted c.mul.ensures.overflow.0 c.mul.ensures.other)

pub returns-in-Quotient : goal.returns-in-Quotient
returns-in-Quotient c =
    subst (λ o. IsComputed o c.args.left c.args.right c.div.result) (sym c.in-Quotient.is)
    (computed_quotient c.args.left c.args.right c.div.result c.div.ensures.value c.div.ensures.accepted c.div.ensures.zero.0 c.div.ensures.overflow.0)
