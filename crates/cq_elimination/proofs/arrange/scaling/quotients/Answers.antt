use Rattle.std.proofs.Common.{◌<◌, length, arith, subst}
use Rattle.cq_frac.specs.declared.Operation.TheVariants.{Quotient}
use Rattle.cq_frac.specs.Refused.{Tells}
use Rattle.cq_frac.proofs.Exits.{pair_told}
use Rattle.cq_elimination.proofs.Lists.{has_at}
use Rattle.spec_projection.proofs.Members.{has_image}
use Rattle.cq_elimination.specs.Lines.{monomial_of}
use Rattle.cq_elimination.proofs.arrange.scaling.quotients.Goals as goal

pub returns-in_err-quotient-clause-overflow : goal.returns-in_err-quotient-clause-overflow
returns-in_err-quotient-clause-overflow c = λ pair e.
    let within : c.products.x-index < length c.args.products.now = omega arith in
    record {
      product = monomial_of c.products-item.result;
      member = has_image monomial_of c.products-item.result c.args.products.now (has_at c.args.products.now c.products.x-index c.products-item.result within c.products-item.is);
      told = subst (Tells Quotient c.products-item.result.1 c.args.divisor) (pair_told _ _ pair c.from_residual.ensures.1 e) c.in_err-quotient.ensures;
    }
