use Rattle.std.proofs.Common.{Err, ap, subst}
use Rattle.spec_linear.specs.Solution.{Constraint}
use Rattle.cq_frac.proofs.Exits.{refusal_told}
use Rattle.cq_elimination.specs.Steps.{IsQuotientOf}
use Rattle.cq_elimination.proofs.fourier.divided_row.Goals as goal

pub returns-in_err-divided-clause-overflow : goal.returns-in_err-divided-clause-overflow
returns-in_err-divided-clause-overflow c = λ pair e.
    subst (λ (r : Constraint). IsQuotientOf r.form c.args.divisor pair) c.row.view_is
    (c.in_err-divided.ensures.overflow pair (ap Err (refusal_told _ _ pair c.from_residual.ensures.1 e)))
