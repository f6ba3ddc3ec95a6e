use Rattle.std.proofs.Common.{Err, ap, sym, subst}
use Rattle.cq_frac.proofs.Exits.{refusal_told}
use Rattle.cq_cexpr.specs.Overflows.{ComesFrom}
use Rattle.cq_cexpr.specs.Sums.{due_in}
use Rattle.cq_cexpr.proofs.sums.whole.Goals as goal

pub returns-in_err-total-in-Some-clause-overflow : goal.returns-in_err-total-in-Some-clause-overflow
returns-in_err-total-in-Some-clause-overflow c = λ pair e.
    subst (λ s. ComesFrom (due_in s) pair) (sym c.in-Some.is) (c.in_err-total-in-Some.ensures.overflow pair (ap Err (refusal_told _ _ pair c.from_residual.ensures.1 e)))
