use Rattle.std.proofs.Common.{Some, Err, ap, sym, subst, ◌++◌}
use Rattle.cq_frac.proofs.Exits.{refusal_told}
use Rattle.cq_frac.specs.declared.Operation.TheVariants.{Difference}
use Rattle.spec_transcript.specs.Operands.{both}
use Rattle.cq_cexpr.specs.Overflows.{ComesFrom}
use Rattle.cq_cexpr.proofs.relations.constraint.Goals as goal

pub returns-in_err-related-clause-overflow : goal.returns-in_err-related-clause-overflow
returns-in_err-related-clause-overflow c = λ pair e.
    subst (λ l. ComesFrom (both Difference l c.args.right ++ both Difference c.args.right l) pair) (sym c.in-Some-left.is)
    (subst (λ r. ComesFrom (both Difference (Some c.in-Some-left.left) r ++ both Difference r (Some c.in-Some-left.left)) pair) (sym c.in-Some-right.is)
    (c.in_err-related.ensures.overflow pair (ap Err (refusal_told _ _ pair c.from_residual.ensures.1 e))))
