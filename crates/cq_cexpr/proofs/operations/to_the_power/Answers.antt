use Rattle.std.proofs.Common.{Some, Err, ap, sym, subst, ◌∙◌}
use Rattle.spec_branch.specs.Expressions.{number_of, exponent_of}
use Rattle.cq_frac.proofs.Exits.{pair_told}
use Rattle.spec_transcript.specs.Operands.{power_operands}
use Rattle.cq_cexpr.specs.Overflows.{ComesFrom}
use Rattle.cq_cexpr.proofs.operations.to_the_power.Goals as goal

pub returns-in_err-power-in-Some-number-clause-overflow : goal.returns-in_err-power-in-Some-number-clause-overflow
returns-in_err-power-in-Some-number-clause-overflow c = λ pair e.
    subst (λ b. ComesFrom (power_operands b (exponent_of (number_of c.args.exponent.now))) pair) (sym (sym c.number-2.ensures.value ∙ c.in-Some-number.is))
    (subst (λ k. ComesFrom (power_operands (Some c.in-Some-number.number) k) pair) (sym (ap exponent_of (sym c.number.ensures.value) ∙ sym c.count_of.ensures ∙ c.in-Some.is))
    (c.in_err-power-in-Some-number.ensures.overflow pair (ap Err (pair_told _ _ pair c.from_residual-in_err-power-in-Some-number.ensures.1 e))))
