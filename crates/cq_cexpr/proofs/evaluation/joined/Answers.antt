use Rattle.std.proofs.Common.{Err, ap, sym, ◌∙◌}
use Rattle.cq_frac.proofs.Exits.{refusal_told}
use Rattle.cq_cexpr.specs.Names.{binary_meant}
use Rattle.cq_cexpr.proofs.Steps.{joined_zero, joined_form}
use Rattle.cq_cexpr.proofs.evaluation.joined.Goals as goal

pub returns-then-has_zero_divisor-clause-value : goal.returns-then-has_zero_divisor-clause-value
returns-then-has_zero_divisor-clause-value c =
    joined_zero (binary_meant c.args.operation) c.args.left c.args.right (sym c.has_zero_divisor.ensures ∙ c.if-has_zero_divisor.true)

pub returns-in_err-operated-clause-overflow : goal.returns-in_err-operated-clause-overflow
returns-in_err-operated-clause-overflow c = λ pair e. c.in_err-operated.ensures.overflow pair (ap Err (refusal_told _ _ pair c.from_residual.ensures.1 e))

pub returns-clause-value : goal.returns-clause-value
returns-clause-value c =
    joined_form (binary_meant c.args.operation) c.args.left c.in_ok-operated.field-0 c.args.right (sym c.has_zero_divisor.ensures ∙ c.if-has_zero_divisor.false)
    c.in_ok-operated.ensures.value c.in_ok-operated.ensures.due
