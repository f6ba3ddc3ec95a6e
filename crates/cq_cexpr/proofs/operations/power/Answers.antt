use Rattle.std.proofs.Common.{◌≡◌, ◌+◌, suc, ap, subst, ◌∙◌, arith}
use Rattle.spec_numbers.specs.Rational.{◌*ℚ◌}
use Rattle.spec_branch.specs.Expressions.{power}
use Rattle.cq_frac.specs.Refused.{Tells}
use Rattle.cq_frac.specs.declared.Operation.TheVariants.{Product}
use Rattle.cq_cexpr.proofs.Overflowing.{power_comes, error_told}
use Rattle.cq_cexpr.proofs.Numbers.{first_power}
use Rattle.cq_cexpr.proofs.operations.power.Goals as goal

pub loop-factor-init : goal.loop-factor-init
loop-factor-init c = first_power c.args.base

pub loop-factor-preserved : goal.loop-factor-preserved
loop-factor-preserved c =
    let next : suc c.loop-factor._factor ≡ c.loop-factor._factor + 1 = omega arith in
    c.in_ok-power.ensures.0 ∙ ap (λ p. p *ℚ c.args.base) c.loop-factor.invariant ∙ ap (power c.args.base) next

pub returns-in_err-power-clause-overflow : goal.returns-in_err-power-clause-overflow
returns-in_err-power-clause-overflow c = λ pair e.
    power_comes c.args.base c.args.exponent c.loop-factor._factor (omega arith) (omega arith) c.loop-factor.power c.loop-factor.invariant pair
    (subst (Tells Product c.loop-factor.power c.args.base) (error_told _ _ pair c.from_residual.ensures.1 e) c.in_err-power.ensures)

pub returns-clause-value : goal.returns-clause-value
returns-clause-value c =
    let all : c.loop-factor._factor ≡ c.args.exponent = omega arith in
    c.loop-factor.invariant ∙ ap (power c.args.base) all
