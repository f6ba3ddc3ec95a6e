use Rattle.std.proofs.Common.{◌≡◌, true, Some, Err, ap, sym, subst, ◌∙◌, ◌∷◌, []}
use Rattle.spec_simplex.specs.Overflow.{on}
use Rattle.spec_branch.specs.Expressions.{number_of}
use Rattle.spec_branch.proofs.Kept.{is_constant_form}
use Rattle.cq_frac.proofs.Exits.{refusal_told}
use Rattle.cq_frac.specs.declared.Operation.TheVariants.{Quotient}
use Rattle.cq_cexpr.specs.Overflows.{ComesFrom}
use Rattle.cq_cexpr.proofs.Numbers.{zero_quotient, nonzero_quotient, nonzero_operands}
use Rattle.cq_cexpr.proofs.operations.over.Goals as goal

pub returns-then-is_zero-clause-value : goal.returns-then-is_zero-clause-value
returns-then-is_zero-clause-value c =
    zero_quotient c.args.left.now _ c.in-Some.divisor (sym c.number.ensures.value ∙ c.in-Some.is) (c.is_zero.ensures.0 c.if-is_zero.true)

pub returns-in_err-over_number-clause-overflow : goal.returns-in_err-over_number-clause-overflow
returns-in_err-over_number-clause-overflow c = λ pair e.
    let known : number_of c.args.right.now ≡ Some c.in-Some.divisor = sym c.number.ensures.value ∙ c.in-Some.is in
    subst (λ operands. ComesFrom operands pair)
    (nonzero_operands c.args.left.now c.args.right.now _ c.in-Some.divisor known (λ z. let zero : c.is_zero.result ≡ true = c.is_zero.ensures.1 z in cc))
    (subst (λ g. ComesFrom (on Quotient c.args.left.now g ∷ []) pair) (sym (is_constant_form c.args.right.now c.in-Some.divisor known))
    (c.in_err-over_number.ensures.overflow pair (ap Err (refusal_told _ _ pair c.from_residual.ensures.1 e))))

pub returns-clause-value : goal.returns-clause-value
returns-clause-value c =
    ap Some c.in_ok-over_number.ensures.value
    ∙ nonzero_quotient c.args.left.now _ c.in-Some.divisor (sym c.number.ensures.value ∙ c.in-Some.is) (λ z. let zero : c.is_zero.result ≡ true = c.is_zero.ensures.1 z in cc)
