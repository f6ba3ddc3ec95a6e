use Rattle.std.proofs.Common.{◌≡◌, Err, Some, ap, subst, sym, ◌∙◌, ◌∷◌, []}
use Rattle.spec_simplex.specs.Overflow.{on}
use Rattle.spec_branch.specs.Expressions.{number_of}
use Rattle.spec_branch.proofs.Kept.{is_constant_form}
use Rattle.spec_transcript.specs.Operands.{product_operands}
use Rattle.cq_frac.proofs.Exits.{refusal_told}
use Rattle.cq_frac.specs.declared.Operation.TheVariants.{Product}
use Rattle.cq_cexpr.specs.Overflows.{ComesFrom}
use Rattle.cq_cexpr.proofs.Numbers.{left_operands}
use Rattle.cq_cexpr.proofs.Overflowing.{scaled_comes}
use Rattle.cq_cexpr.proofs.operations.times.Goals as goal

pub returns-in-Some-clause-overflow : goal.returns-in-Some-clause-overflow
returns-in-Some-clause-overflow c = λ pair e.
    let known : number_of c.args.right.now ≡ Some c.in-Some.factor = sym c.number.ensures.value ∙ c.in-Some.is in
    subst (λ q. ComesFrom (product_operands c.args.left.now (number_of c.args.left.now) c.args.right.now q) pair) (sym known)
    (subst (λ g. ComesFrom (on Product c.args.left.now g ∷ []) pair) (sym (is_constant_form c.args.right.now c.in-Some.factor known)) (c.multiplied.ensures.overflow pair e))

pub returns-in_err-scale-in-Some-number-clause-overflow : goal.returns-in_err-scale-in-Some-number-clause-overflow
returns-in_err-scale-in-Some-number-clause-overflow c = λ pair e.
    let known : number_of c.args.left.now ≡ Some c.in-Some-number.factor = sym c.number-2.ensures.value ∙ c.in-Some-number.is in
    subst (λ p. ComesFrom (product_operands c.args.left.now p c.args.right.now (number_of c.args.right.now)) pair) (sym known)
    (subst (λ operands. ComesFrom operands pair) (left_operands c.args.left.now c.in-Some-number.factor c.args.right.now (number_of c.args.right.now))
    (scaled_comes c.args.left.now c.in-Some-number.factor c.args.right.now known c.number.ensures.in_order pair
    (c.in_err-scale-in-Some-number.ensures.overflow pair (ap Err (refusal_told _ _ pair c.from_residual.ensures.1 e)))))
