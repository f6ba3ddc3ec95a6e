use Rattle.std.proofs.Common.{Err, ap, subst}
use Rattle.std.proofs.lemmas.Result.{IfOk-weaker}
use Rattle.spec_linear.specs.Form.{Linear}
use Rattle.cq_frac.proofs.Exits.{refusal_told}
use Rattle.cq_form.specs.Steps.{SumPair}
use Rattle.cq_project.specs.Putting.{all_solved_by, scales, adds}
use Rattle.cq_project.proofs.Products.{with_value}
use Rattle.cq_project.proofs.echelon.putting.with_product.Goals as goal

pub returns-in_err-multiple-clause-overflow : goal.returns-in_err-multiple-clause-overflow
returns-in_err-multiple-clause-overflow c = λ pair e.
    let o = c.in_err-multiple.ensures.overflow pair (ap Err (refusal_told _ _ pair c.from_residual-in_err-multiple.ensures.1 e)) in
    scales c.in_ok-row.row c.entries-products.ensures.in_order c.in_ok-row.ensures o.0 o.1

pub returns-clause-value : goal.returns-clause-value
returns-clause-value c =
    IfOk-weaker c.add.result _ _
    (λ f e. with_value (all_solved_by c.args.rows.now) c.args.sum c.in_ok-multiple.multiple c.in_ok-row.row f c.args.product.factor c.args.product.quantity c.in_ok-multiple.ensures.value
    c.in_ok-row.ensures e)
    c.add.ensures.value

pub returns-clause-overflow : goal.returns-clause-overflow
returns-clause-overflow c = λ pair e.
    let o = c.add.ensures.overflow pair e in
    adds c.in_ok-row.row c.entries-products.ensures.in_order c.in_ok-row.ensures
    (subst (λ (f : Linear). SumPair c.args.sum f pair.operation pair.left pair.right) c.in_ok-multiple.ensures.value o.0) o.1
