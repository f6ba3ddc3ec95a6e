use Rattle.std.proofs.Common.{map, Err, arith, ap, subst, ◌∙◌}
use Rattle.spec_numbers.specs.Rational.{ℚ, ◌/ℚ◌, neg_ℚ}
use Rattle.cq_frac.specs.declared.Operation.TheVariants.{Quotient}
use Rattle.cq_frac.specs.Refused.{Tells}
use Rattle.cq_frac.proofs.Exits.{pair_told, refusal_told}
use Rattle.cq_equations.specs.Told.{numbers_of}
use Rattle.cq_elimination.specs.Lines.{monomials_of}
use Rattle.cq_elimination.specs.Arranging.{over_lead, DividesProduct}
use Rattle.cq_elimination.proofs.ArrangePrinting.{any_product, lead_nonzero, divides_constant, divides_product, prints, lead_sign}
use Rattle.cq_elimination.proofs.arrange.scaling.printed.Goals as goal

pub index-requires : goal.index-requires
index-requires c =
    let some = any_product (numbers_of c.args.order.now) c.args.row.now c.row.inside.relation c.row.inside.form c.row.view_is c.requires.over c.in_ok-products.ensures.in_order
    c.in_ok-products.products.items c.in_ok-products.ensures.value c.requires.mentions in
    omega (arith, some)

pub quotients-requires : goal.quotients-requires
quotients-requires c =
    let some = any_product (numbers_of c.args.order.now) c.args.row.now c.row.inside.relation c.row.inside.form c.row.view_is c.requires.over c.in_ok-products.ensures.in_order
    c.in_ok-products.products.items c.in_ok-products.ensures.value c.requires.mentions in
    record {
      nonzero = lead_nonzero (numbers_of c.args.order.now) c.args.row.now c.row.inside.relation c.row.inside.form c.row.view_is c.requires.over c.in_ok-products.ensures.in_order
          c.in_ok-products.products.items c.in_ok-products.ensures.value some c.index.result.now c.index.ensures;
    }

pub returns-in_err-quotients-clause-overflow : goal.returns-in_err-quotients-clause-overflow
returns-in_err-quotients-clause-overflow c = λ pair e.
    let some = any_product (numbers_of c.args.order.now) c.args.row.now c.row.inside.relation c.row.inside.form c.row.view_is c.requires.over c.in_ok-products.ensures.in_order
    c.in_ok-products.products.items c.in_ok-products.ensures.value c.requires.mentions in
    divides_product (numbers_of c.args.order.now) c.args.row.now c.row.inside.relation c.row.inside.form c.row.view_is c.requires.over c.in_ok-products.ensures.in_order
    c.in_ok-products.products.items c.in_ok-products.ensures.value some c.index.result.now c.index.ensures pair
    (subst (λ ps. DividesProduct (monomials_of ps) c.index.result.now.1 pair) c.deref.ensures.value
    (c.in_err-quotients.ensures.overflow pair (ap Err (refusal_told _ _ pair c.from_residual-in_err-quotients.ensures.1 e))))

pub quotient-requires : goal.quotient-requires
quotient-requires c =
    let some = any_product (numbers_of c.args.order.now) c.args.row.now c.row.inside.relation c.row.inside.form c.row.view_is c.requires.over c.in_ok-products.ensures.in_order
    c.in_ok-products.products.items c.in_ok-products.ensures.value c.requires.mentions in
    record {
      divisor = lead_nonzero (numbers_of c.args.order.now) c.args.row.now c.row.inside.relation c.row.inside.form c.row.view_is c.requires.over c.in_ok-products.ensures.in_order
          c.in_ok-products.products.items c.in_ok-products.ensures.value some c.index.result.now c.index.ensures;
    }

pub returns-in_err-quotient-clause-overflow : goal.returns-in_err-quotient-clause-overflow
returns-in_err-quotient-clause-overflow c = λ pair e.
    let some = any_product (numbers_of c.args.order.now) c.args.row.now c.row.inside.relation c.row.inside.form c.row.view_is c.requires.over c.in_ok-products.ensures.in_order
    c.in_ok-products.products.items c.in_ok-products.ensures.value c.requires.mentions in
    let told : Tells Quotient c.constant.result c.index.result.now.1 pair =
    subst (Tells Quotient c.constant.result c.index.result.now.1) (pair_told _ _ pair c.from_residual-in_err-quotient.ensures.1 e) c.in_err-quotient.ensures in
    divides_constant (numbers_of c.args.order.now) c.args.row.now c.row.inside.relation c.row.inside.form c.row.view_is c.requires.over c.in_ok-products.ensures.in_order
    c.in_ok-products.products.items c.in_ok-products.ensures.value some c.index.result.now c.index.ensures pair
    (subst (λ (q : ℚ). Tells Quotient q c.index.result.now.1 pair) c.constant.ensures told)

pub returns-clause-value : goal.returns-clause-value
returns-clause-value c =
    let some = any_product (numbers_of c.args.order.now) c.args.row.now c.row.inside.relation c.row.inside.form c.row.view_is c.requires.over c.in_ok-products.ensures.in_order
    c.in_ok-products.products.items c.in_ok-products.ensures.value c.requires.mentions in
    let nonzero = lead_nonzero (numbers_of c.args.order.now) c.args.row.now c.row.inside.relation c.row.inside.form c.row.view_is c.requires.over c.in_ok-products.ensures.in_order
    c.in_ok-products.products.items c.in_ok-products.ensures.value some c.index.result.now c.index.ensures in
    prints (numbers_of c.args.order.now) c.args.row.now c.row.inside.relation c.row.inside.form c.row.view_is c.requires.over c.in_ok-products.ensures.in_order
    c.in_ok-products.products.items c.in_ok-products.ensures.value some c.index.result.now c.index.ensures c.requires.distinct c.requires.unequal
    (monomials_of c.in_ok-quotients.quotients.items)
    (c.in_ok-quotients.ensures.value ∙ ap (λ ps. map (over_lead c.index.result.now.1) (monomials_of ps)) c.deref.ensures.value) c.is_positive.result
    (lead_sign c.index.result.now.1 c.is_positive.result nonzero c.is_positive.ensures.positive c.is_positive.ensures.otherwise) c.comparison-comparison.result
    c.comparison-comparison.ensures c.neg-bound.result
    (c.neg-bound.ensures ∙ ap neg_ℚ (c.in_ok-quotient.ensures.0 ∙ ap (λ q. q /ℚ c.index.result.now.1) c.constant.ensures))
