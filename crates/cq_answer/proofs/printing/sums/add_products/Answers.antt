use Rattle.std.proofs.Common.{◌<◌, ◌++◌, ◌∙◌, ap, length, arith}
use Rattle.cq_answer.specs.Names.{name_among}
use Rattle.spec_answers.specs.RowText.{product_text}
use Rattle.cq_equations.specs.Rows.{monomial_of}
use Rattle.cq_answer.proofs.Products.{sum_more}
use Rattle.cq_answer.proofs.printing.sums.add_products.Goals as goal

pub products-preserved : goal.products-preserved
products-preserved c =
    let name = name_among c.args.names.now in
    let product = c.product-item.result in
    let within : c.products.product-index < length c.args.products.now = omega arith in
    sum_more name c.args.sum.now.items c.args.products.now c.products.product-index product c.products.sum.items c.deref.result.now c.join.new.sum.items within c.product-item.is c.products.invariant
    (c.deref.ensures.value ∙ c.in_ok-push_product.ensures ∙ ap (λ t. t ++ product_text name (monomial_of product)) c.clear.ensures.items) c.in_ok-join.ensures
