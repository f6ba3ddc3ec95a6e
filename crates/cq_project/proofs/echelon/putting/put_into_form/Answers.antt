use Rattle.std.proofs.Common.{◌+◌, ◌<◌, length, take, drop, Err, arith, ap, sym, ◌∙◌}
use Rattle.spec_numbers.specs.Rational.{◌+ℚ◌, ◌*ℚ◌}
use Rattle.cq_frac.proofs.Exits.{refusal_told}
use Rattle.cq_form.specs.Entries.{product_of}
use Rattle.cq_project.specs.Putting.{value_of, all_solved_by}
use Rattle.cq_project.proofs.Products.{products_split, value_more}
use Rattle.cq_project.proofs.echelon.putting.put_into_form.Goals as goal

pub returns-in_err-sum-2-clause-overflow : goal.returns-in_err-sum-2-clause-overflow
returns-in_err-sum-2-clause-overflow c = λ pair e.
    let within : c.products.product-index < length c.entries-product-items.result.now = omega arith in
    record {
      ordered = c.entries-product-items.ensures.in_order;
      earlier = take c.products.product-index c.args.form.now.products;
      now = product_of c.product-item.result;
      later = drop (c.products.product-index + 1) c.args.form.now.products;
      split = products_split c.args.form.now c.entries-product-items.result.now c.entries-product-items.ensures.value c.products.product-index c.product-item.result within
          c.product-item.is;
      before = c.products.sum;
      before_ordered = c.entries-products.ensures.in_order;
      gave = c.products.invariant;
      puts = c.in_err-sum-2.ensures.overflow pair (ap Err (refusal_told _ _ pair c.from_residual-in_err-sum-2.ensures.1 e));
    }

pub products-preserved : goal.products-preserved
products-preserved c = λ a.
    let within : c.products.product-index < length c.entries-product-items.result.now = omega arith in
    let value = value_of (all_solved_by c.args.rows.now) a in
    c.in_ok-sum-2.ensures.value a ∙ ap (λ q. q +ℚ c.product-item.result.factor *ℚ value c.product-item.result.quantity) (c.products.invariant a)
    ∙ sym (value_more c.args.form.now c.entries-product-items.result.now c.entries-product-items.ensures.value c.products.product-index c.product-item.result within
    c.product-item.is value)
