use Rattle.std.proofs.Common.{◌≡◌, ◌≢◌, ◌++◌, ◌∙◌, ap, true, false, refl, drop, map}
use Rattle.spec_numbers.specs.Rational.{0ℚ}
use Rattle.cq_answer.specs.Names.{name_among}
use Rattle.spec_text.specs.Numbers.{number_text}
use Rattle.spec_answers.specs.RowText.{product_text, sum_onto, joined}
use Rattle.cq_equations.specs.Rows.{monomial_of}
use Rattle.cq_answer.proofs.Products.{rest_is, products_alone, products_and_constant}
use Rattle.cq_answer.proofs.printing.sums.linear_text.Goals as goal
use Rattle.cq_answer.proofs.printing.sums.linear_text.Goals.{then-not-is_zero+in_ok-push_number-2+in_ok-join, else-not-is_zero}

pub returns : goal.returns
returns c =
    let name = name_among c.args.names.now in
    let first = c.first-item.result in
    let ps = c.args.products.now in
    let q = c.args.constant in
    let start : c.push_product.new.out.items ≡ product_text name (monomial_of first) = c.in_ok-push_product.ensures ∙ ap (λ t. t ++ product_text name (monomial_of first)) c.new-text.ensures.items in
    let sum : c.add_products.new.sum.items ≡ sum_onto name (product_text name (monomial_of first)) (map monomial_of (drop 1 ps)) = c.in_ok-add_products.ensures ∙ ap (λ t. sum_onto name c.push_product.new.out.items (map monomial_of t)) (rest_is ps) ∙ ap (λ t. sum_onto name t (map monomial_of (drop 1 ps))) start in
    elim c.if-not-is_zero.branch [
      | then-not-is_zero+in_ok-push_number-2+in_ok-join w ↦
          let some : q ≢ 0ℚ = λ e. let n : false ≡ true = w.if-not-is_zero.ensures.1 e in cc in
          let number : w.deref.result.now ≡ number_text q = w.deref.ensures.value ∙ w.in_ok-push_number-2.ensures ∙ ap (λ t. t ++ number_text q) w.new-piece.ensures.items in
          rw w.text-is (w.in_ok-join.ensures ∙ ap (joined c.add_products.new.sum.items) number ∙ products_and_constant name ps first q c.add_products.new.sum.items c.in-len1-up.len_at_least c.first-item.is sum some)
      | else-not-is_zero w ↦
          rw w.text-is (products_alone name ps first q c.add_products.new.sum.items c.in-len1-up.len_at_least c.first-item.is sum (w.if-not-is_zero.ensures.0 refl))
    ]
