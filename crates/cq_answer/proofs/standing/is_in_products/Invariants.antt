use Rattle.std.proofs.Common.{◌≡◌, drop, map}
use Rattle.spec_linear.specs.Form.{variables}
use Rattle.cq_equations.specs.Rows.{monomial_of}
use Rattle.cq_answer.specs.Numbered.{has_variable}
use Rattle.cq_answer.proofs.standing.is_in_products.Given as goal

abbrev pub invariant-products : goal.invariant-products
invariant-products l =
    has_variable (variables (map monomial_of (drop l.product-index l.products))) l.variable.0 ≡ has_variable (variables (map monomial_of l.products)) l.variable.0
