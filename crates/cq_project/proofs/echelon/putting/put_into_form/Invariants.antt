use Rattle.std.proofs.Common.{◌≡◌, ℕ, take}
use Rattle.spec_numbers.specs.Rational.{ℚ}
use Rattle.spec_linear.specs.Form.{value_at}
use Rattle.cq_project.specs.Putting.{value_of, all_solved_by}
use Rattle.cq_project.proofs.echelon.putting.put_into_form.Given as goal

abbrev pub invariant-products : goal.invariant-products
invariant-products l = (a : ℕ → ℚ)
    → value_at a l.sum ≡ value_at (value_of (all_solved_by l.rows) a) (record { products = take l.product-index l.form.products; constant = l.form.constant })
