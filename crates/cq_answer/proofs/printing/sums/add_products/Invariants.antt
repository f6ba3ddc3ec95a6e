use Rattle.std.proofs.Common.{◌≡◌, map, take}
use Rattle.cq_answer.specs.Names.{name_among}
use Rattle.spec_answers.specs.RowText.{sum_onto}
use Rattle.cq_equations.specs.Rows.{monomial_of}
use Rattle.cq_answer.proofs.printing.sums.add_products.Given as goal

abbrev pub invariant-products : goal.invariant-products
invariant-products l = l.sum.items ≡ sum_onto (name_among l.names) l.fn.sum.items (map monomial_of (take l.product-index l.products))
