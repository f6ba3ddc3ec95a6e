use Rattle.std.proofs.Common.{arith}
use Rattle.std.proofs.lemmas.Grind.{common_steps}
use Rattle.cq_answer.specs.Names.{name_among}
use Rattle.cq_equations.specs.Rows.{monomial_of}
use Rattle.cq_answer.proofs.Products.{product_is}
use Rattle.cq_answer.proofs.printing.sums.push_product.Goals as goal

pub returns : goal.returns
returns c = rw (product_is (name_among c.args.names.now) (monomial_of c.args.product)) (grind (arith, common_steps))
