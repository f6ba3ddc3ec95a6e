use Rattle.std.proofs.Common.{drop}
use Rattle.cq_equations.specs.Told.{numbers_of}
use Rattle.cq_elimination.specs.Lines.{monomials_of}
use Rattle.cq_elimination.proofs.Comparing.{Compares}
use Rattle.cq_elimination.proofs.arrange.order.compare_products.Given as goal

abbrev pub invariant-variables : goal.invariant-variables
invariant-variables l =
    Compares (numbers_of l.order) (monomials_of l.s) (monomials_of l.t) (numbers_of (drop l.x-index l.order)) (monomials_of (drop l.i l.s)) (monomials_of (drop l.i l.t))
