use Rattle.std.proofs.Common.{◌≡◌, ◌++◌, drop}
use Rattle.cq_equations.specs.Told.{numbers_of}
use Rattle.cq_elimination.specs.Lines.{monomials_of}
use Rattle.cq_elimination.specs.Arranging.{picked}
use Rattle.cq_elimination.proofs.arrange.scaling.products_in.Given as goal

abbrev pub invariant-variables : goal.invariant-variables
invariant-variables l =
    monomials_of l.products.items ++ picked (numbers_of (drop l.x-index l.order)) l.form.products ≡ picked (numbers_of l.order) l.form.products
