use Rattle.std.proofs.Common.{◌≡◌, take, map}
use Rattle.cq_equations.specs.Rows.{monomial_of}
use Rattle.cq_equations.proofs.project.solved_for.Given as goal

abbrev pub invariant-places : goal.invariant-places
invariant-places l = map monomial_of l.products.items ≡ take l.i l.form.products
