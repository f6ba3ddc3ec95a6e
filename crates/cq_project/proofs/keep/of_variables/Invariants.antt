use Rattle.std.proofs.Common.{◌≡◌}
use Rattle.cq_equations.specs.Told.{numbers_of}
use Rattle.cq_equations.specs.Rows.{equations_of}
use Rattle.cq_project.specs.Variables.{solved_for}
use Rattle.cq_project.proofs.keep.of_variables.Given as goal

abbrev pub invariant-equations : goal.invariant-equations
invariant-equations l = equations_of l.chosen.items ≡ solved_for (numbers_of l.variables) (equations_of l.yielded)
