use Rattle.std.proofs.Common.{take}
use Rattle.cq_equations.specs.Rows.{equations_of}
use Rattle.cq_project.specs.Putting.{all_solved_by, AreAlike}
use Rattle.cq_project.proofs.echelon.putting.all_sorted.Given as goal

abbrev pub invariant-equations : goal.invariant-equations
invariant-equations l = AreAlike (all_solved_by l.rows.items) (equations_of (take l.equation-index l.equations))
