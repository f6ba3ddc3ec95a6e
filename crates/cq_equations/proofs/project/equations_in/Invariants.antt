use Rattle.std.proofs.Common.{◌≡◌, take}
use Rattle.spec_linear.specs.SolvedForm.{rows_of}
use Rattle.cq_equations.specs.Contents.{solved_of}
use Rattle.cq_equations.specs.Told.{numbers_of}
use Rattle.cq_equations.specs.Rows.{equations_of}
use Rattle.cq_equations.proofs.project.equations_in.Given as goal

abbrev pub invariant-wanted : goal.invariant-wanted
invariant-wanted l = equations_of l.equations.items ≡ rows_of (solved_of l.store) (numbers_of (take l.x-index l.keep))
