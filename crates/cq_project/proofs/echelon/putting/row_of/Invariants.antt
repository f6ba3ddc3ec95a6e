use Rattle.std.proofs.Common.{◌≡◌, ℕ, drop}
use Rattle.spec_numbers.specs.Rational.{ℚ}
use Rattle.cq_project.specs.Putting.{value_of, all_solved_by}
use Rattle.cq_project.proofs.echelon.putting.row_of.Given as goal

abbrev pub invariant-rows : goal.invariant-rows
invariant-rows l = (a : ℕ → ℚ) → value_of (all_solved_by l.rows) a l.variable.0 ≡ value_of (all_solved_by (drop l.row-index l.rows)) a l.variable.0
