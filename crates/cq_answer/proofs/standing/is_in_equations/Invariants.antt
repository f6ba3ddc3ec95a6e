use Rattle.std.proofs.Common.{◌≡◌, drop}
use Rattle.spec_answers.specs.Rows.{equation_variables}
use Rattle.cq_equations.specs.Rows.{equations_of}
use Rattle.cq_answer.specs.Numbered.{has_variable}
use Rattle.cq_answer.proofs.standing.is_in_equations.Given as goal

abbrev pub invariant-rows : goal.invariant-rows
invariant-rows l = has_variable (equation_variables (equations_of (drop l.row-index l.rows))) l.variable.0 ≡ has_variable (equation_variables (equations_of l.rows)) l.variable.0
