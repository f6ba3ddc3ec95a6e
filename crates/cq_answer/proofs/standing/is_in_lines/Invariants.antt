use Rattle.std.proofs.Common.{◌≡◌, drop}
use Rattle.cq_answer.specs.Numbered.{has_variable}
use Rattle.cq_answer.specs.Standing.{line_variables}
use Rattle.cq_answer.proofs.standing.is_in_lines.Given as goal

abbrev pub invariant-rows : goal.invariant-rows
invariant-rows l = has_variable (line_variables (drop l.row-index l.rows)) l.variable.0 ≡ has_variable (line_variables l.rows) l.variable.0
