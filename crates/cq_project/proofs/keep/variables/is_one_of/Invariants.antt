use Rattle.std.proofs.Common.{◌≡◌, drop}
use Rattle.cq_equations.specs.Told.{numbers_of}
use Rattle.cq_project.specs.Variables.{is_among}
use Rattle.cq_project.proofs.keep.variables.is_one_of.Given as goal

abbrev pub invariant-variables : goal.invariant-variables
invariant-variables l = is_among (numbers_of l.variables) l.variable.0 ≡ is_among (numbers_of (drop l.other-index l.variables)) l.variable.0
