use Rattle.std.proofs.Common.{◌≡◌, take}
use Rattle.cq_equations.specs.Told.{numbers_of}
use Rattle.cq_project.specs.Variables.{others_than}
use Rattle.cq_project.proofs.keep.variables.others.Given as goal

abbrev pub invariant-variables : goal.invariant-variables
invariant-variables l = numbers_of l.others.items ≡ others_than (numbers_of l.taken) (numbers_of (take l.variable-index l.variables))
