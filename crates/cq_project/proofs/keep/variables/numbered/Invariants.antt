use Rattle.std.proofs.Common.{◌≡◌, take}
use Rattle.cq_equations.specs.Told.{numbers_of}
use Rattle.cq_project.proofs.keep.variables.numbered.Given as goal

abbrev pub invariant-numbers : goal.invariant-numbers
invariant-numbers l = numbers_of l.all.items ≡ take l.number-index l.numbers
