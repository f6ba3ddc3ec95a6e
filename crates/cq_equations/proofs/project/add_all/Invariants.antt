use Rattle.std.proofs.Common.{◌≡◌, ◌++◌, take}
use Rattle.cq_equations.specs.Told.{numbers_of}
use Rattle.cq_equations.specs.Contents.{told_of, order_of}
use Rattle.cq_equations.proofs.project.add_all.Given as goal

abbrev pub invariant-variables : goal.invariant-variables
invariant-variables l = (order_of l.store ≡ order_of l.fn.store ++ numbers_of (take l.x-index l.variables)) × (told_of l.store ≡ told_of l.fn.store)
