use Rattle.std.proofs.Common.{◌↔◌, ℕ, take}
use Rattle.spec_linear.specs.Solution.{Has, SomeMentions}
use Rattle.cq_project.proofs.keep.variables.mentioned.Given as goal

abbrev pub invariant-rows : goal.invariant-rows
invariant-rows l = (x : ℕ) → Has x l.numbers.items ↔ SomeMentions x (take l.row-index l.rows)
