use Rattle.std.proofs.Common.{◌≡◌, ℕ, take}
use Rattle.spec_linear.specs.Solution.{Has, MentionsOnly}
use Rattle.cq_equations.specs.Contents.{told_of, order_of}
use Rattle.cq_equations.proofs.project.tell_all.Given as goal

abbrev pub invariant-members : goal.invariant-members
invariant-members l = (told_of l.store ≡ take l.c-index l.told) × (MentionsOnly (order_of l.fn.store) l.told → order_of l.store ≡ order_of l.fn.store)
    × ((x : ℕ) → Has x (order_of l.fn.store) → Has x (order_of l.store))
