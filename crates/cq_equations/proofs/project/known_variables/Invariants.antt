use Rattle.std.proofs.Common.{◌≡◌, ℕ, take}
use Rattle.spec_numbers.specs.Sums.{Mentions}
use Rattle.spec_linear.specs.Solution.{Has}
use Rattle.cq_equations.specs.Told.{numbers_of}
use Rattle.cq_equations.specs.Rows.{Knows}
use Rattle.cq_form.specs.Entries.{products_of}
use Rattle.cq_equations.proofs.project.known_variables.Given as goal

abbrev pub invariant-wanted : goal.invariant-wanted
invariant-wanted l = l.known.keys ≡ take l.x-index l.keep

abbrev pub invariant-members : goal.invariant-members
invariant-members l = Knows l.keep (take l.c-index l.told) l.known.keys

abbrev pub invariant-entries : goal.invariant-entries
invariant-entries l = Knows l.keep (take l.c-index l.told) l.known.keys × ((y : ℕ) → Mentions y (products_of (take l.entry-index l.entry-items)) → Has y (numbers_of l.known.keys))
