use Rattle.std.proofs.Common.{◌≡◌, ◌≤◌, ◌++◌, ℕ, List, length, take}
use Rattle.spec_terms.specs.VariableName.{VariableName}
use Rattle.cq_term.specs.Places.{numbers_of}
use Rattle.cq_answer.specs.Numbered.{AreCounted}
use Rattle.cq_answer.proofs.naming.name_all.Given as goal

abbrev pub invariant-variables : goal.invariant-variables
invariant-variables l = record {
  longer : l.from ≤ length l.names.items;
  named : (first : List VariableName) (us : List ℕ) → AreCounted first us l.from l.fn.names.items → AreCounted first (us ++ numbers_of (take l.variable-index l.variables)) l.from l.names.items;
}
