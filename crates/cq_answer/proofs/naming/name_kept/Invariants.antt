use Rattle.std.proofs.Common.{◌≡◌, ◌≤◌, ◌++◌, ℕ, List, length, take}
use Rattle.std.specs.Prelude.{filter}
use Rattle.spec_answers.specs.Rows.{row_variables}
use Rattle.spec_terms.specs.VariableName.{VariableName}
use Rattle.cq_term.specs.Places.{numbers_of}
use Rattle.cq_project.specs.Projecting.{rows_of}
use Rattle.cq_answer.specs.Numbered.{AreCounted, has_variable}
use Rattle.cq_answer.proofs.naming.name_kept.Given as goal

abbrev pub invariant-kept : goal.invariant-kept
invariant-kept l = record {
  longer : l.from ≤ length l.names.items;
  named : (first : List VariableName) (us : List ℕ) → AreCounted first us l.from l.fn.names.items →
      AreCounted first (us ++ filter (has_variable (row_variables (rows_of l.rows))) (numbers_of (take l.variable-index l.rows.kept.items))) l.from l.names.items;
}
