-- The new ones among the variables so far have become known.
use Rattle.std.proofs.Common.{◌≡◌, take}
use Rattle.cq_form.specs.Entries.{products_of}
use Rattle.cq_equations.specs.Contents.{variables_of}
use Rattle.cq_equations.specs.Told.{new_variables}
use Rattle.cq_equations.specs.Entering.{AddsVariables}
use Rattle.cq_equations.proofs.entering.add_variables.Given as goal

abbrev pub invariant-loop-entry : goal.invariant-loop-entry
invariant-loop-entry l = record {
  added : AddsVariables l.fn.table.now (new_variables (variables_of l.fn.table.now.names) (record { products = products_of (take l.entry-index l.entry-items); constant = l.form.constant })) l.table.now;
  saved : l.table.saved ≡ l.fn.table.saved;
}
