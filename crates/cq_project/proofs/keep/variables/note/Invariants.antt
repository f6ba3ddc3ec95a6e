use Rattle.std.proofs.Common.{◌≡◌, ◌++◌, take}
use Rattle.spec_linear.specs.Form.{variables}
use Rattle.cq_form.specs.Entries.{products_of}
use Rattle.cq_project.proofs.keep.variables.note.Given as goal

abbrev pub invariant-entries : goal.invariant-entries
invariant-entries l = l.numbers.items ≡ l.initial.numbers.items ++ variables (products_of (take l.entry-index l.entry-items))
