use Rattle.std.proofs.Common.{◌≡◌, map, take}
use Rattle.cq_form.specs.Entries.{entry_of}
use Rattle.cq_project.proofs.echelon.putting.entries_of.Given as goal

abbrev pub invariant-products : goal.invariant-products
invariant-products l = l.entries.items ≡ map entry_of (take l.product-index l.equation.products.items)
