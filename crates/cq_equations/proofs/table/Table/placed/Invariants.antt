-- The products so far, over the quantities.
use Rattle.std.proofs.Common.{◌≡◌, take}
use Rattle.cq_form.specs.Entries.{products_of}
use Rattle.cq_equations.specs.Describes.{placed}
use Rattle.cq_equations.specs.Contents.{place_of}
use Rattle.cq_equations.proofs.table.Table.placed.Given as goal

abbrev pub invariant-loop-entry : goal.invariant-loop-entry
invariant-loop-entry l = l.entries.items ≡ placed (place_of l.self.now.names) (products_of (take l.entry-index l.entry-items))
