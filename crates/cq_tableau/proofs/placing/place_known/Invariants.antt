-- The products so far, over the quantities.
use Rattle.std.proofs.Common.{take}
use Rattle.cq_form.specs.Entries.{products_of}
use Rattle.cq_tableau.specs.Stored.{IsPlaced}
use Rattle.cq_tableau.proofs.placing.place_known.Given as goal

abbrev pub invariant-loop-entry : goal.invariant-loop-entry
invariant-loop-entry l = IsPlaced l.fn.names.now (products_of (take l.entry-index l.entry-items)) l.entries.items
