use Rattle.std.proofs.Common.{◌≡◌, take}
use Rattle.spec_linear.specs.Form.{without_zeros}
use Rattle.cq_form.specs.Entries.{products_of}
use Rattle.cq_cexpr.proofs.slots.filled.Given as goal

abbrev pub invariant-loop-slot : goal.invariant-loop-slot
invariant-loop-slot l = products_of l.entries.items ≡ without_zeros (products_of (take l.slot-index l.slots))
