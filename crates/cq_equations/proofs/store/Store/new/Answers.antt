-- The empty table speaks of the empty list.
use Rattle.cq_equations.proofs.Variables.{empty_is_stored}
use Rattle.cq_equations.proofs.store.Store.new.Goals as goal

pub invariant_of-result : goal.invariant_of-result
invariant_of-result c = rw (c.new.ensures.items, c.new-2.ensures.now) empty_is_stored
