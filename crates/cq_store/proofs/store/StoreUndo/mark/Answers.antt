use Rattle.cq_store.proofs.Holding.{held_marked}
use Rattle.cq_store.proofs.store.StoreUndo.mark.Goals as goal

pub invariant_of-self-2 : goal.invariant_of-self-2
invariant_of-self-2 c = held_marked _ _ _ c.self.invariant _ c.mark.ensures.now _ c.in_ok-m.ensures.saved
