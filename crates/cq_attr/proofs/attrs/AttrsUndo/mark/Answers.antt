use Rattle.cq_attr.proofs.Parts.{parts_marked}
use Rattle.cq_attr.proofs.attrs.AttrsUndo.mark.Goals as goal

pub invariant_of-self-2 : goal.invariant_of-self-2
invariant_of-self-2 c = parts_marked _ _ c.self.invariant _ c.mark.ensures.now _ c.in_ok-m.ensures.saved
