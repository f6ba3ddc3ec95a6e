use Rattle.std.proofs.Common.{ap}
use Rattle.std.specs.List.{zip}
use Rattle.cq_trail.specs.Counting.{counted}
use Rattle.cq_attr.proofs.Parts.{empty_parts}
use Rattle.cq_attr.proofs.attrs.Attrs.new.Goals as goal

pub invariant_of-result-2 : goal.invariant_of-result-2
invariant_of-result-2 c =
    empty_parts _ (λ i. (c.new-3.ensures.now i, (c.new.ensures.now i, c.new-2.ensures.now i))) _
    (ap (λ s. counted (zip s (zip c.new.result.saved c.new-2.result.saved)) 0 (c.new-3.result.now, (c.new.result.now, c.new-2.result.now))) c.new-3.ensures.saved)
