use Rattle.std.proofs.Common.{ap}
use Rattle.std.specs.List.{zip}
use Rattle.cq_trail.specs.Counting.{counted}
use Rattle.cq_dict.specs.DictValue.{quantities_of}
use Rattle.cq_store.proofs.Holding.{empty_held}
use Rattle.cq_store.proofs.store.Store.new.Goals as goal

pub invariant_of-result-2 : goal.invariant_of-result-2
invariant_of-result-2 c =
    empty_held _ (λ i. (c.new-3.ensures.now i, (c.new.ensures.now i, record { roles = c.new-2.ensures.roles i; restricted = c.new-2.ensures.flags i }))) _
    _ (ap (λ s. counted (zip s (zip c.new.result.saved c.new-2.result.saved)) 0 (c.new-3.result.now, (c.new.result.now, quantities_of c.new-2.result))) c.new-3.ensures.saved)
