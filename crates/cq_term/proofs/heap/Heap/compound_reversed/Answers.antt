use Rattle.std.proofs.Common.{◌<◌, length}
use Rattle.cq_term.specs.Meaning.{at}
use Rattle.cq_term.specs.Ground.{IsGround}
use Rattle.cq_term.proofs.Reversed.{all_reversed}
use Rattle.cq_term.proofs.heap.Heap.compound_reversed.Goals as goal

pub long-requires-clause-live : goal.long-requires-clause-live
long-requires-clause-live c = rw (c.deref.ensures.value, c.push_reversed.ensures, c.in_ok-reserve-in-Err.ensures.items, c.new-list.ensures.items)
    (all_reversed (λ i. i < length c.args.self.now.now.terms) c.args.args.now c.requires.live)

pub long-requires-clause-ground : goal.long-requires-clause-ground
long-requires-clause-ground c = λ t. rw (c.deref.ensures.value, c.push_reversed.ensures, c.in_ok-reserve-in-Err.ensures.items, c.new-list.ensures.items)
    (all_reversed (λ i. IsGround (at c.args.self.now.now.terms i)) c.args.args.now (c.are_ground-ground.ensures t))
