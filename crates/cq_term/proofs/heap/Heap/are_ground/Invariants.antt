use Rattle.std.proofs.Common.{take}
use Rattle.std.specs.Prelude.{All}
use Rattle.cq_term.specs.Meaning.{at}
use Rattle.cq_term.specs.Ground.{IsGround}
use Rattle.cq_term.proofs.heap.Heap.are_ground.Given as goal

abbrev pub invariant-loop-id : goal.invariant-loop-id
invariant-loop-id l = All (λ i. IsGround (at l.self.now.terms i)) (take l.id-index l.ids)
