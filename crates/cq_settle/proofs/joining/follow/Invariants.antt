use Rattle.std.proofs.Common.{◌≡◌, take}
use Rattle.cq_term.specs.Places.{numbers_of}
use Rattle.cq_settle.specs.Settled.{KeepsMarks}
use Rattle.cq_settle.specs.Steps.{Follows}
use Rattle.cq_settle.proofs.joining.follow.Given as goal

abbrev pub invariant-loop-variable : goal.invariant-loop-variable
invariant-loop-variable l = record {
  follows : Follows l.fn.world.heap.now.images (numbers_of (take l.variable-index l.newly)) l.fn.world.attrs.now l.world.attrs.now;
  heap : l.world.heap.now ≡ l.fn.world.heap.now;
  told : l.world.store.told ≡ l.fn.world.store.told;
  marks : KeepsMarks l.fn.world l.world;
}
