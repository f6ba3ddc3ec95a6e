use Rattle.std.proofs.Common.{◌≡◌, take}
use Rattle.cq_settle.specs.Settled.{KeepsMarks}
use Rattle.cq_settle.proofs.Waking.{left_of, given_of}
use Rattle.cq_settle.proofs.closing.wake.Given as goal

abbrev pub invariant-loop-number : goal.invariant-loop-number
invariant-loop-number l = record {
  goals : l.goals.items ≡ given_of l.fn.world.heap.now.images l.fn.world.attrs.now.waiting (take l.number-index l.number-items);
  waiting : l.world.attrs.now.waiting ≡ left_of l.fn.world.heap.now.images l.fn.world.attrs.now.waiting (take l.number-index l.number-items);
  numeric : l.world.attrs.now.numeric ≡ l.fn.world.attrs.now.numeric;
  next : l.world.attrs.now.next ≡ l.fn.world.attrs.now.next;
  heap : l.world.heap.now ≡ l.fn.world.heap.now;
  store : l.world.store.told ≡ l.fn.world.store.told;
  marks : KeepsMarks l.fn.world l.world;
}
