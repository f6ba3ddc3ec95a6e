use Rattle.std.proofs.Common.{◌≡◌, ◌≤◌, ℕ, take}
use Rattle.cq_term.specs.Names.{KeepsNames}
use Rattle.cq_settle.specs.Equal.{AllEqual}
use Rattle.cq_settle.proofs.rest.equating.equate.Given as goal

abbrev pub invariant-loop-pair : goal.invariant-loop-pair
invariant-loop-pair l = record {
  equal : AllEqual l.fn.heap.now l.heap.now (take l.pair-index l.pairs) l.newly;
  names : (n : ℕ) → KeepsNames n l.fn.heap.now l.heap.now;
  saved : l.heap.saved ≡ l.fn.heap.saved;
  room : l.fn.heap.room ≤ l.heap.room;
}
