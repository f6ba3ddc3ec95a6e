use Rattle.std.proofs.Common.{◌≡◌, ◌≤◌, take}
use Rattle.cq_term.specs.Trees.{trees}
use Rattle.cq_questions.specs.Values.{AtValues}
use Rattle.cq_questions.proofs.Listed.{AreFound}
use Rattle.cq_questions.proofs.members.members_now.Given as goal

abbrev pub invariant-loop-member : goal.invariant-loop-member
invariant-loop-member l = record {
  found : AtValues l.store.told (λ fixed. AreFound fixed (trees l.atoms l.fn.heap.now.terms (take l.member-index l.members)) l.found.items);
  heap : l.heap.now ≡ l.fn.heap.now;
  saved : l.heap.saved ≡ l.fn.heap.saved;
  room : l.fn.heap.room ≤ l.heap.room;
}
