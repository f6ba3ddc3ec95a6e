use Rattle.std.proofs.Common.{◌≡◌, ◌≤◌, take}
use Rattle.std.specs.Prelude.{All}
use Rattle.spec_search.specs.Steps.{IsEntailed}
use Rattle.cq_questions.specs.Members.{lin_of}
use Rattle.cq_questions.proofs.entailment.all_entailed.Given as goal

abbrev pub invariant-loop-member : goal.invariant-loop-member
invariant-loop-member l = record {
  all : All (λ m. IsEntailed l.fn.store.told (lin_of m)) (take l.member-index l.members);
  told : l.store.told ≡ l.fn.store.told;
  saved : l.store.saved ≡ l.fn.store.saved;
  room : l.fn.store.room ≤ l.store.room;
  pivots : l.store.pivots ≡ l.fn.store.pivots;
}
