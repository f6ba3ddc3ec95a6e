use Rattle.std.proofs.Common.{◌≡◌, ◌≤◌, ℕ, take}
use Rattle.std.specs.Prelude.{Contains}
use Rattle.cq_term.specs.Meaning.{at}
use Rattle.cq_term.specs.Names.{HasNamesBelow}
use Rattle.cq_term.specs.Places.{numbers_of}
use Rattle.cq_questions.specs.Values.{IsValued, IsFree}
use Rattle.cq_questions.proofs.values.bind_each.Given as goal

abbrev pub invariant-loop-variable : goal.invariant-loop-variable
invariant-loop-variable l = record {
  valued : IsValued l.store.told l.fn.heap.now l.heap.now l.term;
  free : (v : ℕ) → Contains (numbers_of (take l.variable-index l.variables)) v → IsFree l.store.told l.heap.now l.term v;
  names : (n : ℕ) → HasNamesBelow n (at l.fn.heap.now.terms l.term) → HasNamesBelow n (at l.heap.now.terms l.term);
  saved : l.heap.saved ≡ l.fn.heap.saved;
  room : l.fn.heap.room ≤ l.heap.room;
}
