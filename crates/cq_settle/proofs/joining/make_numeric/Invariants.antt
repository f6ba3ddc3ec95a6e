use Rattle.std.proofs.Common.{◌≡◌, ℕ, ◌||◌, take}
use Rattle.std.specs.Prelude.{Contains, All, ◌==◌}
use Rattle.std.specs.List.{list_any}
use Rattle.spec_terms.specs.Variables.{variables}
use Rattle.cq_attr.specs.Attributes.{is_numeric}
use Rattle.cq_term.specs.Meaning.{at}
use Rattle.cq_term.specs.Shown.{IsUnbound}
use Rattle.cq_term.specs.Places.{numbers_of}
use Rattle.cq_settle.specs.Settled.{KeepsMarks}
use Rattle.cq_settle.proofs.joining.make_numeric.Given as goal

abbrev pub invariant-loop-term : goal.invariant-loop-term
invariant-loop-term l = record {
  numeric : (v : ℕ) → is_numeric l.world.attrs.now v ≡ (is_numeric l.fn.world.attrs.now v
      || list_any (λ id. list_any (λ w. w == v) (variables (at l.fn.world.heap.now.terms id))) (take l.term-index l.told));
  unbound : All (λ id. All (IsUnbound l.fn.world.heap.now.images) (variables (at l.fn.world.heap.now.terms id))) (take l.term-index l.told);
  told : All (λ id. All (Contains (numbers_of l.fixed.items)) (variables (at l.fn.world.heap.now.terms id))) (take l.term-index l.told);
  still : (v : ℕ) → Contains (numbers_of l.fn.fixed.items) v → Contains (numbers_of l.fixed.items) v;
  waiting : l.world.attrs.now.waiting ≡ l.fn.world.attrs.now.waiting;
  heap : l.world.heap.now ≡ l.fn.world.heap.now;
  store : l.world.store.told ≡ l.fn.world.store.told;
  marks : KeepsMarks l.fn.world l.world;
}
