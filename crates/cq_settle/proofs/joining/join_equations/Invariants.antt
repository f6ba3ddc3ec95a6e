use Rattle.std.proofs.Common.{◌≡◌, ℕ, ◌||◌, take, true}
use Rattle.std.specs.Prelude.{Contains}
use Rattle.spec_terms.specs.Term.{Var}
use Rattle.cq_attr.specs.Attributes.{is_numeric}
use Rattle.cq_term.specs.Meaning.{at}
use Rattle.cq_term.specs.Places.{numbers_of}
use Rattle.cq_settle.specs.Worlds.{now_of}
use Rattle.cq_settle.specs.Settled.{KeepsMarks}
use Rattle.cq_settle.specs.Steps.{HaveJoined, equations_of, numeric_ones, is_image_of}
use Rattle.cq_settle.proofs.joining.join_equations.Given as goal

abbrev pub invariant-loop-variable : goal.invariant-loop-variable
invariant-loop-variable l = record {
  joined : HaveJoined l.fn.world.store.told (equations_of (now_of l.fn.world) (take l.variable-index l.newly)) l.world.store.told l.fn.fixed.items l.fixed.items;
  numeric : (v : ℕ) → is_numeric l.world.attrs.now v ≡ (is_numeric l.fn.world.attrs.now v
      || is_image_of l.fn.world.heap.now.images (numeric_ones l.fn.world.attrs.now (take l.variable-index l.newly)) v);
  images : (v : ℕ) → is_image_of l.fn.world.heap.now.images (numeric_ones l.fn.world.attrs.now (take l.variable-index l.newly)) v ≡ true
      → Contains (numbers_of l.fixed.items) v;
  unbound : (v : ℕ) → is_image_of l.fn.world.heap.now.images (numeric_ones l.fn.world.attrs.now (take l.variable-index l.newly)) v ≡ true
      → at l.fn.world.heap.now.images v ≡ Var v;
  waiting : l.world.attrs.now.waiting ≡ l.fn.world.attrs.now.waiting;
  heap : l.world.heap.now ≡ l.fn.world.heap.now;
  marks : KeepsMarks l.fn.world l.world;
}
