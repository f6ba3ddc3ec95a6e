use Rattle.std.proofs.Common.{◌≡◌, ℕ, take, true, Option, Some}
use Rattle.std.specs.Prelude.{Contains}
use Rattle.spec_numbers.specs.Rational.{ℚ}
use Rattle.spec_linear.specs.Solution.{Fixed}
use Rattle.spec_terms.specs.Term.{Var}
use Rattle.cq_attr.specs.Attributes.{is_numeric}
use Rattle.cq_term.specs.Meaning.{at}
use Rattle.cq_term.specs.Places.{numbers_of}
use Rattle.cq_settle.specs.Settled.{KeepsMarks}
use Rattle.cq_settle.specs.Steps.{BindsValues}
use Rattle.cq_settle.proofs.joining.bind_fixed.Given as goal

abbrev pub invariant-loop-variable : goal.invariant-loop-variable
invariant-loop-variable l = record {
  bound : (values : ℕ → Option ℚ)
      × BindsValues l.fn.world.attrs.now l.fn.world.store.told l.fn.world.heap.now l.world.heap.now l.fn.newly l.newly values
      × ((v : ℕ) (q : ℚ) → Contains (numbers_of (take l.variable-index l.fixed)) v → is_numeric l.fn.world.attrs.now v ≡ true
      → at l.fn.world.heap.now.images v ≡ Var v → Fixed l.fn.world.store.told v q → values v ≡ Some q);
  attrs : l.world.attrs.now ≡ l.fn.world.attrs.now;
  store : l.world.store.told ≡ l.fn.world.store.told;
  marks : KeepsMarks l.fn.world l.world;
}
