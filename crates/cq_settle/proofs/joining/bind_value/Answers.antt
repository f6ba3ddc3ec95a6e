use Rattle.std.proofs.Common.{◌∙◌, ap, sym, Some}
use Rattle.std.proofs.lemmas.Bool.{true≢false}
use Rattle.std.proofs.lemmas.Result.{on_ok_weaker}
use Rattle.spec_numbers.specs.Rational.{ℚ}
use Rattle.spec_linear.specs.Solution.{Fixed}
use Rattle.spec_linear.proofs.Lists.{fixed_once}
use Rattle.cq_settle.proofs.Binding.{none, only, binds_nothing, one_binds, only_itself, numeric_within, none_fixed}
use Rattle.cq_settle.proofs.joining.bind_value.Goals as goal

pub returns-then-not-is_numeric-clause-bound : goal.returns-then-not-is_numeric-clause-bound
returns-then-not-is_numeric-clause-bound c = (
  none,
  binds_nothing c.args.world.now.attrs.now c.args.world.now.store.told c.args.world.now.heap.now c.args.newly.now,
  λ q n u f. absurd (true≢false (sym n ∙ sym c.if-not-is_numeric.ensures)),
)

pub returns-in_default-clause-bound : goal.returns-in_default-clause-bound
returns-in_default-clause-bound c = (
  none,
  binds_nothing c.args.world.now.attrs.now c.args.world.now.store.told c.args.world.now.heap.now c.args.newly.now,
  λ q n u f. none_fixed c.value.result (Fixed c.args.world.now.store.told c.args.variable.0) c.value.ensures c.in_default.not-Some q f,
)

pub is_unbound-requires : goal.is_unbound-requires
is_unbound-requires c = numeric_within c.args.world.now.attrs.now _ c.args.variable.0 c.requires (sym c.if-not-is_numeric.ensures)

pub returns-then-not-is_unbound-clause-bound : goal.returns-then-not-is_unbound-clause-bound
returns-then-not-is_unbound-clause-bound c = (
  none,
  binds_nothing c.args.world.now.attrs.now c.args.world.now.store.told c.args.world.now.heap.now c.args.newly.now,
  λ q n u f. absurd (c.if-not-is_unbound.ensures u),
)

pub returns-clause-bound : goal.returns-clause-bound
returns-clause-bound c = on_ok_weaker c.push.result (λ told. (
  only c.args.variable.0 c.in-Some.value,
  one_binds c.args.world.now.attrs.now c.args.world.now.store.told c.args.world.now.heap.now c.number.new.self.now c.bind.new.self.now c.args.variable c.in-Some.value
      c.args.newly.now c.push.new.self c.in_ok-number.number (sym c.if-not-is_numeric.ensures) c.if-not-is_unbound.ensures c.in-Some.ensures c.in_ok-number.ensures.id
      c.in_ok-number.ensures.terms c.in_ok-number.ensures.images c.in_ok-bind.ensures.terms c.in_ok-bind.ensures.images told,
  λ q n u f.
      only_itself c.args.variable.0 c.in-Some.value
      ∙ ap (λ (x : ℚ). Some x) (fixed_once c.args.world.now.store.told c.args.variable.0 c.in-Some.value q c.in-Some.ensures f),
)) c.push.ensures.ok
