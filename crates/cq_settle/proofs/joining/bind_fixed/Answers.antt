use Rattle.std.proofs.Common.{◌<◌, ◌≤◌, ◌∙◌, refl, subst, sym, length, take, get_or, arith}
use Rattle.std.proofs.lemmas.List.{take_all, take_more}
use Rattle.cq_frac.specs.declared.VarId.{VarId}
use Rattle.cq_settle.proofs.Binding.{AllBound, none_bound, one_more_bound}
use Rattle.cq_settle.proofs.Marks.{marks_same, marks_then}
use Rattle.cq_settle.proofs.joining.bind_fixed.Goals as goal

pub loop-variable-init : goal.loop-variable-init
loop-variable-init c = record {
  bound = none_bound c.args.world.now.attrs.now c.args.world.now.store.told c.args.world.now.heap.now c.args.newly.now;
  attrs = refl;
  store = refl;
  marks = marks_same c.args.world.now;
}

pub loop-variable-preserved : goal.loop-variable-preserved
loop-variable-preserved c =
    let d : VarId = record { 0 = 0 } in
    let i = c.loop-variable.variable-index in
    let old = c.args.world.now in
    let vs = c.args.fixed.now in
    let l = c.loop-variable in
    let at : i < length vs = omega (arith, c.loop-variable-test.true) in
    record {
      bound = subst (AllBound old.attrs.now old.store.told old.heap.now c.bind_value.new.world.heap.now c.args.newly.now c.bind_value.new.newly) (sym (take_more vs i d at))
          (one_more_bound old.attrs.now l.world.attrs.now old.store.told l.world.store.told old.heap.now l.world.heap.now c.bind_value.new.world.heap.now
          c.args.newly.now l.newly c.bind_value.new.newly (take i vs) (get_or vs i d) c.requires l.invariant.attrs l.invariant.store l.invariant.bound c.in_ok-bind_value.ensures.bound);
      attrs = c.bind_value.ensures.attrs ∙ l.invariant.attrs;
      store = c.bind_value.ensures.store ∙ l.invariant.store;
      marks = marks_then old l.world c.bind_value.new.world l.invariant.marks c.bind_value.ensures.marks;
    }

pub returns-clause-bound : goal.returns-clause-bound
returns-clause-bound c =
    let old = c.args.world.now in
    let all : length c.args.fixed.now ≤ c.loop-variable.variable-index = omega (arith, c.loop-variable-test.false) in
    subst (AllBound old.attrs.now old.store.told old.heap.now c.loop-variable.world.heap.now c.args.newly.now c.loop-variable.newly)
    (take_all c.loop-variable.variable-index c.args.fixed.now all) c.loop-variable.invariant.bound
