use Rattle.std.proofs.Common.{◌<◌, ◌≤◌, ◌∙◌, List, refl, sym, subst, length, arith}
use Rattle.std.specs.Prelude.{Contains}
use Rattle.std.proofs.lemmas.List.{take_all}
use Rattle.cq_frac.specs.declared.VarId.{VarId}
use Rattle.cq_term.specs.Places.{numbers_of}
use Rattle.cq_questions.proofs.Binding.{valued_nothing, valued_then, free_more}
use Rattle.cq_questions.proofs.values.bind_each.Goals as goal

pub loop-variable-init : goal.loop-variable-init
loop-variable-init c = record {
  valued = valued_nothing c.args.store.now.told c.args.heap.now.now c.args.term c.requires.live;
  free = λ v h. absurd (omega (arith, h.1));
  names = λ n h. h;
  saved = refl;
  room = omega arith;
}

pub bind_value-requires-clause-there : goal.bind_value-requires-clause-there
bind_value-requires-clause-there c =
    let d : VarId = record { 0 = 0 } in
    let within : c.loop-variable.variable-index < length c.args.variables.now = omega (arith, c.loop-variable-test.true) in
    let h = c.requires.there c.loop-variable.variable-index d within in
    omega (arith, h, c.loop-variable.invariant.valued.images)

pub loop-variable-preserved : goal.loop-variable-preserved
loop-variable-preserved c =
    let d : VarId = record { 0 = 0 } in
    let l = c.loop-variable in
    let vs = c.args.variables.now in
    let within : l.variable-index < length vs = omega (arith, c.loop-variable-test.true) in
    record {
      valued = valued_then c.args.store.now.told c.args.heap.now.now l.heap.now c.bind_value.new.heap.now c.args.term l.invariant.valued c.in_ok-bind_value.ensures.valued;
      free = free_more c.args.store.now.told l.heap.now c.bind_value.new.heap.now c.args.term vs l.variable-index d within l.invariant.free
          c.in_ok-bind_value.ensures.valued c.in_ok-bind_value.ensures.free;
      names = λ n h. c.in_ok-bind_value.ensures.names n (l.invariant.names n h);
      saved = c.bind_value.ensures.saved ∙ l.invariant.saved;
      room = omega (arith, c.bind_value.ensures.room, l.invariant.room);
    }

pub returns-clause-free : goal.returns-clause-free
returns-clause-free c = λ v h.
    let all : length c.args.variables.now ≤ c.loop-variable.variable-index = omega (arith, c.loop-variable-test.false) in
    c.loop-variable.invariant.free v (subst (λ (vs : List VarId). Contains (numbers_of vs) v) (sym (take_all c.loop-variable.variable-index c.args.variables.now all)) h)
