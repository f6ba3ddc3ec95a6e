use Rattle.std.proofs.Common.{◌<◌, ◌≤◌, ◌∙◌, ap, length, take, arith}
use Rattle.std.proofs.lemmas.List.{take_all}
use Rattle.cq_attr.specs.Attributes.{Attributes}
use Rattle.cq_frac.specs.declared.VarId.{VarId}
use Rattle.cq_settle.proofs.Joined.{told_ahead}
use Rattle.cq_settle.proofs.Marked.{each_numeric, each_told}
use Rattle.cq_settle.proofs.joining.make_each_numeric.Goals as goal

pub loop-variable-preserved : goal.loop-variable-preserved
loop-variable-preserved c =
    let d : VarId = record { 0 = 0 } in
    let i = c.loop-variable.variable-index in
    let vs = c.args.variables.now in
    let at : i < length vs = omega (arith, c.loop-variable-test.true) in
    record {
      numeric = each_numeric vs i d at c.args.attrs.now.now c.loop-variable.attrs.now c.set_numeric.new.self.now c.loop-variable.invariant.numeric c.in_ok-set_numeric.ensures.ok;
      told = each_told vs i d at c.loop-variable.fixed.items c.args.fixed.now.items c.push.new.self.items c.loop-variable.invariant.told c.in_ok-push.ensures.items;
      waiting = ap (λ (a : Attributes). a.waiting) c.in_ok-set_numeric.ensures.ok ∙ c.loop-variable.invariant.waiting;
      saved = c.set_numeric.ensures.saved ∙ c.loop-variable.invariant.saved;
      room = omega arith;
    }

pub returns-clause-numeric : goal.returns-clause-numeric
returns-clause-numeric c =
    let all : length c.args.variables.now ≤ c.loop-variable.variable-index = omega (arith, c.loop-variable-test.false) in
    rw (take_all c.loop-variable.variable-index c.args.variables.now all) at c.loop-variable.invariant.numeric

pub returns-clause-told : goal.returns-clause-told
returns-clause-told c =
    let all : length c.args.variables.now ≤ c.loop-variable.variable-index = omega (arith, c.loop-variable-test.false) in
    rw (take_all c.loop-variable.variable-index c.args.variables.now all) at c.loop-variable.invariant.told

pub returns-in_err-set_numeric-clause-still : goal.returns-in_err-set_numeric-clause-still
returns-in_err-set_numeric-clause-still c =
    told_ahead c.args.fixed.now.items (take c.loop-variable.variable-index c.args.variables.now) c.loop-variable.fixed.items c.loop-variable.invariant.told

pub returns-in_err-push-clause-still : goal.returns-in_err-push-clause-still
returns-in_err-push-clause-still c =
    told_ahead c.args.fixed.now.items (take c.loop-variable.variable-index c.args.variables.now) c.push.new.self.items (c.in_err-push.ensures.items ∙ c.loop-variable.invariant.told)

pub returns-clause-still : goal.returns-clause-still
returns-clause-still c =
    told_ahead c.args.fixed.now.items (take c.loop-variable.variable-index c.args.variables.now) c.loop-variable.fixed.items c.loop-variable.invariant.told
