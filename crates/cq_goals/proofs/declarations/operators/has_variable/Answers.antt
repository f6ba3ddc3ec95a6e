use Rattle.std.proofs.Common.{◌∙◌, sym, arith}
use Rattle.spec_builtins.specs.Kinds.{is_variable}
use Rattle.cq_goals.proofs.Declaring.{any_passes, any_here, any_end}
use Rattle.cq_goals.proofs.declarations.operators.has_variable.Goals as goal

pub loop-id-preserved : goal.loop-id-preserved
loop-id-preserved c = λ texts.
    c.loop-id.invariant texts
    ∙ any_passes texts c.args.heap.now.now.terms is_variable c.args.ids.now c.loop-id.id-index c.id-item.result (omega (arith, c.loop-id-test.true)) c.id-item.is (sym (c.is_variable.ensures texts) ∙ c.if-is_variable.false)

pub returns-then-is_variable : goal.returns-then-is_variable
returns-then-is_variable c = λ texts.
    sym (c.loop-id.invariant texts
    ∙ any_here texts c.args.heap.now.now.terms is_variable c.args.ids.now c.loop-id.id-index c.id-item.result (omega (arith, c.loop-id-test.true)) c.id-item.is (sym (c.is_variable.ensures texts) ∙ c.if-is_variable.true))

pub returns : goal.returns
returns c = λ texts.
    sym (c.loop-id.invariant texts ∙ any_end texts c.args.heap.now.now.terms is_variable c.args.ids.now c.loop-id.id-index (omega (arith, c.loop-id-test.false)))
