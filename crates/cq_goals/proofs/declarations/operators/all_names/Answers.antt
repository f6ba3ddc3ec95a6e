use Rattle.std.proofs.Common.{◌∙◌, sym, arith}
use Rattle.spec_builtins.specs.Kinds.{is_name}
use Rattle.cq_goals.proofs.Declaring.{all_pass, all_fail, all_end}
use Rattle.cq_goals.proofs.declarations.operators.all_names.Goals as goal

pub loop-id-preserved : goal.loop-id-preserved
loop-id-preserved c = λ texts.
    c.loop-id.invariant texts
    ∙ all_pass texts c.args.heap.now.now.terms is_name c.args.ids.now c.loop-id.id-index c.id-item.result (omega (arith, c.loop-id-test.true)) c.id-item.is (sym (c.is_name.ensures texts) ∙ c.if-not-is_name.false)

pub returns-then-not-is_name : goal.returns-then-not-is_name
returns-then-not-is_name c = λ texts.
    sym (c.loop-id.invariant texts
    ∙ all_fail texts c.args.heap.now.now.terms is_name c.args.ids.now c.loop-id.id-index c.id-item.result (omega (arith, c.loop-id-test.true)) c.id-item.is (sym (c.is_name.ensures texts) ∙ c.if-not-is_name.true))

pub returns : goal.returns
returns c = λ texts.
    sym (c.loop-id.invariant texts ∙ all_end texts c.args.heap.now.now.terms is_name c.args.ids.now c.loop-id.id-index (omega (arith, c.loop-id-test.false)))
