use Rattle.std.proofs.Common.{◌∙◌, sym, arith}
use Rattle.spec_builtins.specs.Clauses.{is_unbound_indicator}
use Rattle.cq_goals.proofs.Declaring.{any_passes, any_here, any_end}
use Rattle.cq_goals.proofs.declarations.declarations.has_unbound.Goals as goal

pub loop-id-preserved : goal.loop-id-preserved
loop-id-preserved c =
    c.loop-id.invariant
    ∙ any_passes c.args.atoms.now c.args.heap.now.now.terms is_unbound_indicator c.args.ids.now c.loop-id.id-index c.id-item.result (omega (arith, c.loop-id-test.true)) c.id-item.is (sym c.is_unbound.ensures ∙ c.if-is_unbound.false)

pub returns-then-is_unbound : goal.returns-then-is_unbound
returns-then-is_unbound c =
    sym (c.loop-id.invariant
    ∙ any_here c.args.atoms.now c.args.heap.now.now.terms is_unbound_indicator c.args.ids.now c.loop-id.id-index c.id-item.result (omega (arith, c.loop-id-test.true)) c.id-item.is (sym c.is_unbound.ensures ∙ c.if-is_unbound.true))

pub returns : goal.returns
returns c =
    sym (c.loop-id.invariant ∙ any_end c.args.atoms.now c.args.heap.now.now.terms is_unbound_indicator c.args.ids.now c.loop-id.id-index (omega (arith, c.loop-id-test.false)))
