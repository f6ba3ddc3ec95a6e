use Rattle.std.proofs.Common.{get_or, ◌∙◌, sym, ap, arith}
use Rattle.spec_builtins.specs.Operators.{named_set}
use Rattle.cq_term.specs.Trees.{tree}
use Rattle.cq_ops.specs.Tables.{named}
use Rattle.cq_goals.specs.Operators.{is_cause}
use Rattle.cq_goals.proofs.Declaring.{is_name_here, first_passes, first_here, first_end}
use Rattle.cq_goals.proofs.declarations.operators.refused_name.Goals as goal

pub is_refused-requires-clause-name : goal.is_refused-requires-clause-name
is_refused-requires-clause-name c =
    is_name_here c.args.atoms.now c.args.heap.now.now.terms c.args.asked.now.names.items c.loop-id.id-index c.id-item.result (omega (arith, c.loop-id-test.true)) (c.id-item.is ∙ ap (λ xs. get_or xs c.loop-id.id-index c.id-item.result) c.deref-id-items.ensures.value) c.requires.asked.named

pub loop-id-preserved : goal.loop-id-preserved
loop-id-preserved c = λ e.
    let t = tree c.args.atoms.now c.args.heap.now.now.terms in
    let g = c.args.asked.now.goal in
    c.loop-id.invariant e
    ∙ first_passes c.args.atoms.now c.args.heap.now.now.terms (λ n. is_cause c.args.cause (named_set (named c.args.atoms.now c.args.ops.now) (t g.priority) (t g.kind) n)) c.args.asked.now.names.items c.loop-id.id-index
    c.id-item.result (omega (arith, c.loop-id-test.true)) (c.id-item.is ∙ ap (λ xs. get_or xs c.loop-id.id-index c.id-item.result) c.deref-id-items.ensures.value) e (sym c.is_refused.ensures ∙ c.if-is_refused.false)

pub returns-then-is_refused-clause-some : goal.returns-then-is_refused-clause-some
returns-then-is_refused-clause-some c = λ e.
    let t = tree c.args.atoms.now c.args.heap.now.now.terms in
    let g = c.args.asked.now.goal in
    c.loop-id.invariant e
    ∙ first_here c.args.atoms.now c.args.heap.now.now.terms (λ n. is_cause c.args.cause (named_set (named c.args.atoms.now c.args.ops.now) (t g.priority) (t g.kind) n)) c.args.asked.now.names.items c.loop-id.id-index
    c.id-item.result (omega (arith, c.loop-id-test.true)) (c.id-item.is ∙ ap (λ xs. get_or xs c.loop-id.id-index c.id-item.result) c.deref-id-items.ensures.value) e (sym c.is_refused.ensures ∙ c.if-is_refused.true)

pub returns-clause-none : goal.returns-clause-none
returns-clause-none c = λ none e.
    let t = tree c.args.atoms.now c.args.heap.now.now.terms in
    let g = c.args.asked.now.goal in
    c.loop-id.invariant e
    ∙ first_end c.args.atoms.now c.args.heap.now.now.terms (λ n. is_cause c.args.cause (named_set (named c.args.atoms.now c.args.ops.now) (t g.priority) (t g.kind) n)) c.args.asked.now.names.items c.loop-id.id-index
    (omega (arith, c.loop-id-test.false)) e
