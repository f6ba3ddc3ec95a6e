use Rattle.std.proofs.Common.{get_or, ◌+◌, ◌∙◌, drop, sym, ap, arith}
use Rattle.spec_syntax.specs.Operators.{Ops}
use Rattle.spec_builtins.specs.Operators.{operators_after}
use Rattle.cq_term.specs.Trees.{tree, trees}
use Rattle.cq_ops.specs.Tables.{named}
use Rattle.cq_goals.proofs.Declaring.{is_name_here, set_next, set_end}
use Rattle.cq_goals.proofs.declarations.operators.with_operators.Goals as goal

pub set_operator-requires-clause-name : goal.set_operator-requires-clause-name
set_operator-requires-clause-name c =
    is_name_here c.args.atoms.now c.args.heap.now.now.terms c.args.asked.now.names.items c.loop-id.id-index c.id-item.result (omega (arith, c.loop-id-test.true)) (c.id-item.is ∙ ap (λ xs. get_or xs c.loop-id.id-index c.id-item.result) c.deref-id-items.ensures.value) c.requires.asked.named

pub loop-id-preserved : goal.loop-id-preserved
loop-id-preserved c =
    let texts = c.args.atoms.now in
    let ts = c.args.heap.now.now.terms in
    let g = c.args.asked.now.goal in
    let names = c.args.asked.now.names.items in
    record {
      set =
          ap (λ (o : Ops). operators_after o (tree texts ts g.priority) (tree texts ts g.kind) (trees texts ts (drop (c.loop-id.id-index + 1) names))) c.in_ok-set_operator.ensures.set
          ∙ sym (set_next texts ts (named texts c.loop-id.changed) (tree texts ts g.priority) (tree texts ts g.kind) names c.loop-id.id-index c.id-item.result (omega (arith, c.loop-id-test.true)) (c.id-item.is ∙ ap (λ xs. get_or xs c.loop-id.id-index c.id-item.result) c.deref-id-items.ensures.value))
          ∙ c.loop-id.invariant.set;
      known = λ h. c.in_ok-set_operator.ensures.known (c.loop-id.invariant.known h);
      table = λ h. c.in_ok-set_operator.ensures.table (c.loop-id.invariant.table h);
    }

pub returns-clause-set : goal.returns-clause-set
returns-clause-set c =
    let texts = c.args.atoms.now in
    let ts = c.args.heap.now.now.terms in
    let g = c.args.asked.now.goal in
    sym (set_end texts ts (named texts c.loop-id.changed) (tree texts ts g.priority) (tree texts ts g.kind) c.args.asked.now.names.items c.loop-id.id-index (omega (arith, c.loop-id-test.false)))
    ∙ c.loop-id.invariant.set ∙ ap (operators_after (named texts c.args.ops.now) (tree texts ts g.priority) (tree texts ts g.kind)) c.requires.asked.names
