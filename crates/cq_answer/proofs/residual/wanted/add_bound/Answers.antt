use Rattle.std.proofs.Common.{◌≡◌, ◌<◌, ◌∙◌, sym, ap, ap₂, length}
use Rattle.spec_terms.specs.Term.{named}
use Rattle.spec_terms.specs.VariableName.{VariableName}
use Rattle.spec_terms.specs.Variables.{variables_after}
use Rattle.cq_term.specs.Texts.{text_of}
use Rattle.cq_term.specs.Trees.{tree}
use Rattle.cq_term.specs.Places.{numbers_of}
use Rattle.cq_answer.proofs.Named.{after_kept, after_bound}
use Rattle.cq_answer.proofs.residual.wanted.add_bound.Goals as goal
use Rattle.cq_answer.proofs.residual.wanted.add_bound.Goals.{then-is_bound_query+in_ok-add_variables, else-is_bound_query}

pub names-preserved : goal.names-preserved
names-preserved c texts =
    let names = c.args.names.now in
    let n = c.named-item.result in
    let i = c.names.named-index in
    let s = tree texts c.args.heap.now.now.images in
    let old = numbers_of c.args.found.now.keys in
    let here : i < length names = c.names-test.true in
    elim c.if-is_bound_query.branch [
      | then-is_bound_query+in_ok-add_variables w ↦
          rw w.found-is (
          w.in_ok-add_variables.ensures texts
          ∙ ap₂ variables_after (c.names.invariant texts) (ap (named (text_of texts)) w.var_term.ensures.term ∙ ap (λ (m : VariableName). s m.number) c.named.view_is)
          ∙ after_bound s names i n here c.named-item.is old (sym w.if-is_bound_query.true ∙ c.is_bound_query.ensures texts))
      | else-is_bound_query w ↦
          rw w.found-is (c.names.invariant texts ∙ after_kept s names i n here c.named-item.is old (sym w.if-is_bound_query.false ∙ c.is_bound_query.ensures texts))
    ]
