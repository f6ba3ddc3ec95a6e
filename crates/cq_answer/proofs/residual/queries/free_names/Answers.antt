use Rattle.std.proofs.Common.{◌≡◌, ◌<◌, ◌++◌, ◌∷◌, [], ◌∙◌, sym, ap₂, length}
use Rattle.cq_term.specs.Trees.{tree}
use Rattle.cq_answer.proofs.Named.{free_kept, free_pushed}
use Rattle.cq_answer.proofs.residual.queries.free_names.Goals as goal
use Rattle.cq_answer.proofs.residual.queries.free_names.Goals.{then-is_free_query+in_ok-copy+in-Ok, else-is_free_query}

pub names-preserved : goal.names-preserved
names-preserved c texts =
    let names = c.args.names.now in
    let n = c.named-item.result in
    let i = c.names.named-index in
    let s = tree texts c.args.heap.now.now.images in
    let here : i < length names = c.names-test.true in
    elim c.if-is_free_query.branch [
      | then-is_free_query+in_ok-copy+in-Ok w ↦
          rw w.free-is (
          w.in-Ok.ensures.items
          ∙ ap₂ (λ ns m. ns ++ m ∷ []) (c.names.invariant texts) w.in_ok-copy.ensures
          ∙ free_pushed s names i n here c.named-item.is (sym w.if-is_free_query.true ∙ c.is_free_query.ensures texts))
      | else-is_free_query w ↦
          rw w.free-is (c.names.invariant texts ∙ free_kept s names i n here c.named-item.is (sym w.if-is_free_query.false ∙ c.is_free_query.ensures texts))
    ]
