use Rattle.std.proofs.Common.{◌≡◌, ◌<◌, ◌++◌, ◌∙◌, sym, ap, length, map, take}
use Rattle.spec_answers.specs.Lines.{lines_text}
use Rattle.cq_term.specs.Trees.{tree}
use Rattle.cq_write.specs.Meaning.{operators}
use Rattle.cq_answer.specs.Shown.{bound_in}
use Rattle.cq_answer.proofs.Named.{bound_kept, bound_pushed}
use Rattle.cq_answer.specs.Lines.{binding_line}
use Rattle.cq_answer.proofs.Joining.{line_step}
use Rattle.cq_answer.proofs.lines.push_bindings.Goals as goal
use Rattle.cq_answer.proofs.lines.push_bindings.Goals.{then-is_bound_query+in_ok-push_binding, else-is_bound_query}

pub queries-preserved : goal.queries-preserved
queries-preserved c =
    let w = c.args.writing.now in
    let s = tree w.atoms.now c.args.heap.now.now.images in
    let F = binding_line (operators w.atoms.now w.ops.now) w.names.now s in
    let old = c.args.out.now.items in
    let xs = c.args.queries.now in
    let i = c.queries.named-index in
    let n = c.named-item.result in
    let here : i < length xs = c.queries-test.true in
    elim c.if-is_bound_query.branch [
      | then-is_bound_query+in_ok-push_binding b ↦
          rw b.out-is (
          line_step F old (bound_in s (take i xs)) n c.queries.out.items b.push_binding.new.out.items c.queries.invariant b.in_ok-push_binding.ensures
          ∙ ap (λ ns. old ++ lines_text (map F ns)) (bound_pushed s xs i n here c.named-item.is (sym b.if-is_bound_query.true ∙ c.is_bound_query.ensures w.atoms.now)))
      | else-is_bound_query b ↦
          rw b.out-is (
          c.queries.invariant
          ∙ ap (λ ns. old ++ lines_text (map F ns)) (bound_kept s xs i n here c.named-item.is (sym b.if-is_bound_query.false ∙ c.is_bound_query.ensures w.atoms.now)))
    ]
