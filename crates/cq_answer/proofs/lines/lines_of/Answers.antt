use Rattle.std.proofs.Common.{◌≡◌, ◌++◌, ◌∙◌, sym, ap, ap₂, map, length, true, false, ℕ, arith, ◌==◌}
use Rattle.std.proofs.lemmas.Bool.Decides.{nat_tests}
use Rattle.spec_numbers.proofs.Tests.{nat_eq-same, nat_eq-other}
use Rattle.spec_answers.specs.Answer.{braced}
use Rattle.spec_answers.specs.Lines.{lines_text, or_true}
use Rattle.spec_answers.specs.Rows.{row_texts}
use Rattle.cq_term.specs.Trees.{tree}
use Rattle.cq_write.specs.Meaning.{operators}
use Rattle.cq_answer.specs.Names.{name_among}
use Rattle.cq_answer.specs.Texts.{printed_rows}
use Rattle.cq_project.specs.Projecting.{rows_of}
use Rattle.cq_answer.specs.Shown.{bound_in, constraint_trees, goal_trees}
use Rattle.cq_answer.specs.Lines.{binding_line, constraint_line, goal_line, lines_with}
use Rattle.cq_answer.proofs.Joining.{four_kinds, true_alone, lines_there}
use Rattle.cq_answer.proofs.lines.lines_of.Goals as goal
use Rattle.cq_answer.proofs.lines.lines_of.Goals.{then-is_empty+in_ok-extend_from_slice, else-is_empty}

pub returns-clause-lines : goal.returns-clause-lines
returns-clause-lines c =
    let w = c.args.writing.now in
    let ops = operators w.atoms.now w.ops.now in
    let given = w.names.now in
    let h = c.args.heap.now.now in
    let s = tree w.atoms.now h.images in
    let r = c.args.rows.now in
    let ks = map (binding_line ops given s) (bound_in s c.args.queries.now) in
    let ls = map braced (row_texts (name_among given) (rows_of r)) in
    let ms = map (constraint_line ops given) (constraint_trees w.atoms.now h c.args.waiting.now) in
    let ns = map (goal_line ops given) (goal_trees w.atoms.now h c.args.waiting.now) in
    let rows = c.in_ok-push_rows.ensures
    ∙ ap (λ es. c.push_bindings.new.out.items ++ lines_text (map braced (row_texts (name_among given) (printed_rows es c.deref-2.result.now c.deref-3.result.now)))) c.deref.ensures.value
    ∙ ap₂ (λ is ds. c.push_bindings.new.out.items ++ lines_text (map braced (row_texts (name_among given) (printed_rows r.equations.items is ds)))) c.deref-2.ensures.value c.deref-3.ensures.value in
    let all = four_kinds ks ls ms ns c.new-text.result.items c.push_bindings.new.out.items c.push_rows.new.out.items c.push_constraints.new.out.items c.push_goals.new.out.items
    c.new-text.ensures.items c.in_ok-push_bindings.ensures rows c.in_ok-push_constraints.ensures c.in_ok-push_goals.ensures.lines in
    let long = c.push_goals.new.out.ok.0 in
    elim c.if-is_empty.branch [
      | then-is_empty+in_ok-extend_from_slice b ↦
          rw b.text-is (true_alone (ks ++ ls ++ ms ++ ns) c.push_goals.new.out.items b.extend_from_slice.new.self.items all
          (sym long ∙ nat_eq-same c.push_goals.new.out.len 0 (sym c.is_empty.ensures ∙ b.if-is_empty.true)) b.in_ok-extend_from_slice.ensures.items)
      | else-is_empty b ↦
          rw b.text-is (lines_there (ks ++ ls ++ ms ++ ns) c.push_goals.new.out.items all
          (λ z. nat_eq-other c.push_goals.new.out.len 0 (sym c.is_empty.ensures ∙ b.if-is_empty.false) (long ∙ z)))
    ]
