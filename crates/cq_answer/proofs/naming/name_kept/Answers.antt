use Rattle.std.proofs.Common.{◌≡◌, ◌<◌, ◌≤◌, ◌∙◌, ℕ, List, length, get_or, sym, ap, subst}
use Rattle.std.proofs.lemmas.List.{get_or_default}
use Rattle.spec_answers.specs.Rows.{row_variables}
use Rattle.cq_frac.specs.declared.VarId.{VarId}
use Rattle.cq_project.specs.Projecting.{rows_of}
use Rattle.cq_answer.specs.Numbered.{has_variable}
use Rattle.cq_answer.proofs.Counting.{passed_more, passed_by, one_longer}
use Rattle.cq_answer.proofs.naming.name_kept.Goals as goal
use Rattle.cq_answer.proofs.naming.name_kept.Goals.{then-stands_in+in_ok-name_next, else-stands_in}

pub kept-preserved : goal.kept-preserved
kept-preserved c =
    let xs = c.deref-variable-items.result.now in
    let ks = c.args.rows.now.kept.items in
    let i = c.kept.variable-index in
    let d : VarId = record { 0 = 0 } in
    let x = get_or xs i d in
    let p = has_variable (row_variables (rows_of c.args.rows.now)) in
    let same : xs ≡ ks = c.deref-variable-items.ensures.value in
    let inside : i < length xs = c.kept-test.true in
    let here : i < length ks = subst (λ (ys : List VarId). i < length ys) same inside in
    let at : x ≡ get_or ks i x = get_or_default xs i d x inside ∙ ap (λ (ys : List VarId). get_or ys i x) same in
    let inv = c.kept.invariant in
    elim c.if-stands_in.branch [
      | then-stands_in+in_ok-name_next w ↦
          rw w.names-is (record {
            longer = one_longer c.args.from c.kept.names.items w.name_next.new.names.items _ inv.longer w.in_ok-name_next.ensures;
            named = λ first us a.
                passed_more p us ks i x here at first c.args.from c.kept.names.items w.name_next.new.names.items (sym w.if-stands_in.true ∙ c.stands_in.ensures) (inv.named first us a)
                w.in_ok-name_next.ensures;
          })
      | else-stands_in w ↦
          rw w.names-is (record {
            longer = inv.longer;
            named = λ first us a. passed_by p us ks i x here at first c.args.from c.kept.names.items (sym w.if-stands_in.false ∙ c.stands_in.ensures) (inv.named first us a);
          })
    ]
