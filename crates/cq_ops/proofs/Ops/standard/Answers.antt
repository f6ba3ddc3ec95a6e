use Rattle.std.proofs.Common.{take, drop, ap, ◌∙◌}
use Rattle.spec_syntax.specs.Standard.{rows, put_rows}
use Rattle.cq_ops.proofs.Ops.standard.Goals as goal

pub returns-in_err-put_powers-clause-kept : goal.returns-in_err-put_powers-clause-kept
returns-in_err-put_powers-clause-kept c = λ i text e. c.put_powers.ensures.kept i text (c.put_comparisons.ensures.kept i text (c.put_control.ensures.kept i text (c.put_declarations.ensures.kept i text e)))

pub returns-clause-kept : goal.returns-clause-kept
returns-clause-kept c = λ i text e. c.put_powers.ensures.kept i text (c.put_comparisons.ensures.kept i text (c.put_control.ensures.kept i text (c.put_declarations.ensures.kept i text e)))

pub returns-clause-table : goal.returns-clause-table
returns-clause-table c =
    let declarations = c.in_ok-put_declarations.ensures.table ∙ ap (λ ops. put_rows ops (take 3 rows)) (c.empty-ops.ensures.table c.args.atoms.now) in
    let control = c.in_ok-put_control.ensures.table ∙ ap (λ ops. put_rows ops (take 4 (drop 3 rows))) declarations in
    let comparisons = c.in_ok-put_comparisons.ensures.table ∙ ap (λ ops. put_rows ops (take 3 (drop 7 rows))) control in
    c.in_ok-put_powers.ensures.table ∙ ap (λ ops. put_rows ops (drop 10 rows)) comparisons
