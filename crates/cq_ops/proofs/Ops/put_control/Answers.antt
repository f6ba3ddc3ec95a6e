use Rattle.std.proofs.Common.{[], ◌∷◌}
use Rattle.std.specs.Prelude.{codes}
use Rattle.spec_syntax.specs.declared.operators.OpKind.TheVariants.{Xfy, Fy}
use Rattle.spec_syntax.specs.Standard.{row}
use Rattle.cq_ops.proofs.Rows.{next}
use Rattle.cq_ops.proofs.Ops.put_control.Goals as goal

pub returns-in_err-put_names-4-clause-kept : goal.returns-in_err-put_names-4-clause-kept
returns-in_err-put_names-4-clause-kept c = λ i text e. c.put_names-4.ensures.kept i text (c.put_names-3.ensures.kept i text (c.put_names-2.ensures.kept i text (c.put_names.ensures.kept i text e)))

pub returns-clause-kept : goal.returns-clause-kept
returns-clause-kept c = λ i text e. c.put_names-4.ensures.kept i text (c.put_names-3.ensures.kept i text (c.put_names-2.ensures.kept i text (c.put_names.ensures.kept i text e)))

pub returns-clause-table : goal.returns-clause-table
returns-clause-table c =
    let e2 = next _ _ _ (row 1050 Xfy (codes "->" ∷ [])) c.in_ok-put_names-2.ensures.table c.in_ok-put_names.ensures.table in
    let e3 = next _ _ _ (row 1000 Xfy (codes "," ∷ [])) c.in_ok-put_names-3.ensures.table e2 in
    next _ _ _ (row 900 Fy (codes "\\+" ∷ [])) c.in_ok-put_names-4.ensures.table e3
