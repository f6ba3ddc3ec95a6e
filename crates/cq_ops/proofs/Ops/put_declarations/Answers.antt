use Rattle.std.proofs.Common.{[], ◌∷◌}
use Rattle.std.specs.Prelude.{codes}
use Rattle.spec_syntax.specs.declared.operators.OpKind.TheVariants.{Fx}
use Rattle.spec_syntax.specs.Standard.{row}
use Rattle.cq_ops.proofs.Rows.{next}
use Rattle.cq_ops.proofs.Ops.put_declarations.Goals as goal

pub returns-clause-kept : goal.returns-clause-kept
returns-clause-kept c = λ i text e. c.put_names-3.ensures.kept i text (c.put_names-2.ensures.kept i text (c.put_names.ensures.kept i text e))

pub returns-clause-table : goal.returns-clause-table
returns-clause-table c =
    let e2 = next _ _ _ (row 1200 Fx (codes ":-" ∷ codes "?-" ∷ [])) c.in_ok-put_names-2.ensures.table c.in_ok-put_names.ensures.table in
    next _ _ _ (row 1150 Fx (codes "dynamic" ∷ codes "discontiguous" ∷ codes "initialization" ∷ [])) c.in_ok-put_names-3.ensures.table e2
