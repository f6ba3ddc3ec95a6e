use Rattle.std.proofs.Common.{◌∙◌, ap}
use Rattle.std.specs.Prelude.{unwrap_or}
use Rattle.cq_dict.specs.declared.table.Role.{Role}
use Rattle.cq_dict.proofs.Turned.{turned_row}
use Rattle.cq_dict.proofs.Written.{if_ok}
use Rattle.cq_dict.proofs.columns.Turn.next.Goals as goal

pub returns-in-Basic : goal.returns-in-Basic
returns-in-Basic c =
    if_ok c.row.result _ _ (λ next h. turned_row c.args.self c.args.column c.args.number c.args.role.now (unwrap_or next c.args.role.now) c.if-number-column.false c.in-Basic.row h.0 c.in-Basic.is
    (ap (λ (z : Role). unwrap_or next z) c.in-Basic.is ∙ h.1) h.2) c.row.ensures
