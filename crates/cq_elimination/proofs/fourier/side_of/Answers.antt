use Rattle.std.proofs.Common.{sym, subst}
use Rattle.spec_linear.specs.Form.{IsSumFrom}
use Rattle.cq_form.proofs.Rows.{row_of, not_mentioned}
use Rattle.cq_elimination.proofs.Bounds.{found, missing, is_negative}
use Rattle.cq_elimination.proofs.fourier.side_of.Goals as goal

pub entry_at-requires : goal.entry_at-requires
entry_at-requires c = record { row = row_of 0 c.entries.result.now (subst (IsSumFrom 0) (sym c.entries.ensures.value) c.entries.ensures.in_order) }

pub returns-in_default : goal.returns-in_default
returns-in_default c =
    missing c.args.variable.0 c.entries.result.now c.row.inside.relation c.row.inside.form c.args.row.now c.row.view_is c.entries.ensures.value
    (not_mentioned c.args.variable.0 c.entries.result.now c.in_default.ensures)

pub returns-then-is_positive : goal.returns-then-is_positive
returns-then-is_positive c =
    let own = found c.args.variable.0 c.entries.result.now c.row.inside.relation c.row.inside.form c.args.row.now c.row.view_is c.entries.ensures.value c.in-Some.factor
    (subst (IsSumFrom 0) (sym c.entries.ensures.value) c.entries.ensures.in_order) c.in-Some.ensures in
    (own.0, c.is_positive.ensures.positive.0 c.if-is_positive.true)

pub returns-else-is_positive : goal.returns-else-is_positive
returns-else-is_positive c =
    let own = found c.args.variable.0 c.entries.result.now c.row.inside.relation c.row.inside.form c.args.row.now c.row.view_is c.entries.ensures.value c.in-Some.factor
    (subst (IsSumFrom 0) (sym c.entries.ensures.value) c.entries.ensures.in_order) c.in-Some.ensures in
    (own.0, is_negative c.in-Some.factor own.1 c.if-is_positive.ensures.otherwise)
