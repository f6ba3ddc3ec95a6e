use Rattle.std.proofs.Common.{sym, subst}
use Rattle.spec_linear.specs.Form.{IsSumFrom}
use Rattle.spec_projection.specs.Elimination.{coefficient}
use Rattle.spec_projection.proofs.Mentions.{unmentioned_factor}
use Rattle.cq_form.proofs.Rows.{row_of, not_mentioned}
use Rattle.cq_elimination.proofs.Bounds.{found, missing}
use Rattle.cq_elimination.proofs.Alone.{no_side_of_zero}
use Rattle.cq_elimination.proofs.Bounding.{not_from_below, not_from_above}
use Rattle.cq_elimination.proofs.apart.bounds.Goals as goal

pub entry_at-requires : goal.entry_at-requires
entry_at-requires c = record { row = row_of 0 c.entries.result.now (subst (IsSumFrom 0) (sym c.entries.ensures.value) c.entries.ensures.in_order) }

pub returns-in_default : goal.returns-in_default
returns-in_default c =
    no_side_of_zero c.args.side (coefficient c.args.variable c.args.row.now)
    (unmentioned_factor c.args.variable c.args.row.now.form.products
    (missing c.args.variable c.entries.result.now c.row.inside.relation c.row.inside.form c.args.row.now c.row.view_is c.entries.ensures.value
    (not_mentioned c.args.variable c.entries.result.now c.in_default.ensures)))

pub returns-in-Below : goal.returns-in-Below
returns-in-Below c =
    let own = found c.args.variable c.entries.result.now c.row.inside.relation c.row.inside.form c.args.row.now c.row.view_is c.entries.ensures.value c.in-Some.factor
    (subst (IsSumFrom 0) (sym c.entries.ensures.value) c.entries.ensures.in_order) c.in-Some.ensures in
    not_from_below c.is_positive.result c.args.side c.in-Some.factor (coefficient c.args.variable c.args.row.now) c.in-Below.is own.0 c.is_positive.ensures.otherwise

pub returns-in-Above : goal.returns-in-Above
returns-in-Above c =
    let own = found c.args.variable c.entries.result.now c.row.inside.relation c.row.inside.form c.args.row.now c.row.view_is c.entries.ensures.value c.in-Some.factor
    (subst (IsSumFrom 0) (sym c.entries.ensures.value) c.entries.ensures.in_order) c.in-Some.ensures in
    not_from_above c.is_positive-in-Above.result c.args.side c.in-Some.factor (coefficient c.args.variable c.args.row.now) c.in-Above.is own.0 c.is_positive-in-Above.ensures.positive
