use Rattle.std.proofs.Common.{sym, subst, ◌∙◌}
use Rattle.spec_numbers.specs.Rational.{IsPositive}
use Rattle.cq_frac.specs.Rows.{Has}
use Rattle.cq_frac.proofs.Steps.{has_at}
use Rattle.cq_simplex.proofs.Entries.{entry_below}
use Rattle.cq_tableau.proofs.Goes.{none_is_free, slope_raises}
use Rattle.cq_tableau.proofs.level.nearing.nearest.Goals as goal

pub is_restricted-requires : goal.is_restricted-requires
is_restricted-requires c =
    let e = c.row-m-items.ensures.entries c.requires.row.0 c.requires.row.1 in
    entry_below c.args.dict.now.roles c.args.dict.now.restricted c.requires.table c.args.q c.requires.row.0 c.requires.row.1 c.m-item.result
    (subst (Has c.m-item.result) e (has_at c.row-m-items.result.now c.loop-m.m-index c.m-item.result c.loop-m-test.true c.m-item.is))

pub nearing_by-requires-clause-none : goal.nearing_by-requires-clause-none
nearing_by-requires-clause-none c =
    none_is_free c.args.dict.now.roles c.args.dict.now.restricted c.args.q c.free_column.result c.free_column.ensures (sym c.is_some.ensures ∙ c.if-is_some.false)

pub nearing_by-requires-clause-raises : goal.nearing_by-requires-clause-raises
nearing_by-requires-clause-raises c =
    let e = c.row-m-items.ensures.entries c.requires.row.0 c.requires.row.1 in
    slope_raises c.args.dict.now.roles c.args.dict.now.restricted c.args.q c.requires.row c.requires.table c.args.up c.m-item.result
    (subst (Has c.m-item.result) e (has_at c.row-m-items.result.now c.loop-m.m-index c.m-item.result c.loop-m-test.true c.m-item.is))
    (subst IsPositive c.slope-factor.ensures (c.is_positive.ensures.positive.0 c.if-is_positive.true)) (sym c.is_restricted.ensures ∙ c.if-is_restricted.true)
