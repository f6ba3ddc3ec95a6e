use Rattle.std.proofs.Common.{sym, subst, ◌∙◌}
use Rattle.cq_frac.specs.Rows.{Has}
use Rattle.cq_frac.proofs.Steps.{has_at}
use Rattle.cq_simplex.proofs.Entries.{entry_below, raises_is, factor_of}
use Rattle.cq_simplex.proofs.climb.best_rise.Goals as goal

pub is_restricted-requires : goal.is_restricted-requires
is_restricted-requires c =
    let e = c.row-m-items.ensures.entries c.requires.row.0 c.requires.row.1 in
    entry_below c.args.dict.now.roles c.args.dict.now.restricted c.requires.table c.args.row c.requires.row.0 c.requires.row.1 c.m-item.result
    (subst (Has c.m-item.result) e (has_at c.row-m-items.result.now c.loop-m.m-index c.m-item.result c.loop-m-test.true c.m-item.is))

pub rise_of-requires-clause-raises : goal.rise_of-requires-clause-raises
rise_of-requires-clause-raises c =
    let e = c.row-m-items.ensures.entries c.requires.row.0 c.requires.row.1 in
    raises_is c.args.dict.now.roles c.args.dict.now.restricted c.requires.table c.args.row c.requires.row.0 c.requires.row.1 c.m-item.result
    (subst (Has c.m-item.result) e (has_at c.row-m-items.result.now c.loop-m.m-index c.m-item.result c.loop-m-test.true c.m-item.is))
    (c.is_positive.ensures.positive.0 c.if-is_positive.true, sym c.is_restricted.ensures ∙ c.if-is_restricted.true)

pub rise_of-requires-clause-factor : goal.rise_of-requires-clause-factor
rise_of-requires-clause-factor c =
    let e = c.row-m-items.ensures.entries c.requires.row.0 c.requires.row.1 in
    factor_of c.args.dict.now.roles c.args.dict.now.restricted c.requires.table c.args.row c.requires.row.0 c.requires.row.1 c.m-item.result
    (subst (Has c.m-item.result) e (has_at c.row-m-items.result.now c.loop-m.m-index c.m-item.result c.loop-m-test.true c.m-item.is))
