use Rattle.std.proofs.Common.{◌≡◌, take, take_all, true, false, rules, sym, subst, ◌∙◌}
use Rattle.cq_frac.specs.Rows.{Has}
use Rattle.cq_frac.proofs.Steps.{has_at}
use Rattle.cq_dict.specs.Roles.{is_restricted}
use Rattle.cq_simplex.proofs.Entries.{entry_below, free_is, none_free, each_more}
use Rattle.cq_simplex.proofs.rising.free_column.Goals as goal

pub is_restricted-requires : goal.is_restricted-requires
is_restricted-requires c =
    let e = c.row-m-items.ensures.entries c.requires.row.0 c.requires.row.1 in
    entry_below c.args.dict.now.roles c.args.dict.now.restricted c.requires.table c.args.row c.requires.row.0 c.requires.row.1 c.m-item.result
    (subst (Has c.m-item.result) e (has_at c.row-m-items.result.now c.loop-m.m-index c.m-item.result c.loop-m-test.true c.m-item.is))

pub returns-then-not-is_restricted : goal.returns-then-not-is_restricted
returns-then-not-is_restricted c =
    let e = c.row-m-items.ensures.entries c.requires.row.0 c.requires.row.1 in
    let f : is_restricted c.args.dict.now.restricted c.m-item.result.quantity ≡ false = sym c.is_restricted.ensures ∙ c.if-not-is_restricted.true in
    free_is c.args.dict.now.roles c.args.dict.now.restricted c.requires.table c.args.row c.requires.row.0 c.requires.row.1 c.m-item.result
    (subst (Has c.m-item.result) e (has_at c.row-m-items.result.now c.loop-m.m-index c.m-item.result c.loop-m-test.true c.m-item.is)) f

pub loop-m-preserved : goal.loop-m-preserved
loop-m-preserved c =
    let f : is_restricted c.args.dict.now.restricted c.m-item.result.quantity ≡ true = sym c.is_restricted.ensures ∙ c.if-not-is_restricted.false in
    each_more (λ n. is_restricted c.args.dict.now.restricted n.quantity ≡ true) c.row-m-items.result.now c.loop-m.m-index c.m-item.result c.loop-m-test.true c.m-item.is c.loop-m.invariant f

pub returns : goal.returns
returns c =
    let e = c.row-m-items.ensures.entries c.requires.row.0 c.requires.row.1 in
    let all : take c.loop-m.m-index c.row-m-items.result.now ≡ c.row-m-items.result.now = search (rules, take_all) in
    none_free c.args.dict.now.roles c.args.dict.now.restricted c.requires.table c.args.row c.requires.row.0 c.requires.row.1
    (λ n h. c.loop-m.invariant n (subst (Has n) (sym e ∙ sym all) h))
