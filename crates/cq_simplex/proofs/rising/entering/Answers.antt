use Rattle.std.proofs.Common.{◌≡◌, ◌<◌, length, get_or, take, take_all, true, rules, sym, subst, ◌∙◌}
use Rattle.spec_numbers.specs.Rational.{IsPositive}
use Rattle.spec_numbers.proofs.Sign.{not_both}
use Rattle.cq_frac.specs.declared.row.Entry.{Entry}
use Rattle.cq_frac.specs.Rows.{Has}
use Rattle.cq_frac.proofs.Steps.{has_at}
use Rattle.cq_dict.specs.Roles.{is_restricted}
use Rattle.cq_simplex.proofs.Entries.{entry_below, first_enters, none_raises, each_more}
use Rattle.cq_simplex.proofs.rising.entering.Goals as goal
use Rattle.cq_simplex.proofs.rising.entering.Goals.{else-is_positive-via-then-is_positive+else-is_restricted, else-is_positive-via-else-is_positive}

pub is_restricted-requires : goal.is_restricted-requires
is_restricted-requires c =
    let e = c.row-m-items.ensures.entries c.requires.row.0 c.requires.row.1 in
    entry_below c.args.dict.now.roles c.args.dict.now.restricted c.requires.table c.args.row c.requires.row.0 c.requires.row.1 c.m-item.result
    (subst (Has c.m-item.result) e (has_at c.row-m-items.result.now c.loop-m.m-index c.m-item.result c.loop-m-test.true c.m-item.is))

pub returns-then-is_restricted : goal.returns-then-is_restricted
returns-then-is_restricted c =
    let e = c.row-m-items.ensures.entries c.requires.row.0 c.requires.row.1 in
    let m = c.m-item.result in
    let f : is_restricted c.args.dict.now.restricted m.quantity ≡ true = sym c.is_restricted.ensures ∙ c.if-is_restricted.true in
    let p : IsPositive m.factor = c.is_positive.ensures.positive.0 c.if-is_positive.true in
    first_enters c.args.dict.now.roles c.args.dict.now.restricted c.requires.table c.args.row c.requires.row.0 c.requires.row.1 c.loop-m.m-index m
    (subst (λ s. c.loop-m.m-index < length s) e c.loop-m-test.true) (subst (λ s. m ≡ get_or s c.loop-m.m-index m) e c.m-item.is)
    (subst (Has m) e (has_at c.row-m-items.result.now c.loop-m.m-index m c.loop-m-test.true c.m-item.is))
    (subst (λ s. (n : Entry) → Has n (take c.loop-m.m-index s) → IsPositive n.factor × (is_restricted c.args.dict.now.restricted n.quantity ≡ true) → ⊥) e c.loop-m.invariant)
    (p, f)

pub loop-m-preserved : goal.loop-m-preserved
loop-m-preserved c =
    each_more (λ n. IsPositive n.factor × (is_restricted c.args.dict.now.restricted n.quantity ≡ true) → ⊥) c.row-m-items.result.now c.loop-m.m-index c.m-item.result c.loop-m-test.true c.m-item.is c.loop-m.invariant
    (λ r. elim c.else-is_positive.branch [
      | else-is_positive-via-then-is_positive+else-is_restricted w ↦ let f = sym w.is_restricted.ensures ∙ w.if-is_restricted.false in let g = r.1 in cc
      | else-is_positive-via-else-is_positive w ↦ not_both r.0 w.if-is_positive.ensures.otherwise
    ])

pub returns : goal.returns
returns c =
    let e = c.row-m-items.ensures.entries c.requires.row.0 c.requires.row.1 in
    let all : take c.loop-m.m-index c.row-m-items.result.now ≡ c.row-m-items.result.now = search (rules, take_all) in
    none_raises c.args.dict.now.roles c.args.dict.now.restricted c.requires.table c.args.row c.requires.row.0 c.requires.row.1
    (λ n h. c.loop-m.invariant n (subst (Has n) (sym e ∙ sym all) h))
