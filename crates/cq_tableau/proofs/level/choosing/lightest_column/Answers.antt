use Rattle.std.proofs.Common.{◌≡◌, ◌+◌, take, take_all, true, false, rules, inl, refl, sym, subst, ◌∙◌}
use Rattle.cq_frac.specs.Rows.{Has}
use Rattle.cq_frac.proofs.Steps.{has_at}
use Rattle.cq_dict.specs.Roles.{is_restricted}
use Rattle.cq_simplex.proofs.Entries.{entry_below}
use Rattle.cq_tableau.proofs.Lights.{AreLightest, IsLightestOf, restricted_next, free_next, lightest_of, none_lightest, only_lightest, only_restricted}
use Rattle.cq_tableau.proofs.level.choosing.lightest_column.Goals as goal
use Rattle.cq_tableau.proofs.level.choosing.lightest_column.Goals.{then-not-is_restricted+in_ok-rows, else-not-is_restricted}

pub is_restricted-requires : goal.is_restricted-requires
is_restricted-requires c =
    let e = c.row.ensures.entries c.requires.row.0 c.requires.row.1 in
    entry_below c.args.dict.now.roles c.args.dict.now.restricted c.requires.table c.args.q c.requires.row.0 c.requires.row.1 c.in-Some.m
    (subst (Has c.in-Some.m) (sym c.in-Some.ensures ∙ e) (inl refl))

pub returns-then-is_restricted : goal.returns-then-is_restricted
returns-then-is_restricted c =
    let e = c.row.ensures.entries c.requires.row.0 c.requires.row.1 in
    only_restricted c.args.dict.now.roles c.args.dict.now.restricted c.args.q c.requires.table c.requires.row.0 c.requires.row.1 c.in-Some.m (sym e ∙ c.in-Some.ensures)
    (sym c.is_restricted.ensures ∙ c.if-is_restricted.true)

pub returns-in-Some : goal.returns-in-Some
returns-in-Some c =
    let e = c.row.ensures.entries c.requires.row.0 c.requires.row.1 in
    only_lightest c.args.dict.now.roles c.args.dict.now.restricted c.args.q c.requires.table c.requires.row.0 c.requires.row.1 c.in-Some.m (sym e ∙ c.in-Some.ensures)
    (sym c.is_restricted.ensures ∙ c.if-is_restricted.false)

pub is_restricted-requires-in-loop-m : goal.is_restricted-requires-in-loop-m
is_restricted-requires-in-loop-m c =
    let e = c.row-m-items.ensures.entries c.requires.row.0 c.requires.row.1 in
    entry_below c.args.dict.now.roles c.args.dict.now.restricted c.requires.table c.args.q c.requires.row.0 c.requires.row.1 c.m-item.result
    (subst (Has c.m-item.result) e (has_at c.row-m-items.result.now c.loop-m.m-index c.m-item.result c.loop-m-test.true c.m-item.is))

pub count_rows-requires-clause-there : goal.count_rows-requires-clause-there
count_rows-requires-clause-there c =
    let e = c.row-m-items.ensures.entries c.requires.row.0 c.requires.row.1 in
    entry_below c.args.dict.now.roles c.args.dict.now.restricted c.requires.table c.args.q c.requires.row.0 c.requires.row.1 c.m-item.result
    (subst (Has c.m-item.result) e (has_at c.row-m-items.result.now c.loop-m.m-index c.m-item.result c.loop-m-test.true c.m-item.is))

pub loop-m-preserved : goal.loop-m-preserved
loop-m-preserved c =
    let roles = c.args.dict.now.roles in
    let flags = c.args.dict.now.restricted in
    let items = c.row-m-items.result.now in
    let m = c.m-item.result in
    elim c.if-not-is_restricted.branch [
      | then-not-is_restricted+in_ok-rows w ↦
          let f : is_restricted flags m.quantity ≡ false = sym c.is_restricted-in-loop-m.ensures ∙ w.if-not-is_restricted.true in
          subst (AreLightest roles flags (take (c.loop-m.m-index + 1) items)) (sym w.found-is)
          (free_next roles flags items c.loop-m.m-index m c.loop-m-test.true c.m-item.is f (record { column = m.quantity; rows = w.in_ok-rows.rows }) refl w.in_ok-rows.ensures
          c.loop-m.found c.loop-m.invariant w.lighter.result w.lighter.ensures)
      | else-not-is_restricted w ↦
          let f : is_restricted flags m.quantity ≡ true = sym c.is_restricted-in-loop-m.ensures ∙ w.if-not-is_restricted.false in
          subst (AreLightest roles flags (take (c.loop-m.m-index + 1) items)) (sym w.found-is)
          (restricted_next roles flags items c.loop-m.m-index m c.loop-m-test.true c.m-item.is f c.loop-m.found c.loop-m.invariant)
    ]

pub returns-in-Some-found : goal.returns-in-Some-found
returns-in-Some-found c =
    let e = c.row-m-items.ensures.entries c.requires.row.0 c.requires.row.1 in
    let all : take c.loop-m.m-index c.row-m-items.result.now ≡ c.row-m-items.result.now = search (rules, take_all) in
    lightest_of c.args.dict.now.roles c.args.dict.now.restricted c.args.q c.requires.table c.requires.row.0 c.requires.row.1 c.in-Some-found.candidate
    (subst (λ s. IsLightestOf c.args.dict.now.roles c.args.dict.now.restricted s c.in-Some-found.candidate) (all ∙ e)
    (subst (AreLightest c.args.dict.now.roles c.args.dict.now.restricted (take c.loop-m.m-index c.row-m-items.result.now)) c.in-Some-found.is c.loop-m.invariant))

pub returns-in-None : goal.returns-in-None
returns-in-None c =
    let e = c.row-m-items.ensures.entries c.requires.row.0 c.requires.row.1 in
    let all : take c.loop-m.m-index c.row-m-items.result.now ≡ c.row-m-items.result.now = search (rules, take_all) in
    none_lightest c.args.dict.now.roles c.args.dict.now.restricted c.args.q c.requires.table c.requires.row.0 c.requires.row.1
    (λ n h. subst (AreLightest c.args.dict.now.roles c.args.dict.now.restricted (take c.loop-m.m-index c.row-m-items.result.now)) c.in-None.is c.loop-m.invariant n
    (subst (Has n) (sym e ∙ sym all) h))
