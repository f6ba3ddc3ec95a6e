use Rattle.std.proofs.Common.{◌≡◌, take, take_all, false, rules, sym, subst, refl, ◌∙◌}
use Rattle.cq_frac.specs.Rows.{Has}
use Rattle.cq_frac.proofs.Steps.{has_at}
use Rattle.cq_dict.specs.declared.table.Role.TheVariants.{Dropped}
use Rattle.cq_dict.specs.Roles.{is_restricted, is_dropped}
use Rattle.cq_dict.proofs.Roles.{at_below, role_dropped}
use Rattle.cq_simplex.proofs.Entries.{each_more}
use Rattle.cq_tableau.proofs.Tied.{entry_live}
use Rattle.cq_store.proofs.equating.held_column.Goals as goal

pub is_restricted-requires : goal.is_restricted-requires
is_restricted-requires c =
    let roles = c.args.dict.now.roles in
    let m = c.m-item.result in
    at_below roles m.quantity Dropped (role_dropped roles m.quantity
    (entry_live (is_dropped roles) 0 c.dropped-m-items.result.now c.dropped-m-items.ensures.columns m (has_at c.dropped-m-items.result.now c.loop-m.m-index m c.loop-m-test.true c.m-item.is)))

pub returns-then-is_restricted : goal.returns-then-is_restricted
returns-then-is_restricted c =
    let e = c.dropped-m-items.ensures.entries c.requires.row.0 c.requires.row.1 in
    let m = c.m-item.result in
    record {
      own = c.requires.row.0;
      is_row = c.requires.row.1;
      entry = m;
      has = subst (Has m) e (has_at c.dropped-m-items.result.now c.loop-m.m-index m c.loop-m-test.true c.m-item.is);
      quantity = refl;
      flag = sym c.is_restricted.ensures ∙ c.if-is_restricted.true;
    }

pub loop-m-preserved : goal.loop-m-preserved
loop-m-preserved c =
    let f : is_restricted c.args.dict.now.restricted c.m-item.result.quantity ≡ false = sym c.is_restricted.ensures ∙ c.if-is_restricted.false in
    each_more (λ n. is_restricted c.args.dict.now.restricted n.quantity ≡ false) c.dropped-m-items.result.now c.loop-m.m-index c.m-item.result c.loop-m-test.true c.m-item.is c.loop-m.invariant f

pub returns : goal.returns
returns c = λ own at m h.
    let e = c.dropped-m-items.ensures.entries own at in
    let all : take c.loop-m.m-index c.dropped-m-items.result.now ≡ c.dropped-m-items.result.now = search (rules, take_all) in
    c.loop-m.invariant m (subst (Has m) (sym e ∙ sym all) h)
