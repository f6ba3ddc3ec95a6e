use Rattle.std.proofs.Common.{sym, subst}
use Rattle.spec_linear.specs.Form.{IsSumFrom}
use Rattle.cq_frac.proofs.Steps.{has_at}
use Rattle.cq_elimination.proofs.Bounds.{found}
use Rattle.cq_elimination.specs.ApartSides.{IsOn}
use Rattle.cq_elimination.proofs.apart.stands_apart.Goals as goal

pub side_of-side-requires : goal.side_of-side-requires
side_of-side-requires c =
    let own = found c.entry-item.result.quantity c.entries-entry-items.result.now c.row.inside.relation c.row.inside.form c.args.row.now c.row.view_is
    c.entries-entry-items.ensures.value c.entry-item.result.factor
    (subst (IsSumFrom 0) (sym c.entries-entry-items.ensures.value) c.entries-entry-items.ensures.in_order)
    (has_at c.entries-entry-items.result.now c.entries.entry-index c.entry-item.result c.entries-test.true c.entry-item.is) in
    record { nonzero = own.1 }

pub returns-then-is_free : goal.returns-then-is_free
returns-then-is_free c =
    let own = found c.entry-item.result.quantity c.entries-entry-items.result.now c.row.inside.relation c.row.inside.form c.args.row.now c.row.view_is
    c.entries-entry-items.ensures.value c.entry-item.result.factor
    (subst (IsSumFrom 0) (sym c.entries-entry-items.ensures.value) c.entries-entry-items.ensures.in_order)
    (has_at c.entries-entry-items.result.now c.entries.entry-index c.entry-item.result c.entries-test.true c.entry-item.is) in
    record {
      variable = c.entry-item.result.quantity;
      side = c.side_of-side.result;
      bounds = subst (IsOn c.side_of-side.result) own.0 c.side_of-side.ensures;
      alone = c.if-is_free.ensures;
    }
