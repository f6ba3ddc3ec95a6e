use Rattle.std.proofs.Common.{subst, sym}
use Rattle.cq_frac.proofs.Shifts.{over_anywhere}
use Rattle.cq_dict.specs.Roles.{IsAt, is_live, is_dropped, Expresses}
use Rattle.cq_dict.proofs.Roles.{at_index}
use Rattle.cq_dict.proofs.Products.{of_live, of_dropped, of_row, adds_product, refuses_product}
use Rattle.cq_dict.proofs.form.added.Goals as goal
use Rattle.cq_dict.proofs.form.added.Goals.{In_ok-own-in-Live, In_ok-own-in-Dropped, In-Basic}

live_own : (c : In_ok-own-in-Live) → Expresses c.args.roles.now (λ x. x c.args.m.quantity) c.in_ok-own-in-Live.own
live_own c =
    subst (Expresses c.args.roles.now (λ x. x c.args.m.quantity)) (sym c.in_ok-own-in-Live.ensures)
    (of_live c.args.roles.now c.args.m.quantity (subst (IsAt c.args.roles.now c.args.m.quantity) c.in-Live.is (at_index c.args.roles.now c.args.m.quantity c.index-roles-m.result c.requires.there c.index-roles-m.is)))

dropped_own : (c : In_ok-own-in-Dropped) → Expresses c.args.roles.now (λ x. x c.args.m.quantity) c.in_ok-own-in-Dropped.own
dropped_own c =
    subst (Expresses c.args.roles.now (λ x. x c.args.m.quantity)) (sym c.in_ok-own-in-Dropped.ensures)
    (of_dropped c.args.roles.now c.args.m.quantity (subst (IsAt c.args.roles.now c.args.m.quantity) c.in-Dropped.is (at_index c.args.roles.now c.args.m.quantity c.index-roles-m.result c.requires.there c.index-roles-m.is)))

row_own : (c : In-Basic) → Expresses c.args.roles.now (λ x. x c.args.m.quantity) c.in-Basic.row
row_own c =
    of_row c.args.roles.now c.args.m.quantity c.requires.table c.in-Basic.row
    (subst (IsAt c.args.roles.now c.args.m.quantity) c.in-Basic.is (at_index c.args.roles.now c.args.m.quantity c.index-roles-m.result c.requires.there c.index-roles-m.is))

pub joined-requires-clause-b_row : goal.joined-requires-clause-b_row
joined-requires-clause-b_row c = over_anywhere (is_live c.args.roles.now) (is_dropped c.args.roles.now) c.in_ok-own-in-Live.own (live_own (goal.at.joined-requires-clause-b_row c).In_ok-own-in-Live).over

pub joined-requires-in-Dropped-clause-b_row : goal.joined-requires-in-Dropped-clause-b_row
joined-requires-in-Dropped-clause-b_row c = over_anywhere (is_live c.args.roles.now) (is_dropped c.args.roles.now) c.in_ok-own-in-Dropped.own (dropped_own (goal.at.joined-requires-in-Dropped-clause-b_row c).In_ok-own-in-Dropped).over

pub joined-requires-in-Basic-clause-b_row : goal.joined-requires-in-Basic-clause-b_row
joined-requires-in-Basic-clause-b_row c = over_anywhere (is_live c.args.roles.now) (is_dropped c.args.roles.now) c.in-Basic.row (row_own c).over

pub returns-in_ok-own-in-Live-clause-value : goal.returns-in_ok-own-in-Live-clause-value
returns-in_ok-own-in-Live-clause-value c = adds_product c.args.roles.now c.args.sum c.args.m c.in_ok-own-in-Live.own (live_own (goal.at.returns-in_ok-own-in-Live-clause-value c).In_ok-own-in-Live) c.joined.result c.joined.ensures.value c.joined.ensures.accepted

pub returns-in_ok-own-in-Live-clause-overflow : goal.returns-in_ok-own-in-Live-clause-overflow
returns-in_ok-own-in-Live-clause-overflow c = refuses_product c.args.roles.now c.args.sum c.args.m c.in_ok-own-in-Live.own (live_own (goal.at.returns-in_ok-own-in-Live-clause-overflow c).In_ok-own-in-Live) c.joined.result c.joined.ensures.overflow

pub returns-in_ok-own-in-Dropped-clause-value : goal.returns-in_ok-own-in-Dropped-clause-value
returns-in_ok-own-in-Dropped-clause-value c = adds_product c.args.roles.now c.args.sum c.args.m c.in_ok-own-in-Dropped.own (dropped_own (goal.at.returns-in_ok-own-in-Dropped-clause-value c).In_ok-own-in-Dropped) c.joined-in-Dropped.result c.joined-in-Dropped.ensures.value c.joined-in-Dropped.ensures.accepted

pub returns-in_ok-own-in-Dropped-clause-overflow : goal.returns-in_ok-own-in-Dropped-clause-overflow
returns-in_ok-own-in-Dropped-clause-overflow c = refuses_product c.args.roles.now c.args.sum c.args.m c.in_ok-own-in-Dropped.own (dropped_own (goal.at.returns-in_ok-own-in-Dropped-clause-overflow c).In_ok-own-in-Dropped) c.joined-in-Dropped.result c.joined-in-Dropped.ensures.overflow

pub returns-in-Basic-clause-value : goal.returns-in-Basic-clause-value
returns-in-Basic-clause-value c = adds_product c.args.roles.now c.args.sum c.args.m c.in-Basic.row (row_own (goal.at.returns-in-Basic-clause-value c).In-Basic) c.joined-in-Basic.result c.joined-in-Basic.ensures.value c.joined-in-Basic.ensures.accepted

pub returns-in-Basic-clause-overflow : goal.returns-in-Basic-clause-overflow
returns-in-Basic-clause-overflow c = refuses_product c.args.roles.now c.args.sum c.args.m c.in-Basic.row (row_own (goal.at.returns-in-Basic-clause-overflow c).In-Basic) c.joined-in-Basic.result c.joined-in-Basic.ensures.overflow
