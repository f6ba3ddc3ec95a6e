use Rattle.std.proofs.Common.{◌<◌, length, sym, subst}
use Rattle.spec_numbers.specs.Rational.{◌+ℚ◌}
use Rattle.cq_frac.specs.Rows.{sum_at}
use Rattle.cq_dict.specs.Roles.{AreOverColumns, Expresses}
use Rattle.cq_dict.proofs.Ends.{row_table, row_defines}
use Rattle.cq_dict.proofs.dict.Dict.add_row.Goals as goal
use Rattle.cq_dict.proofs.dict.Dict.add_row.Goals.{In_ok-row}

own : (c : In_ok-row) → Expresses c.args.self.now.roles (λ x. c.args.constant +ℚ sum_at x c.args.form.now) c.in_ok-row.row
own c = subst (λ l. Expresses l (λ x. c.args.constant +ℚ sum_at x c.args.form.now) c.in_ok-row.row) c.roles.ensures.value c.in_ok-row.ensures.value

pub expressed-requires-clause-there : goal.expressed-requires-clause-there
expressed-requires-clause-there c = λ m h. subst (λ l. m.quantity < length l) (sym c.roles.ensures.value) (c.requires m h)

pub push-requires : goal.push-requires
push-requires c =
    let k = goal.at.push-requires c in
    row_table c.args.self.now.roles c.in_ok-row.row c.roles.ensures.table (own k.In_ok-row).over

pub returns-clause-roles : goal.returns-clause-roles
returns-clause-roles c =
    let k = goal.at.returns-clause-roles c in
    record { row = c.in_ok-row.row; last = c.in_ok-push.ensures.roles; expresses = own k.In_ok-row }

pub returns-clause-value : goal.returns-clause-value
returns-clause-value c =
    let k = goal.at.returns-clause-value c in
    row_defines c.args.self.now.roles _ c.args.form.now c.args.constant c.in_ok-row.row c.in_ok-push.ensures.roles (own k.In_ok-row)

pub returns-clause-table : goal.returns-clause-table
returns-clause-table c =
    let k = goal.at.returns-clause-table c in
    subst AreOverColumns (sym c.in_ok-push.ensures.roles) (row_table c.args.self.now.roles c.in_ok-row.row c.roles.ensures.table (own k.In_ok-row).over)
