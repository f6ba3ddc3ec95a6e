use Rattle.std.proofs.Common.{sym, subst, ◌∙◌}
use Rattle.cq_frac.specs.Rows.{Has, IsRowFrom, everywhere}
use Rattle.cq_frac.proofs.Shifts.{anywhere}
use Rattle.cq_dict.specs.Roles.{is_live}
use Rattle.cq_simplex.proofs.Entries.{entry_below, free_is}
use Rattle.cq_store.proofs.solving.is_free_in.Goals as goal

pub entry_at-requires : goal.entry_at-requires
entry_at-requires c =
    let own = c.requires.row.0 in
    record {
      row = subst (IsRowFrom everywhere 0) (sym (c.row.ensures.entries own c.requires.row.1))
          (anywhere (is_live c.args.dict.now.roles) 0 own.live (c.requires.table.rows c.args.q own c.requires.row.1).live_row);
    }

pub is_restricted-requires : goal.is_restricted-requires
is_restricted-requires c =
    let own = c.requires.row.0 in
    entry_below c.args.dict.now.roles c.args.dict.now.restricted c.requires.table c.args.q own c.requires.row.1 (record { quantity = c.args.n; factor = c.in-Some.field-0 })
    (subst (Has (record { quantity = c.args.n; factor = c.in-Some.field-0 })) (c.row.ensures.entries own c.requires.row.1) c.in-Some.ensures)

pub returns-else-is_restricted : goal.returns-else-is_restricted
returns-else-is_restricted c = λ t.
    let own = c.requires.row.0 in
    free_is c.args.dict.now.roles c.args.dict.now.restricted c.requires.table c.args.q own c.requires.row.1 (record { quantity = c.args.n; factor = c.in-Some.field-0 })
    (subst (Has (record { quantity = c.args.n; factor = c.in-Some.field-0 })) (c.row.ensures.entries own c.requires.row.1) c.in-Some.ensures)
    (sym c.is_restricted.ensures ∙ c.if-is_restricted.false)
