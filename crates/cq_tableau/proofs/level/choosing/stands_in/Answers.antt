use Rattle.std.proofs.Common.{sym, subst}
use Rattle.std.specs.Prelude.{MatchOption}
use Rattle.cq_frac.specs.Rows.{Has, Lacks, IsRowFrom, everywhere}
use Rattle.cq_frac.proofs.Shifts.{anywhere}
use Rattle.cq_dict.specs.Roles.{is_live}
use Rattle.cq_tableau.proofs.Lights.{column_stands, stands_where}
use Rattle.cq_tableau.proofs.level.choosing.stands_in.Goals as goal

pub returns-then-not-is_row : goal.returns-then-not-is_row
returns-then-not-is_row c = column_stands c.args.dict.now.roles c.args.q c.args.c c.if-not-is_row.ensures

pub entry_at-requires : goal.entry_at-requires
entry_at-requires c =
    let r = c.if-not-is_row.ensures in
    record { row = subst (IsRowFrom everywhere 0) (sym (c.row.ensures.entries r.0 r.1)) (anywhere (is_live c.args.dict.now.roles) 0 r.0.live (c.requires.table.rows c.args.q r.0 r.1).live_row) }

pub returns : goal.returns
returns c =
    let r = c.if-not-is_row.ensures in
    stands_where c.args.dict.now.roles c.args.q c.args.c r.0 r.1 c.entry_at.result
    (subst (λ s. MatchOption c.entry_at.result (Lacks c.args.c s) (λ f. Has (record { quantity = c.args.c; factor = f }) s)) (c.row.ensures.entries r.0 r.1) c.entry_at.ensures)
    c.is_some.result c.is_some.ensures
