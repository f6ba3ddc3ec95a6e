use Rattle.std.proofs.Common.{◌∙◌, sym, subst}
use Rattle.spec_numbers.specs.Rational.{IsPositive}
use Rattle.cq_frac.specs.Rows.{Has, Lacks, IsRowFrom, everywhere}
use Rattle.cq_frac.proofs.Shifts.{anywhere}
use Rattle.cq_dict.specs.Roles.{is_live}
use Rattle.cq_tableau.proofs.Looks.{column_leaves, unflagged_leaves, positive_leaves, lacking_leaves, entry_blocks}
use Rattle.cq_tableau.proofs.looking.blocks.Goals as goal

pub returns-then-not-is_row : goal.returns-then-not-is_row
returns-then-not-is_row c = column_leaves c.args.dict.now.roles c.args.dict.now.restricted c.args.c c.args.q c.if-not-is_row.ensures

pub returns-then-not-is_restricted : goal.returns-then-not-is_restricted
returns-then-not-is_restricted c =
    unflagged_leaves c.args.dict.now.roles c.args.dict.now.restricted c.args.c c.args.q (sym c.is_restricted.ensures ∙ c.if-not-is_restricted.true)

pub returns-then-is_positive : goal.returns-then-is_positive
returns-then-is_positive c =
    let r = c.if-not-is_row.ensures in
    positive_leaves c.args.dict.now.roles c.args.dict.now.restricted c.args.c c.args.q r.0 r.1
    (subst IsPositive (c.constant.ensures r.0 r.1) (c.is_positive.ensures.positive.0 c.if-is_positive.true))

pub entry_at-requires : goal.entry_at-requires
entry_at-requires c =
    let r = c.if-not-is_row.ensures in
    record { row = subst (IsRowFrom everywhere 0) (sym (c.row.ensures.entries r.0 r.1)) (anywhere (is_live c.args.dict.now.roles) 0 r.0.live (c.requires.table.rows c.args.q r.0 r.1).live_row) }

pub returns-in-Some : goal.returns-in-Some
returns-in-Some c =
    let r = c.if-not-is_row.ensures in
    entry_blocks c.args.dict.now.roles c.args.dict.now.restricted c.args.c c.args.q r.0 r.1 c.requires.table (sym c.is_restricted.ensures ∙ c.if-not-is_restricted.false)
    c.is_positive.result (λ p. c.is_positive.ensures.positive.1 (subst IsPositive (sym (c.constant.ensures r.0 r.1)) p)) c.if-is_positive.false
    c.in-Some.entry (subst (Has (record { quantity = c.args.c; factor = c.in-Some.entry })) (c.row.ensures.entries r.0 r.1) c.in-Some.ensures)
    c.is_negative.result c.is_negative.ensures.negative.0 c.is_negative.ensures.otherwise

pub returns-in-None : goal.returns-in-None
returns-in-None c =
    let r = c.if-not-is_row.ensures in
    lacking_leaves c.args.dict.now.roles c.args.dict.now.restricted c.args.c c.args.q r.0 r.1 (subst (Lacks c.args.c) (c.row.ensures.entries r.0 r.1) c.in-None.ensures)
