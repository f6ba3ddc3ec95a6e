use Rattle.std.proofs.Common.{◌≡◌, ◌∙◌, true, false, arith, ap, sym, subst}
use Rattle.spec_numbers.specs.Rational.{0ℚ, ◌<ℚ◌, ◌/ℚ◌}
use Rattle.cq_frac.specs.declared.Operation.TheVariants.{Quotient}
use Rattle.cq_frac.specs.Refused.{Tells}
use Rattle.cq_frac.specs.Rows.{Has, Lacks, IsRowFrom, everywhere}
use Rattle.cq_frac.proofs.Shifts.{anywhere}
use Rattle.cq_dict.specs.Roles.{is_live, is_restricted}
use Rattle.cq_simplex.proofs.Ratios.{none_past, column_no_limit, lacks_no_limit, rising_no_limit, not_zero_here, limits_here, ratio_here, refused_here}
use Rattle.cq_simplex.proofs.Exits.{pair_kept}
use Rattle.cq_simplex.proofs.leaving.ratio_of.Goals as goal
use Rattle.cq_simplex.proofs.leaving.ratio_of.Goals.{then-not-is_row-via-then-not-is_row, then-not-is_row-via-else-not-is_row+then-not-is_restricted}

pub returns-then-row-count-clause-value : goal.returns-then-row-count-clause-value
returns-then-row-count-clause-value c = λ asked.
    none_past c.args.dict.now.roles (is_restricted c.args.dict.now.restricted) asked c.args.column c.args.row (omega (arith, c.if-row-count.true, c.count.ensures.value))

pub returns-then-not-is_row-clause-value : goal.returns-then-not-is_row-clause-value
returns-then-not-is_row-clause-value c = λ asked h.
    elim c.then-not-is_row.branch [
      | then-not-is_row-via-then-not-is_row w ↦ column_no_limit c.args.dict.now.roles (is_restricted c.args.dict.now.restricted) asked c.args.column c.args.row w.if-not-is_row.ensures h
      | then-not-is_row-via-else-not-is_row+then-not-is_restricted w ↦
          let f : is_restricted c.args.dict.now.restricted c.args.row ≡ false = sym w.is_restricted.ensures ∙ w.if-not-is_restricted.true in
          let g = h.flag in
          cc
    ]

pub entry_at-requires : goal.entry_at-requires
entry_at-requires c =
    let r = c.if-not-is_row.ensures in
    record { row = subst (IsRowFrom everywhere 0) (sym (c.row.ensures.entries r.0 r.1)) (anywhere (is_live c.args.dict.now.roles) 0 r.0.live (c.requires.table.rows c.args.row r.0 r.1).live_row) }

pub returns-in_default-clause-value : goal.returns-in_default-clause-value
returns-in_default-clause-value c = λ asked.
    let r = c.if-not-is_row.ensures in
    lacks_no_limit c.args.dict.now.roles c.args.dict.now.restricted c.requires.table asked c.args.column c.args.row r.0 r.1
    (subst (Lacks c.args.column) (c.row.ensures.entries r.0 r.1) c.in_default.ensures)

pub returns-then-not-is_negative-clause-value : goal.returns-then-not-is_negative-clause-value
returns-then-not-is_negative-clause-value c = λ asked.
    let r = c.if-not-is_row.ensures in
    rising_no_limit c.args.dict.now.roles c.args.dict.now.restricted c.requires.table asked c.args.column c.args.row r.0 r.1 c.in-Some.entry
    (subst (Has (record { quantity = c.args.column; factor = c.in-Some.entry })) (c.row.ensures.entries r.0 r.1) c.in-Some.ensures) c.if-not-is_negative.ensures.otherwise

pub quotient-requires : goal.quotient-requires
quotient-requires c =
    let r = c.if-not-is_row.ensures in
    record {
      divisor = not_zero_here c.args.dict.now.roles c.args.dict.now.restricted c.requires.table 0 c.args.column c.args.row r.0 r.1 c.in-Some.entry
          (subst (Has (record { quantity = c.args.column; factor = c.in-Some.entry })) (c.row.ensures.entries r.0 r.1) c.in-Some.ensures);
    }

pub returns-in_err-opposite-clause-overflow : goal.returns-in_err-opposite-clause-overflow
returns-in_err-opposite-clause-overflow c = λ pair e asked.
    let r = c.if-not-is_row.ensures in
    let f : is_restricted c.args.dict.now.restricted c.args.row ≡ true = sym c.is_restricted.ensures ∙ c.if-not-is_restricted.false in
    let n : c.in-Some.entry <ℚ 0ℚ = c.is_negative.ensures.negative.0 c.if-not-is_negative.false in
    refused_here c.args.dict.now.roles c.args.dict.now.restricted c.requires.table asked c.args.column c.args.row r.0 r.1 c.in-Some.entry
    (subst (Has (record { quantity = c.args.column; factor = c.in-Some.entry })) (c.row.ensures.entries r.0 r.1) c.in-Some.ensures)
    c.constant.result (c.constant.ensures r.0 r.1) pair (subst (Tells Quotient c.constant.result c.in-Some.entry) (pair_kept _ _ pair c.from_residual.ensures.1 e) c.in_err-opposite.ensures) f n

pub returns-clause-value : goal.returns-clause-value
returns-clause-value c = λ asked.
    let r = c.if-not-is_row.ensures in
    let s = c.args.dict.now.roles in
    let g = c.args.dict.now.restricted in
    let f : is_restricted g c.args.row ≡ true = sym c.is_restricted.ensures ∙ c.if-not-is_restricted.false in
    let n : c.in-Some.entry <ℚ 0ℚ = c.is_negative.ensures.negative.0 c.if-not-is_negative.false in
    let h = subst (Has (record { quantity = c.args.column; factor = c.in-Some.entry })) (c.row.ensures.entries r.0 r.1) c.in-Some.ensures in (
      limits_here s g c.requires.table asked c.args.column c.args.row r.0 r.1 c.in-Some.entry h f n,
      c.neg.ensures ∙ ratio_here s g c.requires.table asked c.args.column c.args.row r.0 r.1 c.in-Some.entry h c.in_ok-opposite.opposite (c.in_ok-opposite.ensures.0 ∙ ap (λ z. z /ℚ c.in-Some.entry) (c.constant.ensures r.0 r.1)),
    )
