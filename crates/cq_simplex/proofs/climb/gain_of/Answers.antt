use Rattle.std.proofs.Common.{◌∙◌, ap, sym, subst}
use Rattle.spec_numbers.specs.Rational.{◌*ℚ◌, ◌/ℚ◌}
use Rattle.cq_frac.specs.Rows.{Has, IsRowFrom, everywhere}
use Rattle.cq_frac.proofs.Shifts.{anywhere}
use Rattle.cq_dict.specs.Roles.{is_live}
use Rattle.cq_dict.proofs.Roles.{found}
use Rattle.cq_simplex.proofs.Ratios.{not_zero_here, ratio_here}
use Rattle.cq_simplex.proofs.climb.gain_of.Goals as goal

pub row-requires : goal.row-requires
row-requires c = let r = found c.args.dict.now.roles c.args.limit c.requires.limits.row in (r.row, r.at)

pub entry_at-requires : goal.entry_at-requires
entry_at-requires c =
    let r = found c.args.dict.now.roles c.args.limit c.requires.limits.row in
    record { row = subst (IsRowFrom everywhere 0) (sym (c.row.ensures.entries r.row r.at)) (anywhere (is_live c.args.dict.now.roles) 0 r.row.live (c.requires.table.rows c.args.limit r.row r.at).live_row) }

pub constant-requires : goal.constant-requires
constant-requires c = let r = found c.args.dict.now.roles c.args.limit c.requires.limits.row in (r.row, r.at)

pub quotient-requires : goal.quotient-requires
quotient-requires c =
    let r = found c.args.dict.now.roles c.args.limit c.requires.limits.row in
    record {
      divisor = not_zero_here c.args.dict.now.roles c.args.dict.now.restricted c.requires.table 0 c.args.column c.args.limit r.row r.at c.in_ok-entry.entry
          (subst (Has (record { quantity = c.args.column; factor = c.in_ok-entry.entry })) (c.row.ensures.entries r.row r.at) c.in_ok-entry.ensures);
    }

pub returns : goal.returns
returns c =
    let r = found c.args.dict.now.roles c.args.limit c.requires.limits.row in
    let has = subst (Has (record { quantity = c.args.column; factor = c.in_ok-entry.entry })) (c.row.ensures.entries r.row r.at) c.in_ok-entry.ensures in
    c.in-Ok-product.ensures.0
    ∙ ap (λ z. c.args.factor *ℚ z)
    (c.neg.ensures
    ∙ ratio_here c.args.dict.now.roles c.args.dict.now.restricted c.requires.table 0 c.args.column c.args.limit r.row r.at c.in_ok-entry.entry has c.in-Ok.opposite
    (c.in-Ok.ensures.0 ∙ ap (λ z. z /ℚ c.in_ok-entry.entry) (c.constant.ensures r.row r.at)))
