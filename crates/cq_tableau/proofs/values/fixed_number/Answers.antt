use Rattle.std.proofs.Common.{inl, inr, sym, ◌∙◌}
use Rattle.cq_dict.specs.declared.table.Role.TheVariants.{Dropped}
use Rattle.cq_dict.proofs.Roles.{role_dropped, dropped_at}
use Rattle.cq_tableau.specs.Values.{open_row, open_column, number_row, dropped_column}
use Rattle.cq_tableau.proofs.Fixed.{nothing_left, something_left}
use Rattle.cq_tableau.proofs.values.fixed_number.Goals as goal

pub returns-then-is_empty : goal.returns-then-is_empty
returns-then-is_empty c =
    let r = c.if-is_row.ensures in
    number_row r.0 r.1 (sym (c.row.ensures.entries r.0 r.1) ∙ nothing_left c.row.result.now (sym c.is_empty.ensures ∙ c.if-is_empty.true)) (c.constant.ensures r.0 r.1)

pub returns-then-is_row : goal.returns-then-is_row
returns-then-is_row c =
    let r = c.if-is_row.ensures in
    let m = something_left c.row.result.now (sym c.is_empty.ensures ∙ c.if-is_empty.false) in
    open_row r.0 m.0 m.1 r.1 (sym (c.row.ensures.entries r.0 r.1) ∙ m.2)

pub returns-then-is_dropped : goal.returns-then-is_dropped
returns-then-is_dropped c = dropped_column (role_dropped c.args.dict.now.roles c.args.n (sym c.is_dropped.ensures ∙ c.if-is_dropped.true)) c.zero.ensures

pub returns : goal.returns
returns c = elim c.if-is_row.ensures [
  | inl a ↦ open_column a
  | inr a ↦ let t = dropped_at c.args.dict.now.roles c.args.n Dropped a in let f = sym c.is_dropped.ensures ∙ c.if-is_dropped.false in absurd (let e = sym t ∙ f in cc)
]
