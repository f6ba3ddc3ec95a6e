use Rattle.std.proofs.Common.{List, sym, subst, ◌∙◌}
use Rattle.std.specs.Prelude.{MatchBool}
use Rattle.spec_simplex.specs.Tableau.{IsNothing, IsSomething}
use Rattle.spec_numbers.specs.Rational.{ℚ, 0ℚ}
use Rattle.std.specs.Prelude.{◌↔◌, ◌≡◌}
use Rattle.std.proofs.Common.{Bool, true}
use Rattle.cq_frac.specs.declared.row.Entry.{Entry}
use Rattle.cq_frac.specs.Rows.{IsRowFrom}
use Rattle.cq_dict.specs.Roles.{is_live, role_at}
use Rattle.cq_tableau.specs.Forms.{row_of}
use Rattle.cq_tableau.proofs.Fixed.{nothing_left, something_left}
use Rattle.cq_tableau.proofs.Zero.{by_number, something}
use Rattle.cq_store.proofs.asking.is_zero.Goals as goal

pub returns-then-is_empty : goal.returns-then-is_empty
returns-then-is_empty c =
    let r = c.requires in
    by_number c.args.dict.now.roles c.args.n r.0 r.1 (sym (c.row.ensures.entries r.0 r.1) ∙ nothing_left c.row.result.now (sym c.is_empty.ensures ∙ c.if-is_empty.true))
    c.is_zero.result (subst (λ (q : ℚ). (c.is_zero.result ≡ true) ↔ (q ≡ 0ℚ)) (c.constant.ensures r.0 r.1) c.is_zero.ensures)

pub returns-else-is_empty : goal.returns-else-is_empty
returns-else-is_empty c =
    let r = c.requires in
    let roles = c.args.dict.now.roles in
    let m = something_left c.row.result.now (sym c.is_empty.ensures ∙ c.if-is_empty.false) in
    subst (λ (b : Bool). MatchBool b (IsNothing (row_of c.args.n (role_at roles c.args.n))) (IsSomething (row_of c.args.n (role_at roles c.args.n)))) (sym c.if-is_empty.false)
    (something roles c.args.n r.0 r.1 m.0 m.1 (sym (c.row.ensures.entries r.0 r.1) ∙ m.2)
    (subst (λ (s : List Entry). IsRowFrom (is_live roles) 0 s) (c.row.ensures.entries r.0 r.1) c.row.ensures.columns))
