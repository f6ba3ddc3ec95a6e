use Rattle.std.proofs.Common.{◌≤◌, length, arith, ap, ap₂, sym, ◌∙◌}
use Rattle.std.proofs.lemmas.List.{drop_all}
use Rattle.std.proofs.lemmas.Result.{IfOk-weaker}
use Rattle.spec_numbers.specs.Rational.{0ℚ, ◌+ℚ◌, ◌*ℚ◌}
use Rattle.spec_numbers.proofs.Sign.{one_not_zero}
use Rattle.spec_linear.specs.Form.{value_at}
use Rattle.spec_linear.proofs.Values.{value_at-variable_form}
use Rattle.cq_project.specs.Putting.{value_of, all_solved_by}
use Rattle.cq_project.proofs.echelon.putting.row_of.Goals as goal

pub new-requires : goal.new-requires
new-requires c = record { in_order = (omega arith, (λ z. one_not_zero (sym c.one.ensures ∙ z)), tt) }

pub returns : goal.returns
returns c =
    let whole : length c.args.rows.now ≤ c.rows.row-index = omega arith in
    IfOk-weaker c.new.result _ _
    (λ f e a.
    ap (value_at a) e ∙ ap₂ (λ p q. p +ℚ (q *ℚ a c.args.variable.0 +ℚ 0ℚ)) c.zero.ensures c.one.ensures ∙ value_at-variable_form a c.args.variable.0
    ∙ sym (c.rows.invariant a ∙ ap (λ rows. value_of (all_solved_by rows) a c.args.variable.0) (drop_all c.rows.row-index c.args.rows.now whole)))
    c.new.ensures
