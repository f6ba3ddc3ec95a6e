use Rattle.std.proofs.Common.{◌≡◌, ◌∙◌, sym, ap, true, false}
use Rattle.spec_answers.specs.Rows.{equation_variables}
use Rattle.cq_equations.specs.Rows.{equations_of}
use Rattle.cq_answer.specs.Numbered.{has_variable}
use Rattle.cq_answer.specs.Standing.{line_variables}
use Rattle.cq_answer.proofs.Stands.{in_inequalities, in_disequations}
use Rattle.cq_answer.proofs.standing.stands_in.Goals as goal

pub returns-then-is_in_lines : goal.returns-then-is_in_lines
returns-then-is_in_lines c =
    let r = c.args.rows.now in
    let v = c.args.variable.0 in
    in_inequalities r v (sym c.if-is_in_lines.true ∙ c.is_in_lines.ensures ∙ ap (λ rs. has_variable (line_variables rs) v) c.deref-2.ensures.value)

pub returns : goal.returns
returns c =
    let r = c.args.rows.now in
    let v = c.args.variable.0 in
    c.is_in_lines-2.ensures ∙ ap (λ rs. has_variable (line_variables rs) v) c.deref-3.ensures.value
    ∙ in_disequations r v
    (sym c.if-is_in_equations.false ∙ c.is_in_equations.ensures ∙ ap (λ es. has_variable (equation_variables (equations_of es)) v) c.deref.ensures.value)
    (sym c.if-is_in_lines.false ∙ c.is_in_lines.ensures ∙ ap (λ rs. has_variable (line_variables rs) v) c.deref-2.ensures.value)
