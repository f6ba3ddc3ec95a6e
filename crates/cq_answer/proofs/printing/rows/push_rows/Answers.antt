use Rattle.std.proofs.Common.{◌≡◌, ◌<◌, ◌≤◌, ◌++◌, ◌∙◌, ap, length, take, map, arith}
use Rattle.std.proofs.lemmas.List.{take_all}
use Rattle.spec_answers.specs.Lines.{lines_text}
use Rattle.cq_answer.specs.Names.{name_among}
use Rattle.cq_answer.proofs.PrintingLines.{line_more}
use Rattle.cq_answer.proofs.Joined.{equation_line, inequality_line, disequation_line, rows_joined}
use Rattle.cq_answer.proofs.printing.rows.push_rows.Goals as goal

pub equations-preserved : goal.equations-preserved
equations-preserved c =
    let within : c.equations.equation-index < length c.args.equations.now = c.equations-test.true in
    line_more (equation_line (name_among c.args.names.now)) c.args.out.now.items c.args.equations.now c.equations.equation-index c.equation-item.result c.equations.out.items c.push_equation.new.out.items within
    c.equation-item.is c.equations.invariant c.in_ok-push_equation.ensures

pub inequalities-preserved : goal.inequalities-preserved
inequalities-preserved c =
    let name = name_among c.args.names.now in
    let before = c.args.out.now.items ++ lines_text (map (equation_line name) c.args.equations.now) in
    let within : c.inequalities.inequality-index < length c.args.inequalities.now = c.inequalities-test.true in
    line_more (inequality_line name) before c.args.inequalities.now c.inequalities.inequality-index c.inequality-item.result c.inequalities.out.items c.push_inequality.new.out.items within
    c.inequality-item.is c.inequalities.invariant c.in_ok-push_inequality.ensures

pub disequations-preserved : goal.disequations-preserved
disequations-preserved c =
    let name = name_among c.args.names.now in
    let before = (c.args.out.now.items ++ lines_text (map (equation_line name) c.args.equations.now)) ++ lines_text (map (inequality_line name) c.args.inequalities.now) in
    let within : c.disequations.disequation-index < length c.args.disequations.now = c.disequations-test.true in
    line_more (disequation_line name) before c.args.disequations.now c.disequations.disequation-index c.disequation-item.result c.disequations.out.items c.push_disequation.new.out.items within
    c.disequation-item.is c.disequations.invariant c.in_ok-push_disequation.ensures

pub returns : goal.returns
returns c =
    let name = name_among c.args.names.now in
    let before = (c.args.out.now.items ++ lines_text (map (equation_line name) c.args.equations.now)) ++ lines_text (map (inequality_line name) c.args.inequalities.now) in
    let end : length c.args.disequations.now ≤ c.disequations.disequation-index = c.disequations-test.false in
    rows_joined name c.args.out.now.items c.disequations.out.items c.args.equations.now c.args.inequalities.now c.args.disequations.now
    (c.disequations.invariant ∙ ap (λ ds. before ++ lines_text (map (disequation_line name) ds)) (take_all c.disequations.disequation-index c.args.disequations.now end))
