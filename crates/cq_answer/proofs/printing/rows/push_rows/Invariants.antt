use Rattle.std.proofs.Common.{◌≡◌, ◌++◌, map, take}
use Rattle.spec_answers.specs.Lines.{lines_text}
use Rattle.cq_answer.specs.Names.{name_among}
use Rattle.cq_answer.proofs.Joined.{equation_line, inequality_line, disequation_line}
use Rattle.cq_answer.proofs.printing.rows.push_rows.Given as goal

abbrev pub invariant-equations : goal.invariant-equations
invariant-equations l = l.out.items ≡ l.fn.out.items ++ lines_text (map (equation_line (name_among l.names)) (take l.equation-index l.equations))

abbrev pub invariant-inequalities : goal.invariant-inequalities
invariant-inequalities l =
    l.out.items
    ≡ (l.fn.out.items ++ lines_text (map (equation_line (name_among l.names)) l.equations)) ++ lines_text (map (inequality_line (name_among l.names)) (take l.inequality-index l.inequalities))

abbrev pub invariant-disequations : goal.invariant-disequations
invariant-disequations l =
    l.out.items
    ≡ ((l.fn.out.items ++ lines_text (map (equation_line (name_among l.names)) l.equations)) ++ lines_text (map (inequality_line (name_among l.names)) l.inequalities))
    ++ lines_text (map (disequation_line (name_among l.names)) (take l.disequation-index l.disequations))
