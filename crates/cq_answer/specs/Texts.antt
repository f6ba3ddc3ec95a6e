-- Coefficients, and the rows that are printed.
use Rattle.std.specs.Prelude.{[], ◌++◌, List, map, codes, if◌then◌else◌}
use Rattle.spec_numbers.specs.Rational.{ℚ, 1ℚ, neg_ℚ}
use Rattle.spec_numbers.specs.Texts.{Text}
use Rattle.spec_text.specs.Numbers.{number_text}
use Rattle.spec_answers.specs.RowText.{same_number}
use Rattle.spec_answers.specs.Rows.{Rows}
use Rattle.cq_elimination.specs.declared.arrange.PrintedRow.{PrintedRow}
use Rattle.cq_elimination.specs.Lines.{lines_of, inequality_of, disequation_of}
use Rattle.cq_equations.specs.declared.project.Equation.{Equation}
use Rattle.cq_equations.specs.Rows.{equations_of}

-- what stands before the name of a product's variable
abbrev pub coefficient_text : ℚ → Text
coefficient_text q = if same_number q 1ℚ then [] else if same_number q (neg_ℚ 1ℚ) then codes "-" else number_text q ++ codes "*"

-- the rows as an answer has them
abbrev pub printed_rows : List Equation → List PrintedRow → List PrintedRow → Rows
printed_rows equations inequalities disequations = record {
  equations = equations_of equations;
  inequalities = map inequality_of (lines_of inequalities);
  disequations = map disequation_of (lines_of disequations);
}
