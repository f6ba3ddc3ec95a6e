-- The rows of an answer.
use Rattle.std.specs.Prelude.{ℕ, List, ◌++◌, map}
use Rattle.spec_linear.specs.Solution.{Constraint}
use Rattle.spec_projection.specs.Others.{AreOthers, AreAscending}
use Rattle.spec_projection.specs.Projection.{Keeps}
use Rattle.spec_answers.specs.Forms.{AreAnswerRows}
use Rattle.spec_answers.specs.Rows as answer
use Rattle.cq_equations.specs.Told.{numbers_of}
use Rattle.cq_equations.specs.Rows.{equations_of}
use Rattle.cq_elimination.specs.Lines.{lines_of, inequality_of, disequation_of}
use Rattle.cq_project.specs.declared.Rows.{Rows}

-- the rows as an answer has them
abbrev pub rows_of : Rows → answer.Rows
rows_of r = record {
  equations = equations_of r.equations.items;
  inequalities = map inequality_of (lines_of r.inequalities.items);
  disequations = map disequation_of (lines_of r.disequations.items);
}

-- the rows that an answer prints of a list: the variables that are no targets are solved for, the youngest first, some of
-- them are kept, and the rows are in the form of an answer over the targets and those, the older first
pub record IsProjection (targets : List ℕ) (l : List Constraint) (r : Rows) : Type 0 where
  pub front : List ℕ
  pub others : AreOthers targets l front
  pub older_first : AreAscending (numbers_of r.kept.items)
  pub keeps : Keeps front targets (numbers_of r.kept.items) l (equations_of r.equations.items)
  pub form : AreAnswerRows (targets ++ numbers_of r.kept.items) l (rows_of r)
