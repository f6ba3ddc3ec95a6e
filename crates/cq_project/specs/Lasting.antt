-- The last rows of a projection.
use Rattle.std.specs.Prelude.{◌≡◌, ℕ, List, [], ◌++◌}
use Rattle.spec_linear.specs.Solution.{Constraint, Solvable, MentionsOnly}
use Rattle.spec_linear.specs.Echelon.{Solved}
use Rattle.spec_projection.specs.Partial.{AreInequalities, IsPartial}
use Rattle.spec_projection.specs.Irredundant.{Sifts}
use Rattle.spec_projection.specs.Strict.{Strengthened}
use Rattle.spec_simplex.specs.Answers.{Leaves}
use Rattle.cq_elimination.specs.Scaling.{AreDisequations}
use Rattle.cq_project.specs.Eliminating.{AreOver}
use Rattle.cq_project.specs.declared.last.LastRows.{LastRows}

-- inequalities and disequations that hold together; of the rest, only the inequalities are
pub record Stands (rest : List ℕ) (inequalities disequations : List Constraint) : Type 0 where
  pub ordered : AreInequalities inequalities
  pub unequal : AreDisequations disequations
  pub solvable : Solvable (inequalities ++ disequations)
  pub others : List ℕ
  pub over : AreOver others rest inequalities
  pub only : MentionsOnly others disequations

-- the inequalities are those from which the rest is eliminated once some variables are kept beside the targets, and the
-- disequations those that are left then
pub record AreLeft (targets kept rest : List ℕ) (l inequalities disequations : List Constraint) : Type 0 where
  pub es : List Solved
  pub leaves : Leaves targets l kept es inequalities
  pub left : leaves.keeps.left ≡ disequations
  pub over : AreOver (targets ++ kept) rest inequalities

-- the rest is eliminated, weak rows with the form of a disequation are made strict, and disequations and then inequalities
-- that follow are dropped
pub record AreLast (order : List ℕ) (inequalities disequations : List Constraint) (rows : LastRows) : Type 0 where
  pub remaining : List Constraint
  pub partial : IsPartial order inequalities remaining
  pub over : MentionsOnly order remaining
  pub strict : List Constraint
  pub strengthened : Strengthened disequations remaining strict
  pub unequal : Sifts strict [] disequations rows.disequations.items
  pub last : Sifts rows.disequations.items [] strict rows.inequalities.items
