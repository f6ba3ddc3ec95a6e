-- What of a list is kept for its rows over some targets.
use Rattle.std.specs.Prelude.{◌≡◌, ℕ, List, [], ◌++◌, map}
use Rattle.spec_linear.specs.Solution.{Constraint, Solvable, MentionsOnly}
use Rattle.spec_linear.specs.Echelon.{Solved, AreDistinct, IsEchelon}
use Rattle.spec_projection.specs.Lists.{AreForms}
use Rattle.spec_projection.specs.Others.{AreAscending}
use Rattle.spec_projection.specs.Partial.{AreInequalities}
use Rattle.spec_projection.specs.Irredundant.{Sifts}
use Rattle.spec_projection.specs.Strict.{Strengthened}
use Rattle.spec_projection.specs.Substitution.{put_into}
use Rattle.spec_projection.specs.Projection.{inequalities_of, disequations_of}
use Rattle.spec_simplex.specs.Answers.{Solves, Leaves}
use Rattle.cq_equations.specs.Told.{numbers_of}
use Rattle.cq_equations.specs.Rows.{equations_of}
use Rattle.cq_elimination.specs.Next.{AreApart}
use Rattle.cq_elimination.specs.Scaling.{AreDisequations}
use Rattle.cq_project.specs.declared.keep.Kept.{Kept}
use Rattle.cq_project.specs.declared.keep.Substituted.{Substituted}
use Rattle.cq_project.specs.declared.keep.Left.{Left}

-- the equations are put into the list's inequalities and disequations
pub record ArePutIn (l : List Constraint) (s : Substituted) : Type 0 where
  pub inequalities : s.inequalities.items ≡ map (put_into (equations_of s.equations.items)) (inequalities_of l)
  pub disequations : s.disequations.items ≡ map (put_into (equations_of s.equations.items)) (disequations_of l)

-- the equations are all that the list entails, each solved for its first variable in the order, and are put into the others
pub record IsSubstituted (order : List ℕ) (l : List Constraint) (s : Substituted) : Type 0 where
  pub echelon : IsEchelon order l (equations_of s.equations.items)
  pub put_in : ArePutIn l s

-- the same where the order is that of an answer over the targets
pub record AreSubstituted (targets : List ℕ) (l : List Constraint) (s : Substituted) : Type 0 where
  pub solves : Solves targets l (equations_of s.equations.items)
  pub put_in : ArePutIn l s

-- weak rows with the form of a disequation are made strict, and disequations that follow are dropped
pub record AreLeft (s : Substituted) (left : Left) : Type 0 where
  pub strict : Strengthened s.disequations.items s.inequalities.items left.inequalities.items
  pub unequal : Sifts left.inequalities.items [] s.disequations.items left.disequations.items

-- these are the equations of the targets, the inequalities from which the rest is eliminated, the disequations that are
-- left and the variables that are kept beside the targets
pub record IsKept (targets : List ℕ) (l : List Constraint) (k : Kept) : Type 0 where
  pub es : List Solved
  pub leaves : Leaves targets l (numbers_of k.variables.items) es k.inequalities.items
  pub equations_are : leaves.solved_targets ≡ equations_of k.equations.items
  pub left : leaves.keeps.left ≡ k.disequations.items
  pub older_first : AreAscending (numbers_of k.variables.items)
  -- the list is of the targets and the others, each once
  pub forms : AreForms l
  pub distinct : AreDistinct (leaves.front ++ targets)
  pub all : MentionsOnly (leaves.front ++ targets) l
  -- inequalities and disequations hold together
  pub inequalities : AreInequalities k.inequalities.items
  pub disequations : AreDisequations k.disequations.items
  pub solvable : Solvable (k.inequalities.items ++ k.disequations.items)
  -- the inequalities are of the rest, the targets and the kept variables
  pub apart : AreApart (numbers_of k.rest.items) (targets ++ numbers_of k.variables.items)
  pub over : MentionsOnly (numbers_of k.rest.items ++ (targets ++ numbers_of k.variables.items)) k.inequalities.items
