-- Of which rows a point is asked.
use Rattle.std.specs.Prelude.{ℕ, List, ◌++◌}
use Rattle.spec_linear.specs.Solution.{Constraint, MentionsOnly, Solvable}
use Rattle.spec_linear.specs.Echelon.{Solved, equations, AreDistinct}
use Rattle.spec_projection.specs.Substitution.{AreReduced, AreFreeOf}

-- The rows have a solution and mention the variables of the order alone, each of which stands there once. No variable that
-- an equation is solved for stands in another row. So it is with the rows of an answer.
pub record AreSolvedRows (order : List ℕ) (es : List Solved) (others : List Constraint) : Type 0 where
  pub distinct : AreDistinct order
  pub over : MentionsOnly order (equations es ++ others)
  pub reduced : AreReduced es
  pub free : AreFreeOf es others
  pub solvable : Solvable (equations es ++ others)
