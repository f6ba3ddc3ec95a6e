-- How far a form reaches on the solutions of a list of constraints.
use Rattle.std.specs.Prelude.{List}
use Rattle.spec_numbers.specs.Rational.{ℚ, neg_ℚ, ◌<ℚ◌, ◌≤ℚ◌}
use Rattle.spec_linear.specs.Form.{Linear, value_at, negated_form}
use Rattle.spec_linear.specs.Solution.{Constraint, Point, number, Solves, Solvable, Holds}

-- some solution gives the form more than r
abbrev pub Exceeds : List Constraint → Linear → ℚ → Type 0
Exceeds l f r = (p : Point) × Solves p l × (r <ℚ value_at (number p) f)

-- no solution gives the form more than q, and some solution gives more than any number below q
pub record IsSupremum (l : List Constraint) (f : Linear) (q : ℚ) : Type 0 where
  pub solvable : Solvable l
  pub bound : (p : Point) → Solves p l → value_at (number p) f ≤ℚ q
  pub least : (r : ℚ) → r <ℚ q → Exceeds l f r

-- some solution gives the form more than any number
pub record IsUnbounded (l : List Constraint) (f : Linear) : Type 0 where
  pub solvable : Solvable l
  pub more : (r : ℚ) → Exceeds l f r

-- the infimum is the negated supremum of the negated form
abbrev pub IsInfimum : List Constraint → Linear → ℚ → Type 0
IsInfimum l f q = IsSupremum l (negated_form f) (neg_ℚ q)

-- some solution of the list breaks the constraint
pub record Leaves (l : List Constraint) (c : Constraint) : Type 0 where
  pub point : Point
  pub solves : Solves point l
  pub breaks : Holds point c → ⊥
