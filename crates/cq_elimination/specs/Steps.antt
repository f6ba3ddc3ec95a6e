-- The pairs of numbers that eliminating a variable meets.
use Rattle.std.specs.Prelude.{◌≡◌, ◌≢◌, ℕ, List}
use Rattle.spec_numbers.specs.Rational.{ℚ, 0ℚ}
use Rattle.spec_linear.specs.Form.{Linear, IsForm}
use Rattle.spec_linear.specs.Solution.{Constraint, Has}
use Rattle.spec_projection.specs.Elimination.{coefficient}
use Rattle.spec_simplex.specs.Overflow.{Moment, IsNumberOf}
use Rattle.cq_frac.specs.declared.Operation.TheVariants.{Quotient}
use Rattle.cq_frac.specs.declared.Pair.{Pair}
use Rattle.cq_frac.specs.Refused.{IsRefused}
use Rattle.cq_form.specs.Steps.{DifferencePair}

-- a number of the form by the divisor is refused
pub record IsQuotientOf (f : Linear) (k : ℚ) (pair : Pair) : Type 0 where
  pub number : IsNumberOf f pair.left
  pub divisor : pair.right ≡ k
  pub operation : pair.operation ≡ Quotient
  pub refused : IsRefused pair

-- a number of some row by its coefficient of x is refused
pub record DividesIn (x : ℕ) (l : List Constraint) (pair : Pair) : Type 0 where
  pub row : Constraint
  pub member : Has row l
  pub stands : coefficient x row ≢ 0ℚ
  pub quotient : IsQuotientOf row.form (coefficient x row) pair

-- at one place, the row's number less that of one of the others is refused
pub record CombinesWith (c : Constraint) (l : List Constraint) (pair : Pair) : Type 0 where
  pub row : Constraint
  pub member : Has row l
  pub own_form : IsForm c.form
  pub row_form : IsForm row.form
  pub pair_is : DifferencePair c.form row.form pair.operation pair.left pair.right
  pub refused : IsRefused pair

-- the same of some lower row with the upper ones
pub record CombinesIn (lower upper : List Constraint) (pair : Pair) : Type 0 where
  pub bound : Constraint
  pub member : Has bound lower
  pub combines : CombinesWith bound upper pair

-- the rows' forms are rows of the answer at the moment
abbrev pub AreRowsOf : Moment → List Constraint → Type 0
AreRowsOf m l = (c : Constraint) → Has c l → Has c.form m.rows
