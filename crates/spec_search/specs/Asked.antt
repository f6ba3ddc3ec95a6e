-- What questions to the linear constraints are about: the values of the expression on the solutions. It helps to state laws.
use Rattle.std.specs.Prelude.{◌≡◌, List, Some}
use Rattle.spec_numbers.specs.Rational.{ℚ, ◌≤ℚ◌, ◌<ℚ◌}
use Rattle.spec_linear.specs.Solution.{Constraint, Point, number, Solves}
use Rattle.spec_syntax.specs.Trees.{Tree}
use Rattle.spec_branch.specs.Values.{value_of}

-- the expression has this value at some solution
pub record Takes (l : List Constraint) (e : Tree) (v : ℚ) : Type 0 where
  pub point : Point
  pub solves : Solves point l
  pub value : value_of (number point) e ≡ Some v

-- the expression has a value at each solution
abbrev pub IsValued : List Constraint → Tree → Type 0
IsValued l e = (p : Point) → Solves p l → (v : ℚ) × (value_of (number p) e ≡ Some v)

-- q is the least upper bound of the values
pub record IsLeastUpperBound (l : List Constraint) (e : Tree) (q : ℚ) : Type 0 where
  pub valued : IsValued l e
  pub bound : (v : ℚ) → Takes l e v → v ≤ℚ q
  pub least : (r : ℚ) → r <ℚ q → (v : ℚ) × Takes l e v × (r <ℚ v)

-- q is the greatest lower bound of the values
pub record IsGreatestLowerBound (l : List Constraint) (e : Tree) (q : ℚ) : Type 0 where
  pub valued : IsValued l e
  pub bound : (v : ℚ) → Takes l e v → q ≤ℚ v
  pub greatest : (r : ℚ) → q <ℚ r → (v : ℚ) × Takes l e v × (v <ℚ r)

-- each number is below some value
pub record HasNoUpperBound (l : List Constraint) (e : Tree) : Type 0 where
  pub valued : IsValued l e
  pub more : (r : ℚ) → (v : ℚ) × Takes l e v × (r <ℚ v)

-- each number is above some value
pub record HasNoLowerBound (l : List Constraint) (e : Tree) : Type 0 where
  pub valued : IsValued l e
  pub less : (r : ℚ) → (v : ℚ) × Takes l e v × (v <ℚ r)
