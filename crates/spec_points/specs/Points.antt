-- The point of some rows: a value for each of their variables.
use Rattle.std.specs.Prelude.{◌≡◌, ℕ, ◌<◌, List, [], ◌∷◌, ◌++◌, filter, not, ◌==◌, ⊤}
use Rattle.std.specs.List.{AllByRecursion, list_any}
use Rattle.spec_numbers.specs.Rational.{ℚ}
use Rattle.spec_linear.specs.Form.{value_at}
use Rattle.spec_linear.specs.Solution.{Constraint, equal_to, Solvable, Unsolvable}
use Rattle.spec_linear.specs.Echelon.{Solved, equations, solved_variables}
use Rattle.spec_points.specs.Bounds.{Bounds, HasBounds, tried}

-- the list with the equation of a variable and a value
abbrev pub with_value : List Constraint → ℕ → ℚ → List Constraint
with_value l x q = l ++ equal_to x q ∷ []

-- the value at this place is tried: with none of the earlier ones has the list a solution
pub record IsTried (l : List Constraint) (x : ℕ) (b : Bounds) (place : ℕ) : Type 0 where
  pub has_bounds : HasBounds l x b
  pub earlier : (i : ℕ) → i < place → Unsolvable (with_value l x (tried b i))

-- the first of the tried values with which the list still has a solution
pub record IsChosen (l : List Constraint) (x : ℕ) (q : ℚ) : Type 0 where
  pub bounds : Bounds
  pub place : ℕ
  pub tries : IsTried l x bounds place
  pub value : q ≡ tried bounds place
  pub works : Solvable (with_value l x q)

-- variables get their values in order, each with those of the earlier ones put in
abbrev pub AreChosen : List Constraint → List ℕ → (ℕ → ℚ) → Type 0
AreChosen l [] v = ⊤
AreChosen l (x ∷ xs) v = IsChosen l x (v x) × AreChosen (with_value l x (v x)) xs v

-- the variables that no equation is solved for, in order
abbrev pub unsolved : List Solved → List ℕ → List ℕ
unsolved es order = filter (λ x. not (list_any (λ y. y == x) (solved_variables es))) order

-- The rows are solved equations and others. The variables that no equation is solved for get values in order, and the
-- others those of their equations.
pub record IsPoint (es : List Solved) (others : List Constraint) (order : List ℕ) (v : ℕ → ℚ) : Type 0 where
  pub chosen : AreChosen (equations es ++ others) (unsolved es order) v
  pub solved : AllByRecursion (λ e. v e.variable ≡ value_at v e.form) es
