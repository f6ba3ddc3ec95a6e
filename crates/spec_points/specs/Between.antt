-- Values between those of solutions. It helps to state laws.
use Rattle.std.specs.Prelude.{ℕ, List, ◌∷◌}
use Rattle.spec_numbers.specs.Rational.{ℚ, ◌<ℚ◌}
use Rattle.spec_linear.specs.Form.{Linear}
use Rattle.spec_linear.specs.Solution.{Constraint, Satisfies, Unsolvable, equal_to}
use Rattle.spec_linear.specs.Weak.{weak, not_zero}

-- two solutions, below the value and above it
pub record Inside (l : List Constraint) (x : ℕ) (q : ℚ) : Type 0 where
  pub low : ℕ → ℚ
  pub high : ℕ → ℚ
  pub low_solves : Satisfies low l
  pub high_solves : Satisfies high l
  pub less : low x <ℚ q
  pub more : q <ℚ high x

-- where x has the value, the weak list allows no value of f but zero
pub record Excludes (l : List Constraint) (x : ℕ) (f : Linear) (q : ℚ) : Type 0 where
  pub none : Unsolvable (not_zero f ∷ equal_to x q ∷ weak l)
