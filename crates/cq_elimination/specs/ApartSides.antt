-- Rows that bound a variable from a side from which no other does.
use Rattle.std.specs.Prelude.{ℕ, List}
use Rattle.spec_numbers.specs.Rational.{ℚ, neg_ℚ, IsPositive}
use Rattle.spec_linear.specs.Solution.{Constraint, Has}
use Rattle.spec_projection.specs.Elimination.{coefficient}
use Rattle.cq_elimination.specs.declared.apart.Side.{Side}
use Rattle.cq_elimination.specs.declared.apart.Side.TheVariants.{Below, Above}

-- a row with this coefficient of a variable bounds it from this side
abbrev pub IsOn : Side → ℚ → Type 0
IsOn Below k = IsPositive k
IsOn Above k = IsPositive (neg_ℚ k)

-- none of the rows bounds x from this side
abbrev pub NoneBounds : Side → ℕ → List Constraint → Type 0
NoneBounds side x l = (c : Constraint) → Has c l → IsOn side (coefficient x c) → ⊥

-- the row bounds a variable from a side from which none of the others does
pub record StandsApart (c : Constraint) (others : List Constraint) : Type 0 where
  pub variable : ℕ
  pub side : Side
  pub bounds : IsOn side (coefficient variable c)
  pub alone : NoneBounds side variable others
