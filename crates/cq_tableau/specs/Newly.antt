-- The variables that a told constraint gives a value.
use Rattle.std.specs.Prelude.{◌↔◌, ℕ, List}
use Rattle.spec_linear.specs.Solution.{Constraint, Has}
use Rattle.spec_linear.specs.Echelon.{AreDistinct}
use Rattle.spec_simplex.specs.Fixing.{NewlyFixed}

-- the variables, each once, that the longer list fixes and the shorter does not
pub record AreNewlyFixed (old new : List Constraint) (xs : List ℕ) : Type 0 where
  pub once : AreDistinct xs
  pub each : (x : ℕ) → Has x xs ↔ NewlyFixed old new x
