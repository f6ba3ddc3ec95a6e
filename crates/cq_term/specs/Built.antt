-- What a heap's cells were built as.
use Rattle.std.specs.Prelude.{ℕ, List}
use Rattle.spec_numbers.specs.Rational.{ℚ}

-- a variable, a number, a name, or a name over the ids of terms that were built before
pub data Built : Type 0 where
  Var : ℕ → Built
  Number : ℚ → Built
  Name : ℕ → Built
  Compound : ℕ → List ℕ → Built
