-- What a look at one row tells of a dictionary's being feasible.
use Rattle.std.specs.Prelude.{◌≡◌, ℕ, Bool, true, false}
use Rattle.spec_numbers.specs.Rational.{0ℚ, IsNotNegative}
use Rattle.spec_simplex.specs.Dictionary.{Dictionary}

-- the row q, if it is a restricted one, has a constant not below zero, and no entry in a column that is not restricted
pub record IsRowFeasible (restricted : ℕ → Bool) (d : Dictionary) (q : ℕ) : Type 0 where
  pub constant : d.is_row q ≡ true → restricted q ≡ true → IsNotNegative (d.constant q)
  pub no_free_column : d.is_row q ≡ true → restricted q ≡ true → (c : ℕ) → d.is_column c ≡ true → restricted c ≡ false → d.entry q c ≡ 0ℚ
