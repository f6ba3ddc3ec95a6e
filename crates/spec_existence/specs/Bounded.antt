-- States in which finitely many variables are numeric.
use Rattle.std.specs.Prelude.{◌≡◌, ℕ, ◌<◌, true}
use Rattle.spec_branch.specs.Branch.{State}

-- the numeric variables are below this number
abbrev pub NumericBelow : ℕ → State → Type 0
NumericBelow n st = (v : ℕ) → st.numeric v ≡ true → v < n

-- they are below some number
pub record IsBounded (st : State) : Type 0 where
  pub bound : ℕ
  pub below : NumericBelow bound st
