-- How many exchanges are enough for the calls on a list.
use Rattle.std.specs.Prelude.{ℕ, ◌+◌, ◌^◌, ◌≤◌, List, length}
use Rattle.spec_linear.specs.Solution.{Constraint}
use Rattle.spec_projection.specs.Projection.{inequalities_of}
use Rattle.spec_simplex.specs.Asked.{NoQuestion}
use Rattle.cq_store.specs.StoreValue.{MayTake, Only}

-- the number of the sets of the list's inequalities and one more
abbrev pub enough_for : List Constraint → ℕ
enough_for l = 2 ^ (length (inequalities_of l) + 1)

-- a call that may make so many exchanges or more doesn't stop for them: neither one that tells a constraint nor one that asks about one
pub record IsEnough (l : List Constraint) (n : ℕ) : Type 0 where
  pub told : (k : ℕ) → n ≤ k → (c : Constraint) → MayTake l (Only c) NoQuestion k → ⊥
  pub asked : (k : ℕ) → n ≤ k → (c : Constraint) → MayTake l NoQuestion (Only c) k → ⊥
