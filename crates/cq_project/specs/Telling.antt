-- Stops while a store is told the rows of a list in their order.
use Rattle.std.specs.Prelude.{◌≡◌, ℕ, List, ◌∷◌, ◌++◌}
use Rattle.spec_linear.specs.Solution.{Constraint}
use Rattle.spec_simplex.specs.Asked.{NoQuestion}
use Rattle.cq_frac.specs.declared.Pair.{Pair}
use Rattle.cq_store.specs.StoreValue.{MayRefuse, MayTake, Only}

-- a pair that is refused while some row is told, when those in front of it are
pub record RefusesTelling (rows : List Constraint) (pair : Pair) : Type 0 where
  pub front : List Constraint
  pub row : Constraint
  pub back : List Constraint
  pub split : rows ≡ front ++ row ∷ back
  pub refuses : MayRefuse front (Only row) NoQuestion pair

-- so many exchanges are made then, and another is due
pub record SpendsTelling (rows : List Constraint) (n : ℕ) : Type 0 where
  pub front : List Constraint
  pub row : Constraint
  pub back : List Constraint
  pub split : rows ≡ front ++ row ∷ back
  pub spends : MayTake front (Only row) NoQuestion n
