-- Stops of a pass over rows beside others.
use Rattle.std.specs.Prelude.{ℕ, List}
use Rattle.spec_linear.specs.Solution.{Constraint}
use Rattle.cq_frac.specs.declared.Pair.{Pair}
use Rattle.cq_project.specs.Telling.{RefusesTelling, SpendsTelling}
use Rattle.cq_project.specs.Sifting.{RefusesSifting, SpendsSifting}

-- a pair that is refused while a store is told those beside, or while the rows are gone through
pub data RefusesPass (beside rows : List Constraint) (pair : Pair) : Type 0 where
  while_telling : RefusesTelling beside pair → RefusesPass beside rows pair
  while_sifting : RefusesSifting beside rows pair → RefusesPass beside rows pair

-- so many exchanges are made then, and another is due
pub data SpendsPass (beside rows : List Constraint) (n : ℕ) : Type 0 where
  while_telling : SpendsTelling beside n → SpendsPass beside rows n
  while_sifting : SpendsSifting beside rows n → SpendsPass beside rows n
