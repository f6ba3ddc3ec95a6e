-- Weak rows that are equations in disguise, made equations.
use Rattle.std.specs.Prelude.{◌≡◌, ◌⊎◌, ℕ, List, [], ◌∷◌}
use Rattle.spec_linear.specs.declared.Relation.TheVariants.{Ge}
use Rattle.spec_linear.specs.Solution.{Constraint, Entails, Has, equal_zero}
use Rattle.spec_linear.specs.Extremes.{Leaves}
use Rattle.spec_simplex.specs.Asked.{NoQuestion}
use Rattle.cq_frac.specs.declared.Pair.{Pair}
use Rattle.cq_store.specs.StoreValue.{MayRefuse, MayTake, Only}

-- the second is the first, or its equation where the first is weak and the list entails that equation
abbrev pub IsDisclosed : List Constraint → Constraint → Constraint → Type 0
IsDisclosed told c d = ((c.relation ≡ Ge) × (d ≡ equal_zero c.form) × Entails told (equal_zero c.form))
    ⊎ ((d ≡ c) × (c.relation ≡ Ge → Leaves told (equal_zero c.form)))

-- each of the rows is so disclosed
pub data Discloses (told : List Constraint) : List Constraint → List Constraint → Type 0 where
  no_row : Discloses told [] []
  one_row : {c d : Constraint} {k l : List Constraint} → IsDisclosed told c d → Discloses told k l → Discloses told (c ∷ k) (d ∷ l)

-- ---- stops

-- a pair that is refused while it is asked whether the row is zero in every solution
abbrev pub RefusesDisclosing : List Constraint → Constraint → Pair → Type 0
RefusesDisclosing told c pair = MayRefuse told NoQuestion (Only (equal_zero c.form)) pair

-- so many exchanges are made then, and another is due
abbrev pub SpendsDisclosing : List Constraint → Constraint → ℕ → Type 0
SpendsDisclosing told c n = MayTake told NoQuestion (Only (equal_zero c.form)) n

-- the same of some row
pub record RefusesSome (rows : List Constraint) (pair : Pair) : Type 0 where
  pub row : Constraint
  pub member : Has row rows
  pub refuses : RefusesDisclosing rows row pair

pub record SpendsSome (rows : List Constraint) (n : ℕ) : Type 0 where
  pub row : Constraint
  pub member : Has row rows
  pub spends : SpendsDisclosing rows row n
