-- What a pass over rows leaves beside what a store was told, and when a call of the store stops it.
use Rattle.std.specs.Prelude.{◌≡◌, ◌↔◌, ℕ, List, [], ◌∷◌, ◌++◌, IsPermutation}
use Rattle.spec_linear.specs.Solution.{Constraint, Has}
use Rattle.spec_projection.specs.Irredundant.{IsSublist, Sifts}
use Rattle.spec_simplex.specs.Asked.{NoQuestion}
use Rattle.cq_frac.specs.declared.Pair.{Pair}
use Rattle.cq_store.specs.StoreValue.{MayRefuse, MayTake, Only}

-- each has the other's members
abbrev pub HaveSameMembers : List Constraint → List Constraint → Type 0
HaveSameMembers k l = (c : Constraint) → Has c k ↔ Has c l

-- the rows that a pass keeps, in whatever way what the store was told is parted into rows kept before and others beside
abbrev pub SiftsBeside : List Constraint → List Constraint → List Constraint → Type 0
SiftsBeside told rows kept = (before beside : List Constraint) → HaveSameMembers (before ++ beside) told → Sifts beside before rows (before ++ kept)

-- rows that were kept before, and behind them those that a pass keeps of others
pub record SiftsBehind (told first rows kept : List Constraint) : Type 0 where
  pub rest : List Constraint
  pub sifts : SiftsBeside (told ++ first) rows rest
  pub kept_are : kept ≡ first ++ rest

-- the told list with some of the rows behind it, in some order
pub record IsToldWith (told rows l : List Constraint) : Type 0 where
  pub chosen : List Constraint
  pub sublist : IsSublist chosen rows
  pub some : List Constraint
  pub order : IsPermutation chosen some
  pub split : l ≡ told ++ some

-- a pair that is refused while a row is told or asked about, when the store was told some of the rows
pub data RefusesSifting (told rows : List Constraint) (pair : Pair) : Type 0 where
  telling : (l : List Constraint) (c : Constraint) → IsToldWith told rows l → IsToldWith told rows (l ++ c ∷ [])
      → MayRefuse l (Only c) NoQuestion pair → RefusesSifting told rows pair
  asking : (l : List Constraint) (c : Constraint) → IsToldWith told rows l → Has c rows
      → MayRefuse l NoQuestion (Only c) pair → RefusesSifting told rows pair

-- so many exchanges are made then, and another is due
pub data SpendsSifting (told rows : List Constraint) (n : ℕ) : Type 0 where
  telling : (l : List Constraint) (c : Constraint) → IsToldWith told rows l → IsToldWith told rows (l ++ c ∷ [])
      → MayTake l (Only c) NoQuestion n → SpendsSifting told rows n
  asking : (l : List Constraint) (c : Constraint) → IsToldWith told rows l → Has c rows
      → MayTake l NoQuestion (Only c) n → SpendsSifting told rows n
