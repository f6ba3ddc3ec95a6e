-- Lists of rows of which none follows from the others, and the pass over a list that leaves such rows.
use Rattle.std.specs.Prelude.{◌≡◌, List, [], ◌∷◌, ◌++◌}
use Rattle.spec_linear.specs.Solution.{Constraint, Entails, Equivalent}

-- no row follows from the others together
abbrev pub IsIrredundant : List Constraint → Type 0
IsIrredundant l = (k m : List Constraint) (c : Constraint) → l ≡ k ++ c ∷ m → Entails (k ++ m) c → ⊥

-- some of the list's members, in its order
pub data IsSublist : List Constraint → List Constraint → Type 0 where
  empty : IsSublist [] []
  kept : {c : Constraint} {k l : List Constraint} → IsSublist k l → IsSublist (c ∷ k) (c ∷ l)
  left_out : {c : Constraint} {k l : List Constraint} → IsSublist k l → IsSublist k (c ∷ l)

-- some of the rows, with the solutions of all, of which none follows from the others
pub record IsIrredundantSublist (k l : List Constraint) : Type 0 where
  pub sublist : IsSublist k l
  pub same : Equivalent k l
  pub irredundant : IsIrredundant k

-- ---- one pass

-- no row of this part follows from the rest of it and all that is beside it
abbrev pub NoneFollows : List Constraint → List Constraint → Type 0
NoneFollows part beside =
    (k m : List Constraint) (c : Constraint) → part ≡ k ++ c ∷ m → Entails (k ++ m ++ beside) c → ⊥

-- The rows that are left are gone through in order. Each that follows from those kept, those left behind it and
-- those beside is dropped.
pub data Sifts (beside : List Constraint) : List Constraint → List Constraint → List Constraint → Type 0 where
  done : {kept : List Constraint} → Sifts beside kept [] kept
  dropped : {c : Constraint} {kept left final : List Constraint} → Entails (kept ++ left ++ beside) c
      → Sifts beside kept left final → Sifts beside kept (c ∷ left) final
  stays : {c : Constraint} {kept left final : List Constraint} → (Entails (kept ++ left ++ beside) c → ⊥)
      → Sifts beside (kept ++ c ∷ []) left final →
      Sifts beside kept (c ∷ left) final
