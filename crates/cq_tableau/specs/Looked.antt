-- A second look at restricted quantities, where a constraint joins on a face.
use Rattle.std.specs.Prelude.{◌≡◌, ◌⊎◌, ℕ, List, Bool, true, length, Option, MatchOption}
use Rattle.spec_numbers.specs.Rational.{0ℚ, ◌<ℚ◌, IsPositive, IsNotNegative}
use Rattle.spec_linear.specs.Form.{Linear}
use Rattle.spec_linear.specs.declared.Relation.{Relation}
use Rattle.spec_linear.specs.declared.Relation.TheVariants.{Gt, Ne}
use Rattle.spec_linear.specs.Solution.{Constraint}
use Rattle.spec_simplex.specs.Reach.{Rises, IsFlat}
use Rattle.spec_simplex.specs.Tableau.{Within}
use Rattle.cq_frac.specs.declared.Pair.{Pair}
use Rattle.cq_frac.specs.Refused.{IsRefused}
use Rattle.cq_dict.specs.declared.table.Role.{Role}
use Rattle.cq_dict.specs.Roles.{IsRow, HasEntry, PivotPair, is_dropped, is_restricted, constant_at, factor_at}
use Rattle.cq_simplex.specs.declared.Aim.TheVariants.{Positive}
use Rattle.cq_simplex.specs.Answers.{AreSpent}
use Rattle.cq_tableau.specs.declared.names.Name.{Name}
use Rattle.cq_tableau.specs.declared.looking.Seen.{Seen}
use Rattle.cq_tableau.specs.declared.looking.Seen.TheVariants as of_seen
use Rattle.cq_tableau.specs.Forms.{form_at, tableau}
use Rattle.cq_tableau.specs.Keeps.{Speaks, StillSpeaks}
use Rattle.cq_tableau.specs.Stored.{IsMemberOf}

-- the quantities speak of some list
pub record SpeaksOfSome (roles : List Role) (flags : List Bool) : Type 0 where
  pub forms : List Linear
  pub list : List Constraint
  pub speaks : Speaks forms list roles flags

-- what was said is said still, and nothing is restored
pub record LooksOn (old new : List Role) (flags : List Bool) : Type 0 where
  pub size : length new ≡ length old
  pub speaks : StillSpeaks old new flags
  pub still : (c : ℕ) → is_dropped old c ≡ true → is_dropped new c ≡ true
  pub only : (c : ℕ) → is_dropped new c ≡ true → (is_restricted flags c ≡ true) ⊎ (is_dropped old c ≡ true)

-- ---- a column
-- a row that holds the column to zero
pub record Blocks (roles : List Role) (flags : List Bool) (c q : ℕ) : Type 0 where
  pub entry : HasEntry roles q c
  pub falls : entry.factor <ℚ 0ℚ
  pub flag : is_restricted flags q ≡ true
  pub low : IsPositive (constant_at roles q) → ⊥

-- a row that does not
abbrev pub LeavesRoom : List Role → List Bool → ℕ → ℕ → Type 0
LeavesRoom roles flags c q = IsRow roles q → is_restricted flags q ≡ true → IsPositive (constant_at roles q) ⊎ IsNotNegative (factor_at roles q c)

-- ---- one quantity
-- it is above zero somewhere
abbrev pub RisesStill : List Role → List Bool → ℕ → Type 0
RisesStill roles flags q = (forms : List Linear) (l : List Constraint) → Speaks forms l roles flags → Rises l (form_at forms q)

-- it is zero wherever the dropped columns are
abbrev pub IsFlatAt : List Linear → List Role → List Bool → ℕ → Type 0
IsFlatAt forms roles flags q = IsFlat (Within (tableau roles flags forms)) (form_at forms q)

abbrev pub IsFlatNow : List Role → List Role → List Bool → ℕ → Type 0
IsFlatNow old new flags q = (forms : List Linear) (l : List Constraint) → Speaks forms l old flags → IsFlatAt forms new flags q

abbrev pub IsSeen : List Role → List Role → List Bool → ℕ → Seen → Type 0
IsSeen old new flags q of_seen.Rises = RisesStill old flags q
IsSeen old new flags q of_seen.Flat = IsFlatNow old new flags q

-- an operation of an exchange refuses the pair, in roles that say what the old ones say
pub record RefusesLook (old : List Role) (flags : List Bool) (pair : Pair) : Type 0 where
  pub roles : List Role
  pub looks : LooksOn old roles flags
  pub row : ℕ
  pub column : ℕ
  pub made : PivotPair roles row column pair.operation pair.left pair.right
  pub refused : IsRefused pair

-- so many exchanges are made for a row of such roles, and another is due
pub record SpendsLook (old : List Role) (flags : List Bool) (n : ℕ) : Type 0 where
  pub roles : List Role
  pub looks : LooksOn old roles flags
  pub row : ℕ
  pub is_row : IsRow roles row
  pub flag : is_restricted flags row ≡ true
  pub last : List Role
  pub spent : AreSpent roles flags row Positive n last

-- ---- all quantities
abbrev pub IsStrict : Relation → Type 0
IsStrict r = r ≡ Gt

abbrev pub IsApart : Relation → Type 0
IsApart r = r ≡ Ne

-- each restricted quantity is above zero somewhere, or zero and not that of a strict member
abbrev pub StandsAt : List Constraint → List Name → List Linear → List Constraint → List Role → List Bool → ℕ → Type 0
StandsAt told names forms l roles flags q =
    Rises l (form_at forms q) ⊎ (IsFlatAt forms roles flags q × (IsMemberOf IsStrict told names q → ⊥))

abbrev pub AllStand : List Constraint → List Name → List Role → List Role → List Bool → Type 0
AllStand told names old new flags =
    (forms : List Linear) (l : List Constraint) → Speaks forms l old flags → (q : ℕ) → is_restricted flags q ≡ true → StandsAt told names forms l new flags q

-- a quantity that is zero everywhere, though that of a member with such a relation
pub record IsFallen (R : Relation → Type 0) (told : List Constraint) (names : List Name) (old new : List Role) (flags : List Bool) (q : ℕ) : Type 0 where
  pub member : IsMemberOf R told names q
  pub flat : IsFlatNow old new flags q

abbrev pub IsLooked : List Constraint → List Name → List Role → List Role → List Bool → Option ℕ → Type 0
IsLooked told names old new flags found = MatchOption found (AllStand told names old new flags) (IsFallen IsStrict told names old new flags)
