-- The face where the form of a new inequality is zero.
use Rattle.std.specs.Prelude.{◌≡◌, ◌⊎◌, ℕ, ◌<◌, List, [], ◌∷◌, ◌++◌, Bool, true, false, length, slice_index, slice_set, Option, None, Some, MatchBool}
use Rattle.spec_numbers.specs.Rational.{ℚ, 0ℚ, IsPositive}
use Rattle.spec_linear.specs.Form.{Linear}
use Rattle.spec_linear.specs.Solution.{Constraint}
use Rattle.spec_linear.specs.Weak.{at_least_zero}
use Rattle.cq_frac.specs.declared.Pair.{Pair}
use Rattle.cq_frac.specs.declared.row.Entry.{Entry}
use Rattle.cq_frac.specs.Row.{Row}
use Rattle.cq_frac.specs.Rows.{Has, negated}
use Rattle.cq_dict.specs.declared.table.Role.{Role}
use Rattle.cq_dict.specs.declared.table.Role.TheVariants.{Basic}
use Rattle.cq_dict.specs.Roles.{Quantities, IsAt, is_live, is_dropped, is_restricted}
use Rattle.cq_tableau.specs.declared.names.Name.{Name}
use Rattle.cq_tableau.specs.Forms.{form_at}
use Rattle.cq_tableau.specs.Keeps.{Keeps, Speaks}
use Rattle.cq_tableau.specs.Looked.{IsFlatAt, StandsAt, IsStrict, IsApart, RefusesLook, SpendsLook}
use Rattle.cq_tableau.specs.Stored.{IsKnown, IsMemberOf, IsStored}
use Rattle.spec_numbers.specs.Sums.{Mentions}
use Rattle.spec_linear.specs.declared.Relation.TheVariants.{Ge}
use Rattle.cq_tableau.specs.Values.{IsNumber, IsOpen}

-- the quantities keep the invariant for some list
pub record KeepsSome (roles : List Role) (flags : List Bool) : Type 0 where
  pub forms : List Linear
  pub list : List Constraint
  pub keeps : Keeps forms list roles flags

-- the row's constant is its greatest value, zero, with these multipliers of its columns, which are restricted
pub record IsFace (roles : List Role) (flags : List Bool) (q : ℕ) (columns : List Entry) : Type 0 where
  pub own : Row
  pub is_row : IsAt roles q (Basic own)
  pub constant : own.constant ≡ 0ℚ
  pub entries : columns ≡ negated own.live
  pub positive : (m : Entry) → Has m columns → IsPositive m.factor
  pub live : (m : Entry) → Has m columns → is_live roles m.quantity ≡ true
  pub restricted : (m : Entry) → Has m columns → is_restricted flags m.quantity ≡ true

-- the row's quantity is held to zero as a restricted one
pub record HoldsAtZero (q : ℕ) (old : List Role) (flags : List Bool) (new : List Role) (new_flags : List Bool) : Type 0 where
  pub same_flags : new_flags ≡ slice_set flags q true
  pub size : length new ≡ length old
  pub speaks : (forms : List Linear) (l : List Constraint) → Keeps forms l old flags → Speaks forms (at_least_zero (form_at forms q) ∷ l) new new_flags
  pub flat : (forms : List Linear) (l : List Constraint) → Keeps forms l old flags → IsFlatAt forms new new_flags q
  pub still : (c : ℕ) → is_dropped old c ≡ true → is_dropped new c ≡ true
  pub only : (c : ℕ) → is_dropped new c ≡ true → (is_restricted new_flags c ≡ true) ⊎ (is_dropped old c ≡ true)

-- ---- disequations
-- the quantity is not zero everywhere
abbrev pub IsNotZero : List Role → ℕ → Type 0
IsNotZero roles n = IsOpen roles n ⊎ ((v : ℚ) × IsNumber roles n v × (v ≡ 0ℚ → ⊥))

-- what a test for zero tells
abbrev pub IsZeroNow : List Role → ℕ → Bool → Type 0
IsZeroNow roles n b = MatchBool b (IsNumber roles n 0ℚ) (IsNotZero roles n)

-- those of disequations are not zero everywhere
abbrev pub AllApart : List Constraint → List Name → List Role → Type 0
AllApart told names roles = (q : ℕ) → q < length roles → IsMemberOf IsApart told names q → IsNotZero roles q

-- those of disequations, of the quantities of these numbers, are not zero everywhere
abbrev pub AllApartAmong : List ℕ → List Constraint → List Name → List Role → Type 0
AllApartAmong rows told names roles =
    (k : ℕ) → k < length rows → IsMemberOf IsApart told names (slice_index rows k) → IsNotZero roles (slice_index rows k)

-- one of them is zero everywhere
abbrev pub IsFallenApart : List Constraint → List Name → List Role → ℕ → Type 0
IsFallenApart told names roles q = IsMemberOf IsApart told names q × IsNumber roles q 0ℚ

-- ---- what was found
-- each member stands where the form is zero
pub record AllHold (told : List Constraint) (names : List Name) (q : ℕ) (old : List Role) (flags : List Bool) (new : List Role)
    (new_flags : List Bool) : Type 0 where
  pub stand : (forms : List Linear) (l : List Constraint) → Keeps forms l old flags → (z : ℕ) → is_restricted new_flags z ≡ true
      → StandsAt told names forms (at_least_zero (form_at forms q) ∷ l) new new_flags z
  pub apart : AllApart told names new

-- a strict member's form, or a disequation's, is zero there
pub data HasFallen (told : List Constraint) (names : List Name) (old : List Role) (flags : List Bool) (new : List Role)
    (new_flags : List Bool) (z : ℕ) : Type 0 where
  strict_fallen : IsMemberOf IsStrict told names z → ((forms : List Linear) (l : List Constraint) → Keeps forms l old flags → IsFlatAt forms new new_flags z)
      → HasFallen told names old flags new new_flags z
  apart_fallen : IsMemberOf IsApart told names z → IsNumber new z 0ℚ → HasFallen told names old flags new new_flags z

-- each stands, or this one has fallen
abbrev pub IsFaced : List Constraint → List Name → ℕ → List Role → List Bool → List Role → List Bool → Option ℕ → Type 0
IsFaced told names q old flags new new_flags None = AllHold told names q old flags new new_flags
IsFaced told names q old flags new new_flags (Some z) = HasFallen told names old flags new new_flags z

-- ---- refusals
-- an operation of the second look refuses the pair
pub record RefusesFace (q : ℕ) (old : List Role) (flags : List Bool) (pair : Pair) : Type 0 where
  pub roles : List Role
  pub new_flags : List Bool
  pub holds : HoldsAtZero q old flags roles new_flags
  pub refuses : RefusesLook roles new_flags pair

-- so many exchanges are made in the second look, and another is due
pub record SpendsFace (q : ℕ) (old : List Role) (flags : List Bool) (n : ℕ) : Type 0 where
  pub roles : List Role
  pub new_flags : List Bool
  pub holds : HoldsAtZero q old flags roles new_flags
  pub spends : SpendsLook roles new_flags n

-- ---- a constraint of which the form is a row of the greatest value zero
pub record IsOnFace (told : List Constraint) (names : List Name) (c : Constraint) (roles : List Role) (flags : List Bool) (q : ℕ)
    (columns : List Entry) : Type 0 where
  pub before : Quantities
  pub stored : IsStored told names before
  pub keeps : Keeps (stored.forms ++ c.form ∷ []) told roles flags
  pub flags_are : flags ≡ before.restricted ++ false ∷ []
  pub dropped : (z : ℕ) → is_dropped roles z ≡ true → is_dropped before.roles z ≡ true
  pub last : q ≡ length before.roles
  pub weak : c.relation ≡ Ge
  pub knows : (x : ℕ) → Mentions x c.form.products → IsKnown names x
  pub face : IsFace roles flags q columns
