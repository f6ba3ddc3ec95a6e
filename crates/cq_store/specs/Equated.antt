-- An equation whose form is a row behind the quantities that have names.
use Rattle.std.specs.Prelude.{◌≡◌, ◌⊎◌, ℕ, List, [], ◌∷◌, ◌++◌, Bool, true, false, length, ◌+◌, Option, None, Some, MatchOption}
use Rattle.std.specs.List.{AllByRecursion}
use Rattle.spec_numbers.specs.Rational.{ℚ, 0ℚ, 1ℚ, neg_ℚ, ◌<ℚ◌}
use Rattle.spec_numbers.specs.Sums.{Mentions}
use Rattle.spec_linear.specs.Form.{Linear, IsForm, negated_form}
use Rattle.spec_linear.specs.Solution.{Constraint}
use Rattle.spec_linear.specs.Certificate.{IsAllowed}
use Rattle.spec_simplex.specs.Entries.{entries}
use Rattle.spec_simplex.specs.Reach.{Rises, IsGreatest}
use Rattle.spec_simplex.specs.Tableau.{HasFeasibleNumbers}
use Rattle.cq_form.specs.Entries.{products_of}
use Rattle.cq_frac.specs.declared.VarId.{VarId}
use Rattle.cq_frac.specs.declared.row.Entry.{Entry}
use Rattle.cq_frac.specs.Row.{Row}
use Rattle.cq_frac.specs.Rows.{Has, negated}
use Rattle.cq_dict.specs.declared.table.Role.{Role}
use Rattle.cq_dict.specs.declared.table.Role.TheVariants.{Basic}
use Rattle.cq_dict.specs.Roles.{Quantities, IsAt, IsRow, AreOverColumns, HasEntry, IsEliminated, is_dropped, is_restricted, constant_at}
use Rattle.cq_dict.specs.Dict.{SameMeaning}
use Rattle.cq_tableau.specs.declared.names.Name.{Name}
use Rattle.cq_tableau.specs.declared.names.Name.TheVariants.{Member}
use Rattle.cq_tableau.specs.Fixing.{AreFixedNow}
use Rattle.cq_tableau.specs.Forms.{tableau}
use Rattle.cq_tableau.specs.Keeps.{Keeps}
use Rattle.cq_tableau.specs.Looked.{AllStand, IsFallen, IsStrict, IsApart}
use Rattle.cq_tableau.specs.Numbered.{AreNumbered}
use Rattle.cq_tableau.specs.Raised.{HasNoFreeColumn}
use Rattle.cq_tableau.specs.Refuted.{number_in}
use Rattle.cq_tableau.specs.Restored.{AreFormEntries}
use Rattle.cq_tableau.specs.Stored.{IsKnown, IsMemberOf, IsStored, IsPlaced}
use Rattle.cq_tableau.specs.Values.{IsNumber}
use Rattle.cq_tableau.specs.Levelled.{HoldBelow, HoldAbove}
use Rattle.cq_store.specs.declared.equating.Approached.{Approached}
use Rattle.cq_store.specs.declared.equating.Approached.TheVariants.{Zero, Crossing, Below, Above}
use Rattle.cq_tableau.specs.Faced.{AllApart}

-- the constraint's form is the row of number q, behind what is stored for the told list
pub record IsRowBehind (told : List Constraint) (names : List Name) (c : Constraint) (roles : List Role) (flags : List Bool) (q : ℕ) : Type 0 where
  pub before : Quantities
  pub stored : IsStored told names before
  pub keeps : Keeps (stored.forms ++ c.form ∷ []) told roles flags
  pub flags_are : flags ≡ before.restricted ++ false ∷ []
  pub dropped : (z : ℕ) → is_dropped roles z ≡ true → is_dropped before.roles z ≡ true
  pub row : IsRow roles q
  pub last : q ≡ length before.roles
  pub knows : (x : ℕ) → Mentions x c.form.products → IsKnown names x

-- such a form has values above and below zero, and where it is zero the column may take its row's place
pub record Crosses (told : List Constraint) (names : List Name) (c : Constraint) (roles : List Role) (flags : List Bool) (q column : ℕ) : Type 0 where
  pub behind : IsRowBehind told names c roles flags q
  pub rises : Rises told c.form
  pub falls : Rises told (negated_form c.form)
  pub entry : HasEntry roles q column
  pub feasible : (new : List Role) → IsEliminated roles q column new → SameMeaning roles new → AreOverColumns new
      → HasFeasibleNumbers (tableau new flags (behind.stored.forms ++ c.form ∷ []))

-- such a form whose row is zero, with no unrestricted column, and with an entry in the column
pub record IsLevelRow (told : List Constraint) (names : List Name) (c : Constraint) (roles : List Role) (flags : List Bool) (q column : ℕ) : Type 0 where
  pub behind : IsRowBehind told names c roles flags q
  pub zero : constant_at roles q ≡ 0ℚ
  pub none : HasNoFreeColumn roles flags q
  pub entry : HasEntry roles q column

-- the row has no live entry
abbrev pub HasNoLiveEntry : List Role → ℕ → Type 0
HasNoLiveEntry roles q = (own : Row) → IsAt roles q (Basic own) → own.live ≡ []

-- each dropped column of the row is unrestricted, which is an equation's
abbrev pub IsOverEquations : List Role → List Bool → ℕ → Type 0
IsOverEquations roles flags q = (own : Row) → IsAt roles q (Basic own) → (m : Entry) → Has m own.dropped → is_restricted flags m.quantity ≡ false

-- a dropped column of the row that is restricted
pub record IsHeldBy (roles : List Role) (flags : List Bool) (q c : ℕ) : Type 0 where
  pub own : Row
  pub is_row : IsAt roles q (Basic own)
  pub entry : Entry
  pub has : Has entry own.dropped
  pub quantity : entry.quantity ≡ c
  pub flag : is_restricted flags c ≡ true

abbrev pub IsHeldColumn : List Role → List Bool → ℕ → Option ℕ → Type 0
IsHeldColumn roles flags q found = MatchOption found (IsOverEquations roles flags q) (IsHeldBy roles flags q)

-- what looks up the variables of the names looks up those of the new ones
abbrev pub StayNumbered : List Name → List Name → Type 0
StayNumbered names new_names = (entries : List (VarId × ℕ)) → AreNumbered names entries → AreNumbered new_names entries

-- the form is below zero at each solution of the weak list, of which this is its greatest value
pub record StaysBelow (told : List Constraint) (f : Linear) : Type 0 where
  pub value : ℚ
  pub greatest : IsGreatest told f value
  pub below : value <ℚ 0ℚ

-- such a form whose row is held below zero by its columns, or above
pub record IsShortBelow (told : List Constraint) (names : List Name) (c : Constraint) (roles : List Role) (flags : List Bool) (q : ℕ) : Type 0 where
  pub behind : IsRowBehind told names c roles flags q
  pub held : HoldBelow flags behind.row.0

pub record IsShortAbove (told : List Constraint) (names : List Name) (c : Constraint) (roles : List Role) (flags : List Bool) (q : ℕ) : Type 0 where
  pub behind : IsRowBehind told names c roles flags q
  pub held : HoldAbove flags behind.row.0

-- a constraint that is to join what is stored: its form over the quantities
pub record IsToJoin (told : List Constraint) (names : List Name) (c : Constraint) (q : Quantities) (places : List Entry) (constant : ℚ) : Type 0 where
  pub stored : IsStored told names q
  pub placed : IsPlaced names c.form.products places
  pub ordered : IsForm c.form
  pub constant_is : constant ≡ c.form.constant

-- some constraint is to join so
pub record IsToJoinSome (q : Quantities) (places : List Entry) (constant : ℚ) : Type 0 where
  pub told : List Constraint
  pub names : List Name
  pub constraint : Constraint
  pub joins : IsToJoin told names constraint q places constant

-- what holds of each constraint that is to join so
abbrev pub OfJoining : Quantities → List Entry → ℚ → (List Constraint → List Name → Constraint → Type 0) → Type 0
OfJoining q places constant P = (told : List Constraint) (names : List Name) (c : Constraint) → IsToJoin told names c q places constant → P told names c

-- where the row of such a form has come to
abbrev pub IsApproached : List Role → List Bool → Approached → List Constraint → List Name → Constraint → Type 0
IsApproached roles flags (Zero q) told names c = IsRowBehind told names c roles flags q × (constant_at roles q ≡ 0ℚ)
IsApproached roles flags (Crossing q column) told names c = Crosses told names c roles flags q column
IsApproached roles flags (Below q) told names c = IsShortBelow told names c roles flags q
IsApproached roles flags (Above q) told names c = IsShortAbove told names c roles flags q

-- the constraint of this number, taken -1 times, and the entries by which the negative of its form is held to its greatest value
pub record IsOppositeCertificate (names : List Name) (q : Quantities) (f : Linear) (number : ℕ) (cert : List (ℕ × ℚ)) : Type 0 where
  pub found : List (ℕ × ℚ)
  pub falls : AreFormEntries names q (negated_form f) found
  pub is : cert ≡ (number, neg_ℚ 1ℚ) ∷ found

-- the equation of this number, taken -1 times, with the members of the columns of the row with the other sign, of which those that are
-- dropped allow their multipliers
pub record IsOppositeRowCertificate (told : List Constraint) (names : List Name) (number : ℕ) (own : Row) (cert : List (ℕ × ℚ)) : Type 0 where
  pub allowed : AllByRecursion (IsAllowed told) (entries (number_in names) (products_of (negated own.dropped)))
  pub is : cert ≡ (number, neg_ℚ 1ℚ) ∷ entries (number_in names) (products_of (negated own.live)) ++ entries (number_in names) (products_of (negated own.dropped))

-- none has fallen, the quantity is named, the quantities are as they were, and these of the variables have a value
pub record IsConcluded (told : List Constraint) (names : List Name) (q : Quantities) (before : List VarId) (fallen : Option ℕ) (new_names : List Name) (new : Quantities)
    (fixed : List VarId) : Type 0 where
  pub none : fallen ≡ None
  pub named : new_names ≡ names ++ Member (length told + 1) ∷ []
  pub same : new ≡ q
  pub fixed_now : AreFixedNow new_names new before fixed

-- each member stands still, or this one has fallen
abbrev pub IsFound : List Constraint → List Name → List Role → List Role → List Bool → Option ℕ → Type 0
IsFound told names old new flags None = AllStand told names old new flags × AllApart told names new
IsFound told names old new flags (Some z) =
    IsFallen IsStrict told names old new flags z ⊎ (IsMemberOf IsApart told names z × IsNumber new z 0ℚ)
