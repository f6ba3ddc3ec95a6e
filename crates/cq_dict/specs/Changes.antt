-- New roles for some quantities, and what each role becomes.
use Rattle.std.specs.Prelude.{◌≡◌, ◌⊎◌, ◌↔◌, ℕ, ◌<◌, List, [], ◌∷◌, length, Bool}
use Rattle.spec_numbers.specs.Rational.{ℚ, 1ℚ, ◌+ℚ◌, ◌-ℚ◌, ◌*ℚ◌, ◌/ℚ◌}
use Rattle.cq_frac.specs.declared.Operation.{Operation}
use Rattle.cq_frac.specs.declared.Pair.{Pair}
use Rattle.cq_frac.specs.Refused.{Refuses, IsRefused}
use Rattle.cq_frac.specs.Row.{Row}
use Rattle.cq_frac.specs.Rows.{sum_at, Has, Lacks, unit, except}
use Rattle.cq_frac.specs.Numbers.{right_side, IsOver, also, ShiftPair, IsDivided, IsEntered, IsDropped, IsRestored}
use Rattle.cq_dict.specs.declared.table.Change.{Change}
use Rattle.cq_dict.specs.declared.table.Role.{Role}
use Rattle.cq_dict.specs.declared.table.Role.TheVariants.{Live, Dropped, Basic}
use Rattle.cq_dict.specs.declared.columns.Turn.{Turn}
use Rattle.cq_dict.specs.declared.columns.Turn.TheVariants.{Dropping, Restoring}
use Rattle.cq_dict.specs.Roles.{IsAt, AreOverColumns, IsMet, HasEntry, IsExchanged, IsEliminated, ChangesKind, is_live, is_dropped}

-- c is one of the changes
abbrev pub Changes : Change → List Change → Type 0
Changes c [] = ⊥
Changes c (d ∷ ds) = (c ≡ d) ⊎ Changes c ds

-- each change stands at a role that R lets become so, and each role below i without a change is one that R lets be
pub record Covers (R : ℕ → Role → Role → Type 0) (roles : List Role) (i : ℕ) (changes : List Change) : Type 0 where
  pub changed : (c : Change) → Changes c changes → (s : Role) × IsAt roles c.at s × R c.at s c.role
  pub kept : (j : ℕ) (s : Role) → j < i → IsAt roles j s → (R j s s) ⊎ ((c : Change) × Changes c changes × (c.at ≡ j))

-- each new role is a change, or it is the old one and no change stands there
pub record IsWritten (old : List Role) (changes : List Change) (new : List Role) : Type 0 where
  pub size : length new ≡ length old
  pub each : (j : ℕ) (t : Role) → IsAt new j t → ((c : Change) × Changes c changes × (c.at ≡ j) × (c.role ≡ t)) ⊎ (IsAt old j t × ((c : Change) → Changes c changes → c.at ≡ j → ⊥))

-- ---- an exchange: q is the leaving quantity's row by its entry in the column, and rate is 1 by that entry

-- another row after an exchange, with whatever entry it has in the column
pub record IsMoved (other : Row) (column : ℕ) (q : Row) (leaving : ℕ) (rate : ℚ) (r : Row) : Type 0 where
  pub over : (live dropped : ℕ → Bool) → IsOver live dropped other → IsOver live dropped q → IsOver (also leaving (except column live)) dropped r
  pub value : (x : ℕ → ℚ) → right_side x r ≡ (right_side x other -ℚ sum_at (unit column) other.live *ℚ right_side x q) +ℚ (sum_at (unit column) other.live *ℚ rate) *ℚ x leaving

-- with an entry that the row has in the column, an operation refuses the pair
abbrev pub RefusesShift : Row → ℕ → Row → ℚ → Pair → Type 0
RefusesShift other column q rate pair =
    (e : ℚ) × Has (record { quantity = column; factor = e }) other.live × ShiftPair other e q rate pair.operation pair.left pair.right × IsRefused pair

-- with whatever entry the row has in the column, no operation is refused
abbrev pub NoShiftPair : Row → ℕ → Row → ℚ → Type 0
NoShiftPair other column q rate = (e : ℚ) → Has (record { quantity = column; factor = e }) other.live → (o : Operation) (a b : ℚ) → ShiftPair other e q rate o a b → Refuses o a b → ⊥

-- what the role of number n becomes in an exchange
pub record Moved (leaving column : ℕ) (q : Row) (rate : ℚ) (n : ℕ) (s t : Role) : Type 0 where
  pub leaves : n ≡ leaving → t ≡ Live
  pub enters : (n ≡ leaving → ⊥) → n ≡ column → (e : Row) × (t ≡ Basic e) × IsEntered q column leaving rate e
  pub live : (n ≡ leaving → ⊥) → (n ≡ column → ⊥) → s ≡ Live → t ≡ Live
  pub dropped : (n ≡ leaving → ⊥) → (n ≡ column → ⊥) → s ≡ Dropped → t ≡ Dropped
  pub row : (n ≡ leaving → ⊥) → (n ≡ column → ⊥) → (o : Row) → s ≡ Basic o → (r : Row) × (t ≡ Basic r) × IsMoved o column q leaving rate r × NoShiftPair o column q rate

-- q is the row's by its entry in the column, and rate is 1 by that entry
pub record IsSolved (roles : List Role) (leaving column : ℕ) (q : Row) (rate : ℚ) : Type 0 where
  pub entry : HasEntry roles leaving column
  pub divided : IsDivided entry.own entry.factor q
  pub rate_is : rate ≡ 1ℚ /ℚ entry.factor

-- an exchange: the new roles are a table that the same assignments meet, the row a live column and the column a row
pub record Exchanges (roles : List Role) (row column : ℕ) (new : List Role) : Type 0 where
  pub table : AreOverColumns new
  pub same : (x : ℕ → ℚ) → IsMet x roles ↔ IsMet x new
  pub kinds : IsExchanged roles row column new

-- the changes are those of an exchange, for all roles
pub record AreMoved (roles : List Role) (row column : ℕ) (changes : List Change) : Type 0 where
  pub q : Row
  pub rate : ℚ
  pub solved : IsSolved roles row column q rate
  pub covers : Covers (Moved row column q rate) roles (length roles) changes

-- an exchange after which the row's quantity is dropped: the row a dropped column and the column a row
pub record Eliminates (roles : List Role) (row column : ℕ) (new : List Role) : Type 0 where
  pub table : AreOverColumns new
  pub same : (x : ℕ → ℚ) → IsMet x roles ↔ IsMet x new
  pub kinds : IsEliminated roles row column new

-- ---- a column that is dropped or restored

-- the column before, and after
abbrev pub had : Turn → List Role → ℕ → Bool
had Dropping roles = is_live roles
had Restoring roles = is_dropped roles

abbrev pub kind_of : Turn → Role
kind_of Dropping = Dropped
kind_of Restoring = Live

-- the row has no entry of the column on the other side
abbrev pub LacksOther : Turn → ℕ → Row → Type 0
LacksOther Dropping column row = Lacks column row.dropped
LacksOther Restoring column row = Lacks column row.live

-- what a row becomes
abbrev pub IsTurnedRow : Turn → ℕ → Row → Row → Type 0
IsTurnedRow Dropping column row r = IsDropped row column r
IsTurnedRow Restoring column row r = IsRestored row column r

-- what the role of number n becomes
pub record Turned (turn : Turn) (column : ℕ) (n : ℕ) (s t : Role) : Type 0 where
  pub own : n ≡ column → t ≡ kind_of turn
  pub live : (n ≡ column → ⊥) → s ≡ Live → t ≡ Live
  pub dropped : (n ≡ column → ⊥) → s ≡ Dropped → t ≡ Dropped
  pub row : (n ≡ column → ⊥) → (o : Row) → s ≡ Basic o → (r : Row) × (t ≡ Basic r) × IsTurnedRow turn column o r

-- each new change is what one of the old becomes at its place, and at the place of each old one there is a new one
pub record AreTurned (turn : Turn) (column : ℕ) (old new : List Change) : Type 0 where
  pub from : (c : Change) → Changes c new → (d : Change) × Changes d old × (d.at ≡ c.at) × Turned turn column d.at d.role c.role
  pub to : (d : Change) → Changes d old → (c : Change) × Changes c new × (c.at ≡ d.at)

-- the new roles are a table that the same assignments meet, and the column alone has changed its kind
pub record Turns (turn : Turn) (roles : List Role) (column : ℕ) (new : List Role) : Type 0 where
  pub table : AreOverColumns new
  pub same : (x : ℕ → ℚ) → IsMet x roles ↔ IsMet x new
  pub kinds : ChangesKind roles column (kind_of turn) new
