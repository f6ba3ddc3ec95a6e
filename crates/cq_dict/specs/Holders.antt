-- For each column a list of rows, among which are those with an entry in it.
use Rattle.std.specs.Prelude.{◌≡◌, ◌⊎◌, ℕ, suc, ◌<◌, ◌≤◌, List, length, slice_get, Some}
use Rattle.std.specs.List.{Contains}
use Rattle.std.specs.List.Sorted.{IsStrictlyIncreasing}
use Rattle.cq_trail.specs.StackValue.{StackValue}
use Rattle.cq_trail.specs.TrailValue.{TrailValue}
use Rattle.cq_frac.specs.declared.row.Entry.{Entry}
use Rattle.cq_frac.specs.Row.{Row}
use Rattle.cq_frac.specs.Rows.{Has}
use Rattle.cq_dict.specs.declared.holders.Cell.{Cell}
use Rattle.cq_dict.specs.declared.table.Change.{Change}
use Rattle.cq_dict.specs.declared.table.Role.{Role}
use Rattle.cq_dict.specs.declared.table.Role.TheVariants.{Basic}
use Rattle.cq_dict.specs.Changes.{Changes}
use Rattle.cq_dict.specs.Roles.{IsAt}

-- the row has an entry in the column, live or dropped
abbrev pub Holds : Row → ℕ → Type 0
Holds own c = (m : Entry) × (Has m own.live ⊎ Has m own.dropped) × (m.quantity ≡ c)

-- the numbers, in ascending order: the column's own, and those of all rows that hold it
pub record AreTouched (roles : List Role) (column : ℕ) (rows : List ℕ) : Type 0 where
  pub within : (r : ℕ) → Contains rows r → r < length roles
  pub ascending : IsStrictlyIncreasing rows
  pub own : Contains rows column
  pub all : (r : ℕ) (row : Row) → IsAt roles r (Basic row) → Holds row column → Contains rows r

-- each new row holds columns alone that the row in its place holds
abbrev pub HoldsNoMore : List Role → List Change → Type 0
HoldsNoMore roles changes = (d : Change) (own : Row) (c : ℕ) → Changes d changes → d.role ≡ Basic own → Holds own c → (o : Row) × IsAt roles d.at (Basic o) × Holds o c

-- ---- lists of cells: a list is the number of its newest cell, counted from 1, or 0

-- r is on the list
pub data IsOn (cells : List Cell) : ℕ → ℕ → Type 0 where
  newest : (k : ℕ) (cell : Cell) → slice_get cells k ≡ Some cell → IsOn cells (suc k) cell.row
  older : (k : ℕ) (cell : Cell) (r : ℕ) → slice_get cells k ≡ Some cell → IsOn cells cell.older r → IsOn cells (suc k) r

-- r is on the list of the column c
abbrev pub IsListed : List ℕ → List Cell → ℕ → ℕ → Type 0
IsListed heads cells c r = (h : ℕ) × (slice_get heads c ≡ Some h) × IsOn cells h r

-- each list begins at a cell that is there, and goes on at an older one
pub record AreLists (heads : List ℕ) (cells : List Cell) : Type 0 where
  pub within : (c h : ℕ) → slice_get heads c ≡ Some h → h ≤ length cells
  pub back : (k : ℕ) (cell : Cell) → slice_get cells k ≡ Some cell → cell.older ≤ k

-- what was on a list is on it still, under the same marks
pub record Grows (h : TrailValue ℕ) (x : StackValue Cell) (h' : TrailValue ℕ) (x' : StackValue Cell) : Type 0 where
  pub size : length h'.now ≡ length h.now
  pub lists : AreLists h.now x.now → AreLists h'.now x'.now
  pub still : (c r : ℕ) → IsListed h.now x.now c r → IsListed h'.now x'.now c r
  pub heads_saved : h'.saved ≡ h.saved
  pub cells_saved : x'.saved ≡ x.saved
  pub heads_room : h.room ≤ h'.room
  pub cells_room : x.room ≤ x'.room

-- a list for each quantity, and each row is on the lists of its columns
pub record AreHeld (roles : List Role) (heads : List ℕ) (cells : List Cell) : Type 0 where
  pub size : length heads ≡ length roles
  pub lists : AreLists heads cells
  pub all : (r : ℕ) (row : Row) (c : ℕ) → IsAt roles r (Basic row) → Holds row c → IsListed heads cells c r

-- now, and at each of the marks
pub record AreHeldAtMarks (roles : List Role) (heads : List ℕ) (cells : List Cell) (ss : List (List Role)) (hs : List (List ℕ)) (xs : List (List Cell)) : Type 0 where
  pub now : AreHeld roles heads cells
  pub heads_together : length hs ≡ length ss
  pub cells_together : length xs ≡ length ss
  pub marks : (k : ℕ) (s : List Role) (h : List ℕ) (x : List Cell) → slice_get ss k ≡ Some s → slice_get hs k ≡ Some h → slice_get xs k ≡ Some x → AreHeld s h x
