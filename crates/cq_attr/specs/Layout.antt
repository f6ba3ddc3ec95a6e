-- How attributes are kept: notes that variables are numeric, notes of what waits for them, and the slots by number.
use Rattle.std.specs.Prelude.{◌≡◌, ℕ, suc, ◌<◌, ◌==◌, List, [], ◌∷◌, map, length, All, true, Option, None, Some, slice_get, if◌then◌else◌}
use Rattle.std.specs.List.{filter_map, zip}
use Rattle.cq_trail.specs.Counting.{counted, countable}
use Rattle.cq_trail.specs.TrailValue.{TrailValue}
use Rattle.cq_attr.specs.NotesValue.{NotesValue}
use Rattle.cq_attr.specs.Attributes.{Waiting, Attributes, AttrsValue}
use Rattle.cq_attr.specs.declared.susp.Slot.{Slot}

abbrev pub NumericNotes : Type 0
NumericNotes = List (ℕ × Unit {0})

-- variables with the numbers of what waits for them
abbrev pub Watchers : Type 0
Watchers = List (ℕ × ℕ)

abbrev pub watcher_of : ℕ → ℕ × ℕ → Option ℕ
watcher_of n w = if w.1 == n then Some w.0 else None

-- the variables that the number waits for
abbrev pub watched_by : ℕ → Watchers → List ℕ
watched_by n ws = filter_map (watcher_of n) ws

abbrev pub waiting_at : ℕ → Slot → Watchers → Waiting
waiting_at n s ws = record { number = n; watched = watched_by n ws; susp = s.susp }

-- what waits in the slots, of which the first has this number
abbrev pub waiting_from : ℕ → List Slot → Watchers → List Waiting
waiting_from n [] ws = []
waiting_from n (s ∷ ss) ws = if s.waits then waiting_at n s ws ∷ waiting_from (suc n) ss ws else waiting_from (suc n) ss ws

abbrev pub attributes_of : NumericNotes → Watchers → List Slot → Attributes
attributes_of ns ws ss = record { numeric = map (λ n. n.0) ns; waiting = waiting_from 0 ss ws; next = length ss }

abbrev pub Parts : Type 0
Parts = NumericNotes × (Watchers × List Slot)

abbrev pub attributes_by : Parts → Attributes
attributes_by p = attributes_of p.0 p.1.0 p.1.1

abbrev pub parts_of : NotesValue (Unit {0}) → NotesValue ℕ → TrailValue Slot → Parts
parts_of ns ws ss = (ns.now, (ws.now, ss.now))

-- the parts at the live marks, which are so many
abbrev pub parts_saved : NotesValue (Unit {0}) → NotesValue ℕ → TrailValue Slot → ℕ → List Parts
parts_saved ns ws ss n = counted (zip ns.saved (zip ws.saved ss.saved)) n (parts_of ns ws ss)

abbrev pub attrs_value : NotesValue (Unit {0}) → NotesValue ℕ → TrailValue Slot → ℕ → AttrsValue
attrs_value ns ws ss n = record {
  now = attributes_by (parts_of ns ws ss);
  saved = map attributes_by (parts_saved ns ws ss n);
  room = countable n;
}

-- each watcher's number has a slot
abbrev pub HaveSlots : Watchers → List Slot → Type 0
HaveSlots ws ss = All (λ w. w.1 < length ss) ws

-- now and at each mark the watchers' numbers have slots
pub record AreParts (parts : Parts) (saved : List Parts) : Type 0 where
  pub now : HaveSlots parts.1.0 parts.1.1
  pub marks : (k : ℕ) (p : Parts) → slice_get saved k ≡ Some p → HaveSlots p.1.0 p.1.1

-- a variable's note leads to a number that still waits
pub record IsAwake (ws : Watchers) (ss : List Slot) (v n : ℕ) : Type 0 where
  pub place : ℕ
  pub note : slice_get ws place ≡ Some (v, n)
  pub slot : Slot
  pub there : slice_get ss n ≡ Some slot
  pub waits : slot.waits ≡ true
