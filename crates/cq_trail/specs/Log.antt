-- What a log of older values gives back.
use Rattle.std.specs.Prelude.{ℕ, suc, ◌≤◌, ◌<◌, ◌-◌, ◌≡◌, ◌⊎◌, List, [], ◌∷◌, map, take, drop, slice_set, slice_get, slice_index, length, Some}
use Rattle.cq_trail.specs.declared.trail.Entry.{Entry}
use Rattle.cq_trail.specs.declared.trail.Place.{Place}
use Rattle.cq_trail.specs.TrailValue.{TrailValue}

-- the list before these changes, each a place with what stood there, of which the oldest comes first
abbrev pub restore : {A : Type 0} → List (ℕ × A) → List A → List A
restore [] xs = xs
restore (c ∷ cs) xs = slice_set (restore cs xs) c.0 c.1

abbrev pub old_values : {T : Type 0} → List (Entry T) → List (ℕ × T)
old_values log = map (λ e. (e.at, e.old)) log

abbrev pub old_stamps : {T : Type 0} → List (Entry T) → List (ℕ × ℕ)
old_stamps log = map (λ e. (e.at, e.stamp)) log

abbrev pub places : {T : Type 0} → List (Entry T) → List ℕ
places log = map (λ e. e.at) log

-- the list at a mark
abbrev pub at_mark : {T : Type 0} → List (Entry T) → List T → Place → List T
at_mark log xs p = take p.items (restore (drop p.log (old_values log)) xs)

-- the places saved since a mark
abbrev pub saved_since : {T : Type 0} → List (Entry T) → Place → List ℕ
saved_since log p = drop p.log (places log)

abbrev pub trail_value : {T : Type 0} → List T → List (Entry T) → List Place → ℕ → ℕ → ℕ → TrailValue T
trail_value xs log marks room ready saves =
    record { now = xs; saved = map (at_mark log xs) marks; changed = map (saved_since log) marks; room = room; ready = ready; saves = saves }

-- the newest mark is after the place was made or last saved
abbrev pub NeedsNoSaving : List Place → ℕ → ℕ → Type 0
NeedsNoSaving marks at stamp =
    (p : Place) → slice_get marks (length marks - 1) ≡ Some p → (p.items ≤ at) ⊎ (p.log < stamp)

abbrev pub NeedsSaving : List Place → ℕ → ℕ → Type 0
NeedsSaving marks at stamp =
    (p : Place) × (slice_get marks (length marks - 1) ≡ Some p) × (at < p.items) × (stamp ≤ p.log)

-- entries and marks lie within the list and the log, in order; the stamp of a place is the length of the log just
-- after its newest entry, also once any number of changes are taken back
pub record IsTrail {T : Type 0} (xs : List T) (stamps : List ℕ) (log : List (Entry T)) (marks : List Place) : Type 0 where
  pub stamped : length stamps ≡ length xs
  pub entries : (j : ℕ) (e : Entry T) → slice_get log j ≡ Some e → e.at < length xs
  pub within : (k : ℕ) (p : Place) → slice_get marks k ≡ Some p → (p.items ≤ length xs) × (p.log ≤ length log)
  pub before : (k j : ℕ) (p : Place) (e : Entry T) → slice_get marks k ≡ Some p → slice_get log j ≡ Some e → j < p.log → e.at < p.items
  pub sorted : (k m : ℕ) (p q : Place) → slice_get marks k ≡ Some p → slice_get marks m ≡ Some q → k ≤ m → (p.items ≤ q.items) × (p.log ≤ q.log)
  pub links : (k : ℕ) (c : ℕ × ℕ) → slice_get (old_stamps log) k ≡ Some c → slice_index (restore (drop (suc k) (old_stamps log)) stamps) c.0 ≡ suc k
  pub unsaved : (i : ℕ) → slice_index (restore (old_stamps log) stamps) i ≡ 0
