-- Where the parts of a text stand that arguments ask for, in order: by their place, then by their length.
use Rattle.std.specs.Prelude.{ℕ, ◌≡◌, ◌≤◌, ◌+◌, ◌-◌, suc, Bool, true, false, ◌&&◌, ◌==◌, bytes_eq, List, Vec, ◌++◌, map, filter, flat_map, length, take, drop, Option, Some, None}
use Rattle.spec_terms.specs.Variables.{counted_from}
use Rattle.cq_predicates.specs.declared.text.sought.Place.{Place}
use Rattle.cq_predicates.specs.declared.text.sought.Sought.{Sought}
use Rattle.cq_predicates.specs.declared.text.sought.Wanted.{Wanted}
use Rattle.cq_predicates.specs.declared.text.sought.Wanted.TheVariants as wanted
use Rattle.cq_predicates.specs.declared.text.parts.Parts.{Parts}
use Rattle.cq_predicates.specs.declared.text.splits.Splits.{Splits}
use Rattle.std.specs.declared.alloc.Global.{Global}

-- a count is as asked
abbrev pub admits : Wanted → ℕ → Bool
admits wanted.Any n = true
admits (wanted.Count m) n = m == n
admits wanted.Never n = false

-- the characters are those asked for, if some are
abbrev pub admits_text : Option (Vec ℕ Global) → List ℕ → Bool
admits_text None cs = true
admits_text (Some v) cs = bytes_eq v.items cs

abbrev pub place : ℕ → ℕ → Place
place before len = record { before = before; len = len }

-- the part at this place is as asked
abbrev pub fits : Sought → List ℕ → Place → Bool
fits s cs p =
    admits s.before p.before && (admits s.len p.len && (admits s.after (length cs - p.before - p.len)
    && admits_text s.part (take p.len (drop p.before cs))))

-- only the place is asked for
pub record IsFree (s : Sought) : Type 0 where
  pub len : s.len ≡ wanted.Any
  pub after : s.after ≡ wanted.Any
  pub part : s.part ≡ None

-- no part behind so many characters is as asked but one of this length
abbrev pub IsOnly : Sought → List ℕ → ℕ → ℕ → Type 0
IsOnly s cs before only = (len : ℕ) → before + len ≤ length cs → fits s cs (place before len) ≡ true → len ≡ only

-- the same, where at most so many characters are left and no length is asked for
abbrev pub IsOnlyBefore : Sought → ℕ → ℕ → Type 0
IsOnlyBefore s most only = (cs : List ℕ) (before len : ℕ) → length cs ≡ before + most → len ≤ most → fits s cs (place before len) ≡ true → len ≡ only

-- where a part behind so many characters is as asked and has this length or more, one of that length is, and none of a
-- lesser one
abbrev pub IsFirst : Sought → List ℕ → ℕ → ℕ → ℕ → Type 0
IsFirst s cs before low first = (len : ℕ) → low ≤ len → before + len ≤ length cs → fits s cs (place before len) ≡ true
    → (low ≤ first) × (first ≤ len) × (fits s cs (place before first) ≡ true)

-- the places behind so many characters, from this length on
abbrev pub row : List ℕ → ℕ → ℕ → List Place
row cs before low = map (place before) (counted_from low (length cs + 1 - before - low))

-- those of them where the part is as asked
abbrev pub fitting : Sought → List ℕ → ℕ → ℕ → List Place
fitting s cs before low = filter (fits s cs) (row cs before low)

-- those from this place on
abbrev pub places_from : List ℕ → ℕ → ℕ → List Place
places_from cs before low = row cs before low ++ flat_map (λ b. row cs b 0) (counted_from (suc before) (length cs - before))

-- all places
abbrev pub all_places : List ℕ → List Place
all_places cs = flat_map (λ b. map (place b) (counted_from 0 (length cs - b + 1))) (counted_from 0 (length cs + 1))

-- the places of the parts as asked from this place on
abbrev pub parts_left : Parts → Place → List Place
parts_left w from = filter (fits w.sought w.characters.items) (places_from w.characters.items from.before from.len)

-- ---- splits

-- the first text has so many characters, and both are as asked
abbrev pub splits_so : Splits → ℕ → Bool
splits_so w n = admits_text w.first (take n w.characters.items) && admits_text w.last (drop n w.characters.items)

-- how many characters the first text has of each split as asked where it has so many or more
abbrev pub splits_left : Splits → ℕ → List ℕ
splits_left w from = filter (splits_so w) (counted_from from (length w.characters.items + 1 - from))
