-- Indexes of lists of clauses by their keys.
use Rattle.std.specs.Prelude.{ℕ, ◌≡◌, ◌+◌, ◌≤◌, ◌^◌, ◌<◌, ◌⊎◌, List, [], length, slice_get, Bool, false, cond, Option, Some, is_none, unwrap_or}
use Rattle.std.specs.HashMap.{get}
use Rattle.cq_clauses.specs.declared.index.Index.{Index}
use Rattle.cq_clauses.specs.declared.key.Key.{Key}
use Rattle.cq_clauses.specs.declared.list.End.{End}
use Rattle.cq_clauses.specs.Database.{added}
use Rattle.cq_clauses.specs.Keys.{same_key, has_key, may_match}
use Rattle.cq_clauses.specs.Numbered.{numbered}

-- the index is one of clauses with these keys, in order
pub record IsIndex (index : Index) (keys : List (Option Key)) : Type 0 where
  pub counted : index.count ≡ length keys
  pub fits : index.first + index.count < 2 ^ 64
  pub keyless : index.keyless ≡ numbered is_none index.first keys
  pub keyed : (k : Key) → unwrap_or (get same_key index.keyed k) [] ≡ numbered (has_key k) index.first keys

-- the list with one more number at an end where the test passes
abbrev pub noted : Bool → End → ℕ → List ℕ → List ℕ
noted b end n ns = cond b (added end n ns) ns

-- the number of a clause's place is noted under its key
pub record HasNoted (key : Option Key) (number : ℕ) (end : End) (old new : Index) : Type 0 where
  pub first : new.first ≡ old.first
  pub count : new.count ≡ old.count
  pub keyless : new.keyless ≡ noted (is_none key) end number old.keyless
  pub keyed : (k : Key) → unwrap_or (get same_key new.keyed k) [] ≡ noted (has_key k key) end number (unwrap_or (get same_key old.keyed k) [])

-- from this place up to that one no clause may match
pub record NoneMatches (key : Key) (keys : List (Option Key)) (from to : ℕ) : Type 0 where
  pub fails : (i : ℕ) (k : Option Key) → from ≤ i → i < to → slice_get keys i ≡ Some k → may_match key k ≡ false

-- the index is what an index that was there became by one more key
pub record GrewOf (key : Option Key) (end : End) (index : Index) (was : Option (Option Index)) : Type 0 where
  pub before : Index
  pub there : was ≡ Some (Some before)
  pub grown : (keys : List (Option Key)) → IsIndex before keys → IsIndex index (added end key keys)

-- each index of the new list was in the old at its place, or is that of the procedure with one more key
pub record HasGrown (procedure : ℕ) (key : Option Key) (end : End) (old new : List (Option Index)) : Type 0 where
  pub same_length : length new ≡ length old
  pub others : (q : ℕ) (index : Index) → slice_get new q ≡ Some (Some index) → (q ≡ procedure → ⊥) → slice_get old q ≡ Some (Some index)
  pub grown : (index : Index) → slice_get new procedure ≡ Some (Some index) → GrewOf key end index (slice_get old procedure)

-- each index of the new list was in the old at its place, or is this one of the procedure
pub record HasPut (procedure : ℕ) (index : Index) (old new : List (Option Index)) : Type 0 where
  pub within : (bound : ℕ) → length old ≤ bound → procedure < bound → length new ≤ bound
  pub kept : (q : ℕ) (i : Index) → slice_get new q ≡ Some (Some i) → (slice_get old q ≡ Some (Some i)) ⊎ ((q ≡ procedure) × (i ≡ index))
