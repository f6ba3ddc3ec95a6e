-- How notes on variables lead from each to the variable's note before it.
use Rattle.std.specs.Prelude.{ℕ, ◌≤◌, ◌<◌, ◌≡◌, List, map, take, length, slice_get, slice_index, Some, All}
use Rattle.cq_frac.specs.declared.VarId.{VarId}
use Rattle.cq_attr.specs.NotesValue.{NotesValue, behind_newest}
use Rattle.cq_attr.specs.declared.notes.Note.{Note}

abbrev pub pairs_of : {T : Type 0} → List (Note T) → List (ℕ × T)
pairs_of ns = map (λ n. (n.variable, n.value)) ns

abbrev pub first_pairs : {T : Type 0} → List (Note T) → ℕ → List (ℕ × T)
first_pairs ns n = take n (pairs_of ns)

abbrev pub notes_value : {T : Type 0} → List (Note T) → List ℕ → ℕ → NotesValue T
notes_value ns marks room = record { now = pairs_of ns; saved = map (first_pairs ns) marks; room = room }

-- each variable leads to its newest note, and each note to the variable's note before it
pub record AreLinked {T : Type 0} (newest : List ℕ) (ns : List (Note T)) : Type 0 where
  pub heads : (v : ℕ) → slice_index newest v ≡ behind_newest v (pairs_of ns)
  pub links : (k : ℕ) (n : Note T) → slice_get ns k ≡ Some n → n.earlier ≡ behind_newest n.variable (first_pairs ns k)

-- linked notes, and lengths at the marks that lie within them, in order
pub record AreNotes {T : Type 0} (newest : List ℕ) (ns : List (Note T)) (marks : List ℕ) : Type 0 where
  pub linked : AreLinked newest ns
  pub within : (k n : ℕ) → slice_get marks k ≡ Some n → n ≤ length ns
  pub sorted : (j k m n : ℕ) → slice_get marks j ≡ Some m → slice_get marks k ≡ Some n → j ≤ k → m ≤ n

-- the list has a place for each of the variables
abbrev pub HasPlaces : List ℕ → List VarId → Type 0
HasPlaces newest vs = All (λ v. v.0 < length newest) vs
