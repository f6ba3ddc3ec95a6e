-- What notes on variables are to their callers.
use Rattle.std.specs.Prelude.{ℕ, zero, suc, ◌≡◌, ◌==◌, List, [], ◌∷◌, map, take, Bool, if◌then◌else◌, slice_get, Some}
use Rattle.cq_frac.specs.declared.VarId.{VarId}

-- variables with what is noted of them, the oldest note first; the same at the live marks, the oldest mark first; and how
-- many marks find their memory set aside
pub record NotesValue (T : Type 0) : Type 0 where
  pub now : List (ℕ × T)
  pub saved : List (List (ℕ × T))
  pub room : ℕ

-- one more element stands in front
abbrev pub one_further : Bool → ℕ → ℕ
one_further is zero = if is then 1 else 0
one_further is (suc n) = suc (suc n)

-- the place behind a variable's newest note; 0 where it has none
abbrev pub behind_newest : {T : Type 0} → ℕ → List (ℕ × T) → ℕ
behind_newest v [] = 0
behind_newest v (n ∷ ns) = one_further (n.0 == v) (behind_newest v ns)

-- at the place this is noted of some variable, whose note before is just before the other place; 0 where it has none
abbrev pub IsNoteAt : {T : Type 0} → List (ℕ × T) → ℕ → T × ℕ → Type 0
IsNoteAt ns at note = (v : ℕ) × (slice_get ns at ≡ Some (v, note.0)) × (note.1 ≡ behind_newest v (take at ns))

-- the same value noted of each variable
abbrev pub noted : {T : Type 0} → List VarId → T → List (ℕ × T)
noted vs value = map (λ (v : VarId). (v.0, value)) vs
