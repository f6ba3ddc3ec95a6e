-- What a `Trail` is to its callers.
use Rattle.std.specs.Prelude.{ℕ, ◌≡◌, ◌-◌, ◌⊎◌, List, [], ◌∷◌, ◌++◌, map, length, Contains, slice_index_or}

-- a list; the lists that it was at the live marks, the oldest first; for each of these marks the places whose values
-- were put aside since it; and how many marks, how many new places, and how many changes of places find their
-- memory set aside
pub record TrailValue (T : Type 0) : Type 0 where
  pub now : List T
  pub saved : List (List T)
  pub changed : List (List ℕ)
  pub room : ℕ
  pub ready : ℕ
  pub saves : ℕ

-- the places put aside since the newest mark
abbrev pub newest : List (List ℕ) → List ℕ
newest changed = slice_index_or changed (length changed - 1) []

-- a change of this place put nothing aside, or its value, which was not put aside since the newest mark
abbrev pub SavesOnce : List (List ℕ) → List (List ℕ) → ℕ → Type 0
SavesOnce old new at = (new ≡ old) ⊎ ((Contains (newest old) at → ⊥) × (new ≡ map (λ c. c ++ at ∷ []) old))
