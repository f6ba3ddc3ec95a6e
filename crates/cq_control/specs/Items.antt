-- What continuations are to their callers.
use Rattle.std.specs.Prelude.{ℕ, List, [], slice_index_or}

-- what each has to do, by its number; the same at the live marks, the oldest first; and how many marks and how many
-- more continuations find their memory set aside
pub record ContinuationsValue (T : Type 0) : Type 0 where
  pub now : List (List T)
  pub saved : List (List (List T))
  pub room : ℕ
  pub ready : ℕ

-- what the continuation of this number has to do
abbrev pub items_at : {T : Type 0} → List (List T) → ℕ → List T
items_at now k = slice_index_or now k []
