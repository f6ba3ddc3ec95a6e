-- What a `Stack` is to its callers.
use Rattle.std.specs.Prelude.{ℕ, ◌≤◌, ◌≡◌, List, map, take, length, slice_get, Some}

-- a list; the lists that it was at the live marks, the oldest first; and how many marks and how many new places find
-- their memory set aside
pub record StackValue (T : Type 0) : Type 0 where
  pub now : List T
  pub saved : List (List T)
  pub room : ℕ
  pub ready : ℕ

-- the list when it had this length
abbrev pub cut_at : {T : Type 0} → List T → ℕ → List T
cut_at xs n = take n xs

abbrev pub stack_value : {T : Type 0} → List T → List ℕ → ℕ → ℕ → StackValue T
stack_value xs marks room ready = record { now = xs; saved = map (cut_at xs) marks; room = room; ready = ready }

-- the lengths at the marks lie within the list, in order
pub record IsStack {T : Type 0} (xs : List T) (marks : List ℕ) : Type 0 where
  pub within : (k n : ℕ) → slice_get marks k ≡ Some n → n ≤ length xs
  pub sorted : (j k m n : ℕ) → slice_get marks j ≡ Some m → slice_get marks k ≡ Some n → j ≤ k → m ≤ n
