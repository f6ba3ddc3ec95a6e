-- What cells that share their rest have to do.
use Rattle.std.specs.Prelude.{◌≡◌, ℕ, ◌≤◌, List, [], ◌∷◌, ◌++◌, map, slice_get, Some}
use Rattle.cq_trail.specs.StackValue.{StackValue}
use Rattle.cq_control.specs.declared.continuations.Cell.{Cell}
use Rattle.cq_control.specs.Items.{ContinuationsValue, items_at}

-- one more continuation: the cell's item, before what the rest has to do
abbrev pub with_cell : {T : Type 0} → List (List T) → Cell T → List (List T)
with_cell lists c = lists ++ (c.item ∷ items_at lists c.rest) ∷ []

-- the continuations of these cells behind others
unfoldable pub lists_from : {T : Type 0} → List (List T) → List (Cell T) → List (List T)
lists_from lists [] = lists
lists_from lists (c ∷ cs) = lists_from (with_cell lists c) cs

-- number 0 has nothing to do
abbrev pub lists : {T : Type 0} → List (Cell T) → List (List T)
lists cells = lists_from ([] ∷ []) cells

abbrev pub continuations_value : {T : Type 0} → StackValue (Cell T) → ContinuationsValue T
continuations_value s = record { now = lists s.now; saved = map lists s.saved; room = s.room; ready = s.ready }

-- each cell's rest was made before it: the cell of place i is the continuation of number i + 1
abbrev pub AreEarlier : {T : Type 0} → List (Cell T) → Type 0
AreEarlier {T} cells = (i : ℕ) (c : Cell T) → slice_get cells i ≡ Some c → c.rest ≤ i

pub record AreCells {T : Type 0} (s : StackValue (Cell T)) : Type 0 where
  pub now : AreEarlier s.now
  pub saved : (m : ℕ) (cells : List (Cell T)) → slice_get s.saved m ≡ Some cells → AreEarlier cells
