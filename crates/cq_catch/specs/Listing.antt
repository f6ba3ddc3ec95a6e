-- The list of what a findall gathered.
use Rattle.std.specs.Prelude.{◌≡◌, ℕ, List, ◌∷◌, Some}
use Rattle.std.specs.List.{AllZip}
use Rattle.spec_numbers.specs.Texts.{Text}
use Rattle.spec_syntax.specs.Trees.{Tree}
use Rattle.spec_branch.specs.Branch.{State, Item, Copied, Pending, read}
use Rattle.spec_search.specs.Replies.{landed}
use Rattle.cq_resolve.specs.StoredValue.{StoredValue}
use Rattle.cq_settle.specs.Contents.{Contents}
use Rattle.cq_settle.specs.Rest.{IsReadyAs}
use Rattle.spec_engine.specs.Cells.{Value, Stack}
use Rattle.spec_engine.specs.Standing.{IsStoredAs}
use Rattle.spec_engine.specs.Trying.{list_work}
use Rattle.cq_branch.specs.declared.alternatives.Alternatives.{Alternatives}
use Rattle.cq_branch.specs.declared.alternatives.Alternatives.TheVariants.{Gathers}
use Rattle.cq_branch.specs.Stored.{stored_trees}
use Rattle.cq_branch.specs.Worlds.{term_in}
use Rattle.cq_branch.specs.Begun.{IsPlacedAs, IsBegun}

-- the newest choice gathers
abbrev pub HasGathered : List Alternatives → Type 0
HasGathered choices = (t : ℕ) × (copies : List StoredValue) × (k : ℕ) × (older : List Alternatives) × (choices ≡ Gathers t copies k ∷ older)

-- the branch of the list is kept, and goes on so
abbrev pub ListGoes : List Text → Value Contents → Value Contents → ℕ → List StoredValue → ℕ → ℕ → Type 0
ListGoes texts old new third stored rest k =
    (choices : Stack Contents) (items : List Item) (st : State) (copies : List Copied) (t : Tree) → IsPlacedAs texts choices old rest items st
    → AllZip IsStoredAs copies (stored_trees texts stored) → term_in texts old.0 third ≡ Some (read st t)
    → IsBegun texts choices old new k items (landed st copies).state (list_work t (landed st copies))

-- what holds of its state and its work
abbrev pub OfList : List Text → Contents → ℕ → List StoredValue → (State → Pending → Type 0) → Type 0
OfList texts c third stored P = (st : State) (copies : List Copied) (t : Tree) → IsReadyAs texts c st
    → AllZip IsStoredAs copies (stored_trees texts stored) → term_in texts c third ≡ Some (read st t) → P (landed st copies).state (list_work t (landed st copies))
