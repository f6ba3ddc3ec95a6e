-- What a search comes to by turns that show nothing, and what it shows then.
use Rattle.std.specs.Prelude.{◌≡◌, ◌⊎◌, ℕ, ◌<◌, List, [], Option, None, true, false}
use Rattle.spec_syntax.specs.Trees.{Tree}
use Rattle.spec_branch.specs.Branch.{State, Item, no_work}
use Rattle.spec_branch.specs.Settling.{Settles, Kept}
use Rattle.spec_search.specs.Search.{Search, settled, look_at, is_selecting}
use Rattle.spec_search.specs.Turns.{Turn, Event, Wrote, Refuses, with_branches}
use Rattle.spec_transcript.specs.Causes.{Budgets, Cause, Resolutions, Overflow}
use Rattle.spec_transcript.specs.Due.{Due}
use Rattle.cq_frac.specs.declared.Pair.{Pair}
use Rattle.spec_engine.specs.Standing.{Machine, IsStanding}

-- the next turn selects no goal, or one of so many that may be selected
abbrev pub MayGo : ℕ → Search → Type 0
MayGo steps s = (is_selecting (look_at s.branches) ≡ false) ⊎ (s.selected < steps)

-- turns one after another that show nothing, and select no more than so many goals
pub data Quietly (steps : ℕ) : Search → Search → Type 0 where
  at_once : {s : Search} → Quietly steps s s
  after : {s t u : Search} → MayGo steps s → Turn s (Wrote []) t → Quietly steps t u → Quietly steps s u

-- a branch in the state of a world is kept as it is where it has no work to do
abbrev pub Rest : {W : Type 0} → (W → State → Type 0) → Type 0
Rest {W} IsState = (w : W) (st : State) (items : List Item) → IsState w st → Settles items st no_work (Kept (settled items st))

module _ {W : Type 0} (IsState : W → State → Type 0) (term : W → ℕ → Option Tree) where
  -- the search comes quietly to one for which the engine stands
  pub record Comes (steps : ℕ) (m : Machine W) (s : Search) : Type 0 where
    pub reached : Search
    pub quiet : Quietly steps s reached
    pub stands : IsStanding IsState term m reached

-- ---- what an engine tells

-- why a query stops before the next turn
pub data StopsFor (budgets : Budgets) (s : Search) : Cause → Type 0 where
  -- exactly where another goal would be selected
  runs_out : is_selecting (look_at s.branches) ≡ true → s.selected ≡ budgets.steps → StopsFor budgets s (Resolutions budgets.steps)
  -- exactly where the arithmetic of the selected goal refuses two numbers
  overflows : {pair : Pair} → MayGo budgets.steps s → Refuses s pair → StopsFor budgets s (Overflow pair)
  -- where some moment of the turn shows the cause
  stops : {cause : Cause} → MayGo budgets.steps s → Due budgets None s cause → StopsFor budgets s cause

-- what a turn shows, or why the query stops
pub data Told : Type 0 where
  Shows : Event → Told
  Stops : Cause → Told

-- From one search, quietly up to then, the next that is told, and the search then. A query that stops has no branch left, and
-- the database of before the turn that was stopped.
pub data Tells (budgets : Budgets) (s : Search) : Told → Search → Type 0 where
  shows : {r t : Search} {e : Event} → Quietly budgets.steps s r → MayGo budgets.steps r → Turn r e t → (e ≡ Wrote [] → ⊥)
      → Tells budgets s (Shows e) t
  stops : {r : Search} {cause : Cause} → Quietly budgets.steps s r → StopsFor budgets r cause
      → Tells budgets s (Stops cause) (with_branches [] r)
