-- What the selected goal of a search comes to on an engine.
use Rattle.std.specs.Prelude.{◌≡◌, ◌<◌, ◌≢◌, ◌∷◌, [], ℕ, suc, List, Option, Some, None, length, ⊤}
use Rattle.spec_numbers.specs.Texts.{Text}
use Rattle.spec_syntax.specs.Trees.{Tree}
use Rattle.spec_branch.specs.Branch.{State, Item, Branch, plain_copy, read}
use Rattle.spec_search.specs.Balls.{handed}
use Rattle.spec_search.specs.Search.{Search, look_at, Selecting}
use Rattle.spec_search.specs.Turns.{place_of}
use Rattle.spec_engine.specs.declared.machine.cell.Cell.{Cell}
use Rattle.spec_engine.specs.declared.machine.cell.Cell.TheVariants.{Goal}
use Rattle.spec_engine.specs.Standing.{IsStoredAs}
use Rattle.cq_catch.specs.Balls.{ComesUp, IsCaughtBy}
use Rattle.cq_control.specs.Items.{items_at}
use Rattle.cq_store.specs.declared.store.StoreFault.{StoreFault}
use Rattle.cq_store.specs.declared.store.StoreFault.TheVariants.{Overflow, Pivots, NoMemory}
use Rattle.cq_resolve.specs.StoredValue.{StoredValue}
use Rattle.cq_branch.specs.Stored.{IsCountedTerm, stored_tree}
use Rattle.cq_branch.specs.Worlds.{Placed}
use Rattle.cq_machine.specs.declared.machine.Machine.{Machine}
use Rattle.cq_machine.specs.Machines.{now, holds, database_of, IsSound, StillStands}
use Rattle.cq_engine.specs.Fronts.{HasWork, IsGoal}
use Rattle.cq_engine.specs.declared.front.Front.{Front}
use Rattle.cq_engine.specs.declared.front.Front.TheVariants as front
use Rattle.cq_engine.specs.declared.front.Front.TheVariants.{Ahead, Escapes}
use Rattle.cq_engine.specs.Seeking.{IsKept, StandsFor}
use Rattle.cq_execute.specs.Executions.{Reaches}
use Rattle.cq_execute.specs.declared.executed.Executed.{Executed}
use Rattle.cq_execute.specs.Rows.{IsCallOf}
use Rattle.cq_execute.specs.Stops.{IsStop}
use Rattle.cq_engine.specs.declared.events.engine.Engine.{Engine}
use Rattle.cq_engine.specs.declared.events.event.Event.{Event}
use Rattle.cq_engine.specs.declared.events.event.Event.TheVariants.{Answer, Output, Fail, Ball, Stop}
use Rattle.cq_engine.specs.Raised.{is_raised_by}
use Rattle.cq_engine.specs.declared.events.raiser.Raiser.{Raiser}
use Rattle.cq_engine.specs.declared.events.running.Ran.{Ran}
use Rattle.cq_engine.specs.declared.events.running.Ran.TheVariants.{On, Row, Look}
use Rattle.cq_predicates.specs.declared.table.builtins.Builtin.{Builtin}
use Rattle.cq_engine.specs.Events.{GivesNext, GoesOn, HasCounted}

-- ---- a goal in front

-- where a goal of a number is in front of the continuation, it calls this built-in predicate
abbrev pub CallsAt : Machine → ℕ → Builtin → Type 0
CallsAt m k b = (t height : ℕ) (cells : List Cell) → items_at m.world.second.now k ≡ Goal t height ∷ cells → IsCallOf m t b

-- a goal is in front that may be selected, and calls this built-in predicate if it is one of a number
pub record CallsInFront (m : Machine) (n steps : ℕ) (current : Option ℕ) (b : Builtin) : Type 0 where
  pub k : ℕ
  pub at : current ≡ Some k
  pub work : HasWork steps n m k
  pub calls : CallsAt m k b

-- so does the goal that the machine came to
abbrev pub CallsAtFront : Machine → Front → Builtin → Type 0
CallsAtFront m (Ahead k) b = CallsAt m k b
CallsAtFront m front.Answer b = ⊤
CallsAtFront m front.Fail b = ⊤
CallsAtFront m (Escapes ball) b = ⊤
CallsAtFront m (front.Stop cause) b = ⊤

-- one more goal was selected, or this is in front
abbrev pub HasRun : Engine → Engine → Ran → Type 0
HasRun old new On = old.selected < new.selected
HasRun old new (Row b) = CallsInFront new.machine new.selected new.steps new.current b
HasRun old new Look = ⊤

-- this cell is in front of the continuation, and this continuation behind it
pub record HasInFront (m : Machine) (k : ℕ) (c : Cell) (rest : ℕ) : Type 0 where
  pub earlier : rest < k
  pub cells : items_at m.world.second.now k ≡ c ∷ items_at m.world.second.now rest

-- the goal of the number is in front of what the engine goes on with, and this continuation behind it; a cut in it goes back to the
-- height
pub record HasGoalInFront (e : Engine) (id height rest : ℕ) : Type 0 where
  pub k : ℕ
  pub current : e.current ≡ Some k
  pub front : HasInFront e.machine k (Goal id height) rest

-- The search selects a goal next, and so many were before: the goal, its cut height, the items and the branches behind it, and the
-- state. The continuation stands for the items.
pub record SelectsNext (m : Machine) (n rest : ℕ) (s : Search) : Type 0 where
  pub goal : Tree
  pub cut : ℕ
  pub items : List Item
  pub state : State
  pub behind : List Branch
  pub look : look_at s.branches ≡ Selecting goal cut items state behind
  pub placed : Placed m.atoms (holds m) (now m) rest (place_of s state items cut behind) behind
  pub database : s.database ≡ database_of m
  pub selected : s.selected ≡ n

-- a goal is in front of the continuation
pub record HasGoal (m : Machine) (k : ℕ) : Type 0 where
  pub cell : Cell
  pub behind : List Cell
  pub cells : items_at m.world.second.now k ≡ cell ∷ behind
  pub goal : IsGoal cell

-- it names the goal that is selected next by each search for which the machine stands
abbrev pub NamesNext : Machine → ℕ → Raiser → Type 0
NamesNext m k r = (n : ℕ) (s : Search) → StandsFor m n (Some k) s → (goal : Tree) (cut : ℕ) (items : List Item) (st : State) (behind : List Branch)
    → look_at s.branches ≡ Selecting goal cut items st behind → is_raised_by m.atoms r (read st goal)

-- the machine has come to what the goal's step makes; or that is the ball of an error, or the goal's reply refuses two numbers
pub record Reached (old new : Machine) (n rest : ℕ) (x : Executed) (s : Search) : Type 0 where
  pub next : SelectsNext old n rest s
  pub reaches : Reaches new x.step x.output.items (place_of s next.state next.items next.cut next.behind) next.behind (read next.state next.goal)

-- a moment of the goal is why there is this fault
pub record IsStoppedNext (m : Machine) (n rest : ℕ) (fault : StoreFault) (s : Search) : Type 0 where
  pub next : SelectsNext m n rest s
  pub stopped : IsStop m.world.first.store.pivots (place_of s next.state next.items next.cut next.behind) (read next.state next.goal) fault

-- want of memory says nothing of the search
abbrev pub MayStop : Machine → ℕ → ℕ → StoreFault → Search → Type 0
MayStop m n rest (Overflow pair) s = IsStoppedNext m n rest (Overflow pair) s
MayStop m n rest (Pivots x) s = IsStoppedNext m n rest (Pivots x) s
MayStop m n rest NoMemory s = ⊤

-- ---- an engine then

-- one more goal was selected, and the engine goes on so
pub record IsAt (old new : Engine) (k : Option ℕ) : Type 0 where
  pub machine : new.machine ≡ old.machine
  pub selected : new.selected ≡ suc old.selected
  pub steps : new.steps ≡ old.steps
  pub current : new.current ≡ k

-- no branch is left, and so many goals were selected
pub record HasEnded (n : ℕ) (e : Engine) : Type 0 where
  pub kept : IsKept e.machine
  pub none_left : holds e.machine ≡ []
  pub current : e.current ≡ None
  pub selected : e.selected ≡ n

-- a text is told that is not empty
abbrev pub IsTold : Text → Option Event → Type 0
IsTold text None = text ≡ []
IsTold text (Some (Output written)) = (written.items ≡ text) × (text ≢ [])
IsTold text (Some Answer) = ⊥
IsTold text (Some Fail) = ⊥
IsTold text (Some (Ball stored)) = ⊥
IsTold text (Some (Stop cause)) = ⊥

-- ---- balls

-- a ball comes up in front of the continuation: this stands for some items, in front of some branches
abbrev pub ComesUpOn : Machine → ℕ → Type 0
ComesUpOn m from = (items : List Item) × (st : State) × (behind : List Branch) × ComesUp m.atoms (holds m) (now m) from items st behind

-- Wherever the ball came up in front of the continuation a catch has it now, and the engine comes back to that; one more goal was selected.
pub record IsCaught (old new : Engine) (ball : Tree) (from : ℕ) : Type 0 where
  pub caught : (items : List Item) (st : State) (behind : List Branch) → ComesUp old.machine.atoms (holds old.machine) (now old.machine) from items st behind
      → IsCaughtBy new.machine.atoms (holds new.machine) (plain_copy ball) items behind
  pub selected : new.selected ≡ suc old.selected
  pub current : new.current ≡ None

-- Nothing catches it; it is stored so, its names have texts, and no branch is left.
pub record IsMissed (old new : Engine) (ball : Tree) (from : ℕ) (stored : StoredValue) : Type 0 where
  pub missed : (items : List Item) (st : State) (behind : List Branch) → ComesUp old.machine.atoms (holds old.machine) (now old.machine) from items st behind
      → handed (plain_copy ball) items behind ≡ None
  pub is_stored : IsStoredAs (plain_copy ball) (stored_tree new.machine.atoms stored)
  pub counted : IsCountedTerm (length new.machine.atoms) stored
  pub ended : HasEnded (suc old.selected) new

-- a catch has the ball, or it is told
abbrev pub IsThrown : Engine → Engine → Tree → ℕ → Option Event → Type 0
IsThrown old new ball from None = IsCaught old new ball from
IsThrown old new ball from (Some (Ball stored)) = IsMissed old new ball from stored
IsThrown old new ball from (Some Answer) = ⊥
IsThrown old new ball from (Some (Output written)) = ⊥
IsThrown old new ball from (Some Fail) = ⊥
IsThrown old new ball from (Some (Stop cause)) = ⊥

-- The same where names and terms were added before: an engine that stands for what it stood for has thrown it.
pub record IsRaised (old new : Engine) (ball : Tree) (from : ℕ) (told : Option Event) : Type 0 where
  pub mid : Engine
  pub still : StillStands old.machine mid.machine
  pub database : database_of mid.machine ≡ database_of old.machine
  pub selected : mid.selected ≡ old.selected
  pub thrown : IsThrown mid new ball from told

-- the event is what is told next, or one more goal was selected and nothing is told yet
abbrev pub Turned : Engine → Engine → Option Event → Type 0
Turned old new (Some event) = GivesNext old new event × HasCounted old new event
Turned old new None = GoesOn old new × (old.selected < new.selected)

-- as many goals were selected, and it goes on with the same
pub record IsAsBefore (old new : Engine) : Type 0 where
  pub sound : IsSound new.machine
  pub selected : new.selected ≡ old.selected
  pub current : new.current ≡ old.current
