-- How a ball comes up on an engine, and where it goes.
use Rattle.std.specs.Prelude.{◌≡◌, ℕ, List, ◌∷◌, Some, None}
use Rattle.spec_numbers.specs.Texts.{Text}
use Rattle.spec_branch.specs.Branch.{State, Item, Branch, Copied}
use Rattle.spec_search.specs.Balls.{handed}
use Rattle.cq_resolve.specs.Database.{Program}
use Rattle.cq_resolve.specs.StoredValue.{StoredValue}
use Rattle.cq_settle.specs.Contents.{Contents}
use Rattle.spec_engine.specs.declared.machine.cell.Cell.{Cell}
use Rattle.spec_engine.specs.Cells.{Value, Stack, catch_at, nearest_catch}
use Rattle.spec_engine.specs.Standing.{IsContinuation, AreWaiting, IsStoredAs}
use Rattle.cq_branch.specs.declared.alternatives.Alternatives.{Alternatives}
use Rattle.cq_branch.specs.declared.alternatives.Alternatives.TheVariants.{Caught}
use Rattle.cq_branch.specs.Stored.{stored_tree}
use Rattle.cq_branch.specs.Worlds.{IsBranch, term_in, stack}
use Rattle.cq_catch.specs.declared.balls.End.{End}

-- A ball comes up in front of these items, with these branches behind: the continuation stands for the items.
pub record ComesUp (texts : List Text) (choices : Stack Contents) (now : Value Contents) (from : ℕ) (items : List Item) (st : State) (behind : List Branch)
    : Type 0 where
  pub continuation : IsContinuation (IsBranch texts) (term_in texts) choices now from items st
  pub waiting : AreWaiting (IsBranch texts) (term_in texts) choices behind

-- one comes up somewhere
abbrev pub ComesUpSomewhere : List (Value Contents) → List Alternatives → Value Contents → ℕ → Type 0
ComesUpSomewhere saved choices now from = (texts : List Text) × (v : Program) × (items : List Item) × (st : State) × (behind : List Branch)
    × ComesUp texts (stack texts v saved choices) now from items st behind

-- the ball is handed to a catch: the choices stand for the branches then
pub record IsCaughtBy (texts : List Text) (choices : Stack Contents) (ball : Copied) (items : List Item) (behind : List Branch) : Type 0 where
  pub next : List Branch
  pub handed_on : handed ball items behind ≡ Some next
  pub waiting : AreWaiting (IsBranch texts) (term_in texts) choices next

-- wherever the ball, which is stored so, came up before, it is handed to a catch
abbrev pub HandsBall : List (Value Contents) → List Alternatives → Value Contents → ℕ → StoredValue → List (Value Contents) → List Alternatives → Type 0
HandsBall saved choices now from stored more after = (texts : List Text) (v : Program) (items : List Item) (st : State) (behind : List Branch) (ball : Copied)
    → ComesUp texts (stack texts v saved choices) now from items st behind → IsStoredAs ball (stored_tree texts stored)
    → IsCaughtBy texts (stack texts v more after) ball items behind

-- wherever a ball comes up, nothing catches it
abbrev pub Misses : List (Value Contents) → List Alternatives → Value Contents → ℕ → Type 0
Misses saved choices now from = (texts : List Text) (v : Program) (items : List Item) (st : State) (behind : List Branch) (ball : Copied)
    → ComesUp texts (stack texts v saved choices) now from items st behind → handed ball items behind ≡ None

-- the newest choice is a catch that has a ball
abbrev pub HasBall : List Alternatives → Type 0
HasBall choices = (ball : StoredValue) × (c : ℕ) × (r : ℕ) × (k : ℕ) × (older : List Alternatives) × (choices ≡ Caught ball c r k ∷ older)

-- the choice with so many older ones keeps the world of a catch's call
abbrev pub HasCatch : List (Value Contents) → List Alternatives → ℕ → Type 0
HasCatch saved choices height = (texts : List Text) × (v : Program) × (call : Value Contents × ℕ) × (catch_at (stack texts v saved choices) height ≡ Some call)

-- this is the nearest end of a catch in the cells
abbrev pub IsNearest : List Cell → End → Type 0
IsNearest cells e = (behind : List Cell) × (nearest_catch cells ≡ Some (e.height, e.catcher, e.recovery, behind))
