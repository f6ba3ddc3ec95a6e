-- What an engine knows where a goal is selected, and what it comes to by the goal's row.
use Rattle.std.specs.Prelude.{◌≡◌, ℕ, ◌≤◌, List, [], ◌++◌, length, Option, Some}
use Rattle.spec_syntax.specs.Trees.{Tree}
use Rattle.spec_builtins.specs.Built.{compound1}
use Rattle.spec_branch.specs.Branch.{State, Item, Branch, read}
use Rattle.spec_search.specs.Replies.{Place, Reply, Makes, Made}
use Rattle.spec_search.specs.Search.{Search, look_at, Selecting}
use Rattle.spec_search.specs.Turns.{older, place_of}
use Rattle.cq_control.specs.Items.{items_at}
use Rattle.spec_engine.specs.Cells.{Fits, Value, Stack, below}
use Rattle.spec_engine.specs.Standing.{engine, IsPlace, AreWaiting}
use Rattle.spec_engine.specs.Coming.{Comes}
use Rattle.cq_branch.specs.Lists.{KeepsLists}

module _ {W : Type 0} (IsState : W → State → Type 0) (term : W → ℕ → Option Tree) where
  -- the world reads the number as the term, which reads as itself in the state
  abbrev pub Reads : W → State → ℕ → Tree → Type 0
  Reads w st id t = (term w id ≡ Some t) × (read st t ≡ t)

  -- A goal is selected at the place, with this continuation and these branches behind it. A cut in it goes back to the height.
  pub record IsSelected (choices : Stack W) (now : Value W) (height rest : ℕ) (p : Place) (behind : List Branch) : Type 0 where
    pub place : IsPlace IsState term choices now rest p
    pub within : height ≤ length choices
    pub goes_back : p.cut ≡ below choices height
    pub fits : Fits height (items_at now.1 rest)
    pub waiting : AreWaiting IsState term choices behind

  -- The reply makes children, without output and without a change of the database, and the engine comes quietly to stand for
  -- them and the branches that are kept. It goes on with the continuation, if it doesn't come back.
  pub record Becomes (choices : Stack W) (now : Value W) (current : Option ℕ) (p : Place) (behind : List Branch) (reply : Reply) : Type 0 where
    pub made : Made
    pub row : reply ≡ Makes made
    pub database : made.database ≡ p.database
    pub output : made.output ≡ []
    pub comes : (steps : ℕ) (s : Search) → s.database ≡ p.database → s.branches ≡ made.children ++ older made.keeps behind
        → Comes IsState term steps (engine p.database s.selected choices now current) s

  -- More was built: each term and each continuation that was there is as it was.
  pub record HasGrown (old new : Value W) : Type 0 where
    pub state : (st : State) → IsState old.0 st → IsState new.0 st
    pub terms : (id : ℕ) (t : Tree) → term old.0 id ≡ Some t → term new.0 id ≡ Some t
    pub lists : KeepsLists old.1 new.1

  -- The search selects a goal, which the engine has in front: the goal, the cut height, the items and the branches behind it, and
  -- the state in which they are read.
  pub record Selects (choices : Stack W) (now : Value W) (height rest : ℕ) (s : Search) : Type 0 where
    pub goal : Tree
    pub cut : ℕ
    pub items : List Item
    pub state : State
    pub behind : List Branch
    pub selects : look_at s.branches ≡ Selecting goal cut items state behind
    pub selected : IsSelected choices now height rest (place_of s state items cut behind) behind

  -- The search selects call of a goal: a cut in it sees no height.
  pub record SelectsCall (choices : Stack W) (now : Value W) (rest : ℕ) (s : Search) : Type 0 where
    pub goal : Tree
    pub cut : ℕ
    pub items : List Item
    pub state : State
    pub behind : List Branch
    pub selects : look_at s.branches ≡ Selecting (compound1 "call" goal) cut items state behind
    pub place : IsPlace IsState term choices now rest (place_of s state items cut behind)
    pub waiting : AreWaiting IsState term choices behind
