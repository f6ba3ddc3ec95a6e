-- What a branch that is begun comes to.
use Rattle.std.specs.Prelude.{ℕ, List, [], ◌++◌, map, Option, None, Some, ⊤}
use Rattle.spec_numbers.specs.Texts.{Text}
use Rattle.spec_terms.specs.Names.{named_pairs}
use Rattle.spec_terms.specs.Term.{Subst}
use Rattle.spec_terms.specs.Unifier.{Equation}
use Rattle.spec_syntax.specs.Trees.{Tree}
use Rattle.spec_branch.specs.Branch.{State, Item, Branch, Pending, no_work}
use Rattle.spec_branch.specs.Settling.{Settles, Kept, Why}
use Rattle.spec_branch.specs.Settling as outcome
use Rattle.spec_search.specs.Replies.{Place}
use Rattle.spec_search.specs.Search.{settled}
use Rattle.cq_term.specs.Texts.{text_of}
use Rattle.cq_control.specs.Items.{items_at}
use Rattle.cq_term.specs.Meaning.{HeapTerm}
use Rattle.cq_term.specs.Pairs.{equations}
use Rattle.cq_term.specs.declared.walk.pairs.Pair.{Pair}
use Rattle.cq_settle.specs.Contents.{Contents}
use Rattle.cq_settle.specs.Rest.{IsReadyAs}
use Rattle.spec_engine.specs.declared.machine.cell.Cell.{Cell}
use Rattle.spec_engine.specs.declared.machine.cell.Cell.TheVariants.{Call}
use Rattle.spec_engine.specs.Cells.{Value, Stack}
use Rattle.spec_engine.specs.Standing.{IsContinuation, KeepsReading}
use Rattle.cq_settle.specs.Settled.{IsKept}
use Rattle.cq_settle.specs.Equal.{IsWork}
use Rattle.cq_branch.specs.Lists.{HasCells}
use Rattle.cq_branch.specs.Worlds.{IsBranch, term_in, Placed}
use Rattle.cq_branch.specs.declared.begin.beginning.Begun.{Begun}
use Rattle.cq_branch.specs.declared.begin.beginning.Begun.TheVariants.{Goes, Pruned}

-- what the engine goes on with, if it doesn't come back
abbrev pub goes_to : Begun → Option ℕ
goes_to (Goes k) = Some k
goes_to Pruned = None

-- a fact of the continuation, where the branch is kept
abbrev pub IfGoes : Begun → (ℕ → Type 0) → Type 0
IfGoes (Goes k) P = P k
IfGoes Pruned P = ⊤

-- a fact, where it is pruned
abbrev pub IfPruned : Begun → Type 0 → Type 0
IfPruned (Goes k) P = ⊤
IfPruned Pruned P = P

-- ---- work

-- the trees of pairs of terms
abbrev pub trees_of_pairs : List Text → List HeapTerm → List Pair → List (Equation Text)
trees_of_pairs texts ts pairs = named_pairs (text_of texts) (equations ts pairs)

-- these terms are to be told
abbrev pub told_work : List Tree → Pending
told_work ts = record no_work { told = ts }

-- what holds of each state of the world, with the work that these pairs and told terms are
abbrev pub OfWork : List Text → Contents → List Pair → List ℕ → (State → Pending → Type 0) → Type 0
OfWork texts c pairs told P = (st : State) (p : Pending) → IsReadyAs texts c st → IsWork texts c st pairs told [] p → P st p

-- what holds of the state where a goal is selected with this continuation behind it
abbrev pub AtPlaces : List Text → Value Contents → ℕ → (State → Type 0) → Type 0
AtPlaces texts now rest P = (choices : Stack Contents) (p : Place) (behind : List Branch) → Placed texts choices now rest p behind → P p.state

-- ---- what it comes to

-- whatever the branch has to do, it is pruned
abbrev pub Prunes : State → Pending → Type 0
Prunes st p = (why : Why) × ((items : List Item) → Settles items st p (outcome.Pruned why))

-- goals as calls of them
abbrev pub calls : List ℕ → List Cell
calls goals = map (λ g. Call g) goals

-- the branch is kept, and the goals that woke are in front of the continuation
pub record HasWoken (texts : List Text) (old new : Contents) (lists later : List (List Cell)) (rest k : ℕ) (st : State) (p : Pending) (u : Subst Text)
    : Type 0 where
  pub goals : List ℕ
  pub kept : IsKept texts old new goals st p u
  pub cells : HasCells later k (calls goals ++ items_at lists rest)

-- the continuation stands for these items
abbrev pub IsPlacedAs : List Text → Stack Contents → Value Contents → ℕ → List Item → State → Type 0
IsPlacedAs texts choices now k items st = IsContinuation (IsBranch texts) (term_in texts) choices now k items st

-- The branch of these items with this work is kept. The continuation stands for the goals that woke and the items that are left,
-- and what was read is read on.
pub record IsBegun (texts : List Text) (choices : Stack Contents) (old new : Value Contents) (k : ℕ) (items : List Item) (st : State) (p : Pending)
    : Type 0 where
  pub left : List Item
  pub state : State
  pub settles : Settles items st p (Kept (settled left state))
  pub continuation : IsPlacedAs texts choices new k left state
  pub reads : KeepsReading (term_in texts) old.0 st new.0 state

-- each branch that the continuation stood for, with the work that these pairs and told terms are, is kept, and goes on so
abbrev pub GoesOn : List Text → Value Contents → Value Contents → List Pair → List ℕ → ℕ → ℕ → Type 0
GoesOn texts old new pairs told rest k = (choices : Stack Contents) (items : List Item) (st : State) (p : Pending)
    → IsPlacedAs texts choices old rest items st → IsWork texts old.0 st pairs told [] p → IsBegun texts choices old new k items st p
