-- How a call begins one of its clauses.
use Rattle.std.specs.Prelude.{◌≡◌, ℕ, ◌≤◌, List, ◌∷◌, length, Some, if◌then◌else◌}
use Rattle.spec_numbers.specs.Texts.{Text}
use Rattle.spec_syntax.specs.Trees.{Tree}
use Rattle.spec_builtins.specs.Built.{is_atom}
use Rattle.spec_builtins.specs.Kinds.{is_callable}
use Rattle.spec_branch.specs.Branch.{State, Branch, Pending}
use Rattle.spec_search.specs.Control.{clause_items, clause_state, clause_work}
use Rattle.spec_search.specs.Database.{Clause}
use Rattle.spec_search.specs.Replies.{Place}
use Rattle.spec_search.specs.Search.{Search, look_at, Settling}
use Rattle.cq_control.specs.Items.{items_at}
use Rattle.cq_resolve.specs.Database.{as_parts}
use Rattle.cq_resolve.specs.StoredValue.{ClauseValue}
use Rattle.cq_settle.specs.Contents.{Contents}
use Rattle.spec_engine.specs.declared.machine.cell.Cell.{Cell}
use Rattle.spec_engine.specs.Cells.{Fits, Value, Stack, below}
use Rattle.spec_engine.specs.Standing.{engine, AreWaiting}
use Rattle.spec_engine.specs.Coming as coming
use Rattle.cq_branch.specs.Lists.{put_cell}
use Rattle.cq_branch.specs.Worlds.{IsBranch, term_in}
use Rattle.cq_branch.specs.declared.begin.beginning.Begun.{Begun}
use Rattle.cq_branch.specs.Begun.{IsPlacedAs, goes_to}

-- a clause's body, of this number, in front of others; the body `true` is none
abbrev pub body_cells : Tree → ℕ → ℕ → List Cell → List Cell
body_cells t id height cs = if is_atom "true" t then cs else put_cell (is_callable t) id height ∷ cs

-- At the place the goal of a number calls the clause, which is kept so. A cut in its body goes back to the height of the choices.
pub record IsCallOf (texts : List Text) (choices : Stack Contents) (now : Value Contents) (id height rest : ℕ) (kept : ClauseValue) (p : Place) (goal : Tree)
    (c : Clause) : Type 0 where
  pub place : IsPlacedAs texts choices now rest p.rest p.state
  pub within : height ≤ length choices
  pub goes_back : p.height ≡ below choices height
  pub fits : Fits height (items_at now.1 rest)
  pub reads : term_in texts now.0 id ≡ Some goal
  pub parts : c.parts ≡ as_parts texts kept

-- what holds of the state and the work of the clause's branch
abbrev pub OfClause : List Text → Value Contents → ℕ → ℕ → ℕ → ClauseValue → (State → Pending → Type 0) → Type 0
OfClause texts now id height rest kept P = (choices : Stack Contents) (p : Place) (goal : Tree) (c : Clause)
    → IsCallOf texts choices now id height rest kept p goal c → P (clause_state p c) (clause_work p goal c)

-- the engine comes from the clause's branch to stand for what becomes of it
abbrev pub ClauseComes : List Text → Value Contents → Value Contents → ℕ → ℕ → ℕ → ClauseValue → Begun → Type 0
ClauseComes texts old new id height rest kept b = (choices : Stack Contents) (p : Place) (goal : Tree) (c : Clause)
    → IsCallOf texts choices old id height rest kept p goal c
    → (steps : ℕ) (s : Search) (behind : List Branch) → look_at s.branches ≡ Settling (clause_items p c) (clause_state p c) (clause_work p goal c) behind
    → AreWaiting (IsBranch texts) (term_in texts) choices behind
    → coming.Comes (IsBranch texts) (term_in texts) steps (engine s.database s.selected choices new (goes_to b)) s
