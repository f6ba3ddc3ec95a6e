-- What a goal that calls a user predicate becomes.
use Rattle.std.specs.Prelude.{◌≡◌, ◌<◌, ℕ, List, [], ◌∷◌, ◌++◌, length, map, Option, Some, None, ⊤}
use Rattle.spec_numbers.specs.Texts.{Text}
use Rattle.spec_syntax.specs.Operators.{Ops}
use Rattle.spec_syntax.specs.Trees.{Tree}
use Rattle.spec_builtins.specs.Built.{indicator_of}
use Rattle.spec_builtins.specs.Errors.{existence_error}
use Rattle.spec_branch.specs.Branch.{Branch}
use Rattle.spec_search.specs.Control.{clause_child, user_row}
use Rattle.spec_search.specs.Database.{Clause, Database}
use Rattle.spec_search.specs.Replies.{Place, Raises, Calls}
use Rattle.spec_search.specs.Search.{Search}
use Rattle.spec_search.specs.Steps.{IsSelection}
use Rattle.cq_term.specs.Meaning.{at}
use Rattle.cq_term.specs.Texts.{AreDifferent}
use Rattle.cq_clauses.specs.Walks.{left}
use Rattle.cq_clauses.specs.declared.walk.Walk.{Walk}
use Rattle.cq_control.specs.Items.{ContinuationsValue}
use Rattle.cq_resolve.specs.Database.{Program, IsProgram, as_clause, as_database, as_indicator}
use Rattle.cq_resolve.specs.Keys.{key_of}
use Rattle.cq_resolve.specs.StoredValue.{ClauseValue}
use Rattle.cq_term.specs.declared.names.Pred.{Pred}
use Rattle.cq_settle.specs.Contents.{Contents}
use Rattle.cq_settle.specs.Worlds.{now_of}
use Rattle.cq_settle.specs.declared.world.World.{World}
use Rattle.spec_engine.specs.declared.machine.cell.Cell.{Cell}
use Rattle.spec_engine.specs.Cells.{Clauses, Value, Stack}
use Rattle.spec_engine.specs.Coming.{Comes}
use Rattle.spec_engine.specs.Standing.{engine, IsStanding}
use Rattle.cq_branch.specs.Lists.{KeepsLists}
use Rattle.cq_branch.specs.Worlds.{IsBranch, term_in, saved_values, stack, ReadsAs, Placed, Arrives}
use Rattle.cq_branch.specs.declared.alternatives.Alternatives.{Alternatives}
use Rattle.cq_calls.specs.Matching.{Narrows}
use Rattle.cq_calls.specs.declared.calling.Called.{Called}
use Rattle.cq_calls.specs.declared.calling.Called.TheVariants.{Goes, Back, Unknown}

-- At the place the goal of a number calls the predicate: the place's database is that of the clauses, by names with these texts.
pub record IsCalledAt (texts : List Text) (v : Program) (choices : Stack Contents) (now : Value Contents) (pred : Pred) (id rest : ℕ)
    (p : Place) (behind : List Branch) (goal : Tree) : Type 0 where
  pub different : AreDifferent texts
  pub program : IsProgram texts v
  pub operators : Ops
  pub database : p.database ≡ as_database texts operators v
  pub place : Placed texts choices now rest p behind
  pub reads : ReadsAs texts now.0 p.state id goal
  pub name : pred.name < length texts
  pub indicator : as_indicator texts pred ≡ indicator_of goal

-- The goal's row calls clauses, of which some are tried. From each search in which their branches stand in front of those that were
-- there the engine comes quietly to stand for one. It goes on with the continuation, if it doesn't come back.
pub record CallBecomes (texts : List Text) (choices : Stack Contents) (now : Value Contents) (current : Option ℕ) (p : Place) (behind : List Branch)
    (goal : Tree) : Type 0 where
  pub all : List Clause
  pub some : List Clause
  pub row : user_row p (indicator_of goal) ≡ Calls all
  pub selection : IsSelection p goal all some
  pub comes : (steps : ℕ) (s : Search) → s.database ≡ p.database → s.branches ≡ map (clause_child p goal) some ++ behind
      → Comes (IsBranch texts) (term_in texts) steps (engine p.database s.selected choices now current) s

-- the call's clauses are tried, or there is no such procedure
abbrev pub HasCalled : Called → List Text → Stack Contents → Value Contents → Place → List Branch → Tree → Type 0
HasCalled (Goes k) texts choices now p behind goal = CallBecomes texts choices now (Some k) p behind goal
HasCalled Back texts choices now p behind goal = CallBecomes texts choices now None p behind goal
HasCalled Unknown texts choices now p behind goal = user_row p (indicator_of goal) ≡ Raises (existence_error (indicator_of goal))

-- a fact of the continuation that the engine goes on with
abbrev pub IfCalledGoes : Called → (ℕ → Type 0) → Type 0
IfCalledGoes (Goes k) P = P k
IfCalledGoes Back P = ⊤
IfCalledGoes Unknown P = ⊤

-- The choices and the world are as they were; more continuations may be there.
pub record IsStill (old new : World) (earlier later : ContinuationsValue Cell) (before after : List Alternatives) : Type 0 where
  pub choices : after ≡ before
  pub saved : saved_values new later.saved ≡ saved_values old earlier.saved
  pub world : now_of new ≡ now_of old
  pub lists : KeepsLists earlier.now later.now

-- ---- the clauses of a call

-- the clauses that a walk leaves, by number
abbrev pub numbers_left : Program → Walk → List ℕ
numbers_left v walk = left (λ (c : ClauseValue). key_of c.head) walk v

-- the walk leaves this clause first, and behind it those of another
abbrev pub LeavesFirst : Program → Walk → ℕ → Walk → Type 0
LeavesFirst v walk n behind = numbers_left v walk ≡ n ∷ numbers_left v behind

-- The engine would stand for the search where it came back to one more choice, of these clauses of a call in this world.
abbrev pub WouldStand : List Text → Program → List (Value Contents) → List Alternatives → Value Contents → ℕ → List ℕ → ℕ → Database → ℕ → Search → Type 0
WouldStand texts v saved choices now id ns rest db n s =
    IsStanding (IsBranch texts) (term_in texts) (engine db n ((now, Clauses id (map (as_clause texts v.contents) ns) rest) ∷ stack texts v saved choices) now None) s

-- each such search comes quietly to one for which an engine stands that has these choices and goes on with the continuation
abbrev pub WouldCome : List Text → Program → List (Value Contents) → List Alternatives → Value Contents → ℕ → List ℕ → ℕ
    → List (Value Contents) → List Alternatives → Value Contents → Option ℕ → Type 0
WouldCome texts v saved choices now id ns rest more after later current = (steps : ℕ) (db : Database) (n : ℕ) (s : Search)
    → WouldStand texts v saved choices now id ns rest db n s → Arrives steps texts v db n more after later current s

-- so it is with some of the clauses that a walk leaves, of which only those are left out whose head nothing makes equal to the goal
pub record WalkComes (texts : List Text) (v : Program) (saved : List (Value Contents)) (choices : List Alternatives) (now : Value Contents) (id : ℕ) (walk : Walk) (rest : ℕ)
    (more : List (Value Contents)) (after : List Alternatives) (later : Value Contents) (current : Option ℕ) : Type 0 where
  pub some : List ℕ
  pub narrows : Narrows v (at now.0.heap.terms id) (numbers_left v walk) some
  pub comes : WouldCome texts v saved choices now id some rest more after later current
