-- The branch that a search settles next, as an engine comes back to a choice.
use Rattle.std.specs.Prelude.{◌≡◌, ℕ, ◌+◌, List, [], ◌∷◌, length, Bool, Option, Some}
use Rattle.std.specs.List.{AllZip}
use Rattle.spec_numbers.specs.Texts.{Text}
use Rattle.spec_terms.specs.Term.{Subst, Var, apply}
use Rattle.spec_terms.specs.Variables.{variables}
use Rattle.spec_syntax.specs.Trees.{Tree, list_tree}
use Rattle.spec_builtins.specs.Alternatives.{◌≐◌}
use Rattle.spec_builtins.specs.Clauses.{HeadBody, rule, counted_on}
use Rattle.spec_branch.specs.Branch.{State, Item, Branch, Copied, Pending, no_work, read}
use Rattle.spec_search.specs.Balls.{caught_work}
use Rattle.spec_search.specs.Control.{call_of, clause_state}
use Rattle.spec_search.specs.Database.{Clause}
use Rattle.spec_search.specs.Replies.{Place, Landed, landed, with_new}
use Rattle.spec_search.specs.Search.{Search, look_at, Settling}
use Rattle.spec_engine.specs.Cells.{Value, Stack, Matches}
use Rattle.spec_engine.specs.Standing.{IsStoredAs, removed_by, IsContinuation, IsPlace, AreWaiting}

-- ---- stored copies that are put into a state

-- each variable with a number that is so much greater
abbrev pub moved_on : ℕ → Subst Text
moved_on n v = Var (n + v)

-- with their variables numbered on from n, one after another
abbrev pub placed : ℕ → List Tree → List Tree
placed n [] = []
placed n (t ∷ ts) = apply (moved_on n) t ∷ placed (n + length (variables t)) ts

-- how many variables they have
abbrev pub variables_of : List Tree → ℕ
variables_of [] = 0
variables_of (t ∷ ts) = length (variables t) + variables_of ts

-- they are landed: the state has their variables, and nothing is to be told
pub record IsLanded (st : State) (stored : List Tree) (l : Landed) : Type 0 where
  pub state : l.state ≡ with_new (variables_of stored) st
  pub terms : l.terms ≡ placed st.fresh stored
  pub rows : l.rows ≡ []
  pub told : l.told ≡ []

-- ---- work

-- the list of landed copies is unified with a findall's third argument
abbrev pub list_work : Tree → Landed → Pending
list_work t l = record no_work { equations = (t ≐ list_tree l.terms) ∷ []; rows = l.rows; told = l.told }

-- a clause under the next variables is to be the one that is asked for
abbrev pub match_work : Place → Bool → HeadBody → Clause → Pending
match_work p removes asked c =
    record no_work { equations = (rule asked ≐ rule (counted_on p.state.fresh c.parts)) ∷ []; removes = removed_by removes c }

-- ---- branches

module _ {W : Type 0} (IsState : W → State → Type 0) (term : W → ℕ → Option Tree) where
  -- the branch of a findall's list: copies that are stored as these, and the items of a continuation
  pub record MakesList (older : Stack W) (v : Value W) (t : ℕ) (stored : List Tree) (k : ℕ) (s : Search) : Type 0 where
    pub items : List Item
    pub state : State
    pub list : Tree
    pub copies : List Copied
    pub behind : List Branch
    pub look : look_at s.branches ≡ Settling items (landed state copies).state (list_work list (landed state copies)) behind
    pub are_stored : AllZip IsStoredAs copies stored
    pub reads : term v.0 t ≡ Some (read state list)
    pub continuation : IsContinuation IsState term older v k items state
    pub waiting : AreWaiting IsState term older behind

  -- the branch that a catch saved, with a ball that is stored as this; behind its woken goals it calls the recovery
  pub record TakesBall (older : Stack W) (v : Value W) (stored : Tree) (c r k : ℕ) (s : Search) : Type 0 where
    pub items : List Item
    pub state : State
    pub ball : Copied
    pub catcher : Tree
    pub recovery : Tree
    pub behind : List Branch
    pub look : look_at s.branches ≡ Settling (call_of recovery ∷ items) (landed state (ball ∷ [])).state (caught_work state ball catcher) behind
    pub is_stored : IsStoredAs ball stored
    pub reads_catcher : term v.0 c ≡ Some (read state catcher)
    pub reads_recovery : term v.0 r ≡ Some (read state recovery)
    pub continuation : IsContinuation IsState term older v k items state
    pub waiting : AreWaiting IsState term older behind

  -- the branch of a clause that is compared with the one asked for, before those of the other clauses
  pub record ComparesClause (older : Stack W) (v : Value W) (t : ℕ) (removes : Bool) (c : Clause) (cs : List Clause) (k : ℕ) (s : Search) : Type 0 where
    pub place : Place
    pub asked : HeadBody
    pub behind : List Branch
    pub look : look_at s.branches ≡ Settling place.rest (clause_state place c) (match_work place removes asked c) behind
    pub reads : term v.0 t ≡ Some (rule asked)
    pub is_place : IsPlace IsState term older v k place
    pub waiting : AreWaiting IsState term ((v, Matches t removes cs k) ∷ older) behind
