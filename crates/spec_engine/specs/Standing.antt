-- How an engine stands for a search: its choices hold branches that are not made yet.
use Rattle.std.specs.Prelude.{◌≡◌, ℕ, ◌<◌, List, [], ◌∷◌, ◌++◌, map, length, Bool, true, false, Option, Some, None}
use Rattle.std.specs.List.{AllZip}
use Rattle.spec_terms.specs.Variables.{renamed_from}
use Rattle.spec_syntax.specs.Trees.{Tree}
use Rattle.spec_builtins.specs.Built.{compound1}
use Rattle.spec_builtins.specs.Clauses.{HeadBody, rule}
use Rattle.spec_branch.specs.Branch as branch
use Rattle.spec_branch.specs.Branch.{State, Item, Branch, Copied, no_work, plain_copy, read}
use Rattle.spec_search.specs.Changes.{clause_match}
use Rattle.spec_search.specs.Database.{Database, Clause}
use Rattle.spec_search.specs.Replies.{Place, child, alternative_child}
use Rattle.spec_search.specs.Control.{clause_child}
use Rattle.spec_search.specs.Balls as balls
use Rattle.spec_search.specs.Balls.{caught_branch, handed}
use Rattle.spec_search.specs.Search.{Search, settled}
use Rattle.cq_control.specs.Heights.{total}
use Rattle.cq_control.specs.Items.{items_at}
use Rattle.spec_engine.specs.declared.machine.cell.Cell.{Cell}
use Rattle.spec_engine.specs.declared.machine.cell.Cell.TheVariants.{Goal, Call, CutTo, CutFail, CatchEnd, Collect}
use Rattle.spec_engine.specs.Cells.{Fits, Left, One, Clauses, Ways, Barrier, Catches, Caught, Gathers, Matches, size, Value, Stack, below, catch_at, GathersAt}

-- an engine: the database, how many goals were selected, the choices, the world and the continuations now, and the
-- continuation that it goes on with, if it doesn't come back
pub record Machine (W : Type 0) : Type 0 where
  pub database : Database
  pub selected : ℕ
  pub choices : Stack W
  pub now : Value W
  pub current : Option ℕ

-- a machine of these parts
abbrev pub engine : {W : Type 0} → Database → ℕ → Stack W → Value W → Option ℕ → Machine W
engine db n choices now k = record { database = db; selected = n; choices = choices; now = now; current = k }

-- the copy carries nothing, and is stored as this: its term, with the variables numbered from 0 on by first occurrence
pub record IsStoredAs (c : Copied) (stored : Tree) : Type 0 where
  pub plain : c ≡ plain_copy c.term
  pub renamed : stored ≡ renamed_from 0 c.term

-- the clause that is removed once the branch is kept, if clauses are
abbrev pub removed_by : Bool → Clause → Option ℕ
removed_by true c = Some c.number
removed_by false c = None

-- Over worlds that are states of branches, and that read some numbers as terms.
module _ {W : Type 0} (IsState : W → State → Type 0) (term : W → ℕ → Option Tree) where
  -- The cells stand for these items of a branch, over these choices. A term of the branch reads in its state as the world
  -- reads the term of the cell. What is behind the end of a catch reads so in the state of its call, too, which the choice at its
  -- height keeps, with the continuation of these cells: a ball goes on there. At the height of a findall's mark a choice gathers.
  abbrev pub AreItems : Stack W → W → State → List Cell → List Item → Type 0
  AreItems choices w st [] items = items ≡ []
  AreItems choices w st (Goal t cut ∷ cs) items =
      (goal : Tree) × (more : List Item) × (items ≡ branch.Goal goal (below choices cut) ∷ more) × (term w t ≡ Some (read st goal))
      × AreItems choices w st cs more
  AreItems choices w st (Call t ∷ cs) items =
      (goal : Tree) × (height : ℕ) × (more : List Item) × (items ≡ branch.Goal (compound1 "call" goal) height ∷ more)
      × (term w t ≡ Some (read st goal)) × AreItems choices w st cs more
  AreItems choices w st (CutTo h ∷ cs) items =
      (more : List Item) × (items ≡ branch.CutTo (below choices h) ∷ more) × AreItems choices w st cs more
  AreItems choices w st (CutFail h ∷ cs) items =
      (more : List Item) × (items ≡ branch.CutFail (below choices h) ∷ more) × AreItems choices w st cs more
  AreItems choices w st (CatchEnd h c r ∷ cs) items =
      (call : Value W × ℕ) × (saved : State) × (catcher : Tree) × (recovery : Tree) × (more : List Item)
      × (items ≡ branch.CatchEnd (below choices h) saved catcher recovery ∷ more)
      × (catch_at choices h ≡ Some call) × (call.1 < length call.0.1) × (items_at call.0.1 call.1 ≡ cs) × IsState call.0.0 saved
      × (term call.0.0 c ≡ Some (read saved catcher)) × (term call.0.0 r ≡ Some (read saved recovery))
      × AreItems choices call.0.0 saved cs more × AreItems choices w st cs more
  AreItems choices w st (Collect h t ∷ cs) items =
      (template : Tree) × (more : List Item) × (items ≡ branch.Collect (below choices h) template ∷ more)
      × GathersAt choices h × (term w t ≡ Some (read st template)) × AreItems choices w st cs more

  -- The continuation of this number stands for these items in this state: its cells speak of choices that are there.
  pub record IsContinuation (choices : Stack W) (v : Value W) (k : ℕ) (items : List Item) (st : State) : Type 0 where
    pub there : k < length v.1
    pub fits : Fits (length choices) (items_at v.1 k)
    pub state : IsState v.0 st
    pub cells : AreItems choices v.0 st (items_at v.1 k) items

  -- where the goal of a call or of a predicate was selected, with this continuation behind it
  pub record IsPlace (older : Stack W) (v : Value W) (k : ℕ) (p : Place) : Type 0 where
    pub continuation : IsContinuation older v k p.rest p.state
    pub height : p.height ≡ total size older

  -- what a choice stands for, over the older ones
  abbrev pub AreBranches : Stack W → Value W → Left → List Branch → Type 0
  AreBranches older v (One k) bs =
      (items : List Item) × (st : State) × (bs ≡ child items st no_work ∷ []) × IsContinuation older v k items st
  AreBranches older v (Clauses t cs k) bs =
      (p : Place) × (goal : Tree) × (bs ≡ map (clause_child p goal) cs) × (term v.0 t ≡ Some goal) × IsPlace older v k p
  AreBranches older v (Ways ways k) bs = (p : Place) × (bs ≡ map (alternative_child p) ways) × IsPlace older v k p
  AreBranches older v Barrier bs = bs ≡ []
  AreBranches older v (Catches k) bs = bs ≡ []
  AreBranches older v (Caught stored c r k) bs =
      (items : List Item) × (st : State) × (ball : Copied) × (catcher : Tree) × (recovery : Tree)
      × (bs ≡ caught_branch ball st catcher recovery items ∷ []) × IsStoredAs ball stored
      × (term v.0 c ≡ Some (read st catcher)) × (term v.0 r ≡ Some (read st recovery)) × IsContinuation older v k items st
  AreBranches older v (Gathers t stored k) bs =
      (items : List Item) × (st : State) × (list : Tree) × (copies : List Copied)
      × (bs ≡ child (branch.Gathered list copies ∷ items) st no_work ∷ []) × AllZip IsStoredAs copies stored
      × (term v.0 t ≡ Some (read st list)) × IsContinuation older v k items st
  AreBranches older v (Matches t removes cs k) bs =
      (p : Place) × (asked : HeadBody) × (bs ≡ map (clause_match p (removed_by removes) asked) cs) × (term v.0 t ≡ Some (rule asked))
      × IsPlace older v k p

  -- what the choices stand for, those of the newest first
  abbrev pub AreWaiting : Stack W → List Branch → Type 0
  AreWaiting [] bs = bs ≡ []
  AreWaiting (c ∷ older) bs =
      (own : List Branch) × (behind : List Branch) × (bs ≡ own ++ behind) × AreBranches older c.0 c.1 own × AreWaiting older behind

  -- the branch that the engine goes on with, if it doesn't come back
  abbrev pub IsCurrent : Stack W → Value W → Option ℕ → List Branch → Type 0
  IsCurrent choices now None bs = bs ≡ []
  IsCurrent choices now (Some k) bs =
      (items : List Item) × (st : State) × (bs ≡ settled items st ∷ []) × IsContinuation choices now k items st

  pub record IsStanding (m : Machine W) (s : Search) : Type 0 where
    pub database : s.database ≡ m.database
    pub selected : s.selected ≡ m.selected
    pub first : List Branch
    pub behind : List Branch
    pub branches : s.branches ≡ first ++ behind
    pub current : IsCurrent m.choices m.now m.current first
    pub waiting : AreWaiting m.choices behind

  -- A ball that comes up in front of these items is handed to the end of a catch, of this height, with these two other arguments
  -- and these cells behind it: to the branch that the catch saved, in the world that the choice at the height keeps, with the
  -- continuation of these cells.
  pub record IsHanded (choices : Stack W) (ball : Copied) (items : List Item) (behind : List Branch) (c : ℕ × ℕ × ℕ × List Cell) : Type 0 where
    pub call : Value W × ℕ
    pub saved : State
    pub catcher : Tree
    pub recovery : Tree
    pub left : List Item
    pub is : handed ball items behind ≡ Some (caught_branch ball saved catcher recovery left ∷ balls.last (below choices c.0) behind)
    pub kept : catch_at choices c.0 ≡ Some call
    pub there : call.1 < length call.0.1
    pub behind_it : items_at call.0.1 call.1 ≡ c.3
    pub state : IsState call.0.0 saved
    pub reads_catcher : term call.0.0 c.1 ≡ Some (read saved catcher)
    pub reads_recovery : term call.0.0 c.2 ≡ Some (read saved recovery)
    pub cells : AreItems choices call.0.0 saved c.3 left

-- ---- changes of a world

-- what a world read as a term of a state, another one reads as that term of another state
abbrev pub KeepsReading : {W : Type 0} → (W → ℕ → Option Tree) → W → State → W → State → Type 0
KeepsReading term w st v su = (id : ℕ) (t : Tree) → term w id ≡ Some (read st t) → term v id ≡ Some (read su t)

-- a world that is a state in one way of reading is it in another way, too, which reads each term as the first does
abbrev pub ReadsOn : {W : Type 0} → (W → State → Type 0) → (W → ℕ → Option Tree) → (W → State → Type 0) → (W → ℕ → Option Tree) → Type 0
ReadsOn {W} IsState term IsOther other =
    (w : W) (st : State) → IsState w st → IsOther w st × ((id : ℕ) (t : Tree) → term w id ≡ Some t → other w id ≡ Some t)
