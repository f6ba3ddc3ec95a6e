-- How an engine tries the alternatives of a predicate.
use Rattle.std.specs.Prelude.{◌≡◌, ◌<◌, ℕ, List, [], ◌∷◌, length, Option, None}
use Rattle.spec_numbers.specs.Prefixes.{IsPrefix}
use Rattle.spec_numbers.specs.Texts.{Text}
use Rattle.spec_terms.specs.Unifier.{Equation}
use Rattle.spec_branch.specs.Branch.{State, Item}
use Rattle.spec_search.specs.Database.{Database}
use Rattle.spec_search.specs.Replies.{with_equations}
use Rattle.spec_search.specs.Search.{Search}
use Rattle.cq_builtin.specs.Over.{equations_of, AreLive}
use Rattle.cq_store.specs.declared.store.StoreFault.{StoreFault}
use Rattle.cq_predicates.specs.Given.{CanGoOn, HasNoneBack, ways_left}
use Rattle.cq_predicates.specs.declared.solutions.Solutions.{Solutions}
use Rattle.cq_resolve.specs.Database.{Program}
use Rattle.cq_term.specs.HeapValue.{Terms}
use Rattle.cq_term.specs.Trees.{KnowsTerms}
use Rattle.cq_settle.specs.Contents.{Contents}
use Rattle.cq_settle.specs.Rest.{IsReadyAs}
use Rattle.spec_engine.specs.Cells.{Value, Stack}
use Rattle.cq_branch.specs.declared.alternatives.Alternatives.{Alternatives}
use Rattle.cq_branch.specs.declared.alternatives.Alternatives.TheVariants as alternatives
use Rattle.cq_branch.specs.Worlds.{Stands, Arrives, with_heap}
use Rattle.cq_branch.specs.Begun.{IsPlacedAs, IsBegun, Prunes}
use Rattle.cq_branch.specs.Stops.{FaultStops}
use Rattle.cq_choices.specs.Held.{Held, IsOver, open_of}
use Rattle.cq_choices.specs.declared.taking.Way.{Way}

-- the newest choice is of a predicate's alternatives
abbrev pub IsWays : List Alternatives → Type 0
IsWays choices = (s : Solutions) × (rest : ℕ) × (older : List Alternatives) × (choices ≡ alternatives.Ways s rest ∷ older)

-- the engine, which comes back, stands for some search
abbrev pub IsSearching : Held → Type 0
IsSearching h = (v : Program) × IsOver v h × (db : Database) × (n : ℕ) × (s : Search) × Stands h.texts v db n h.saved h.choices h.now None s

-- each search for which the engine stood, where it came back, comes quietly to one for which it stands now
abbrev pub ComesOver : Held → Held → Option ℕ → Type 0
ComesOver old new current = (v : Program) → IsOver v old → (steps : ℕ) (db : Database) (n : ℕ) (s : Search)
    → Stands old.texts v db n old.saved old.choices old.now None s → Arrives steps new.texts v db n new.saved new.choices new.now current s

-- each search for which it stood comes quietly to where its query stops for the fault
abbrev pub StopsOver : Held → ℕ → StoreFault → Type 0
StopsOver h pivots fault = (v : Program) → IsOver v h → (db : Database) (n : ℕ) (s : Search)
    → Stands h.texts v db n h.saved h.choices h.now None s → FaultStops pivots fault s

-- ---- an alternative that was taken

-- The next alternative of the newest choice was taken, and the others are still to come. The world is that of the choice, but
-- for terms and names that were added. The choice stands for no branch meanwhile.
pub record IsTaken (old new : Held) (w : Way) : Type 0 where
  pub start : Value Contents
  pub before : Solutions
  pub older : List (Value Contents × Alternatives)
  pub was : open_of old ≡ (start, alternatives.Ways before w.rest) ∷ older
  pub is : open_of new ≡ (start, alternatives.Barrier) ∷ older
  pub longer : IsPrefix old.texts new.texts
  pub built : Terms
  pub now : new.now ≡ (with_heap built start.0, start.1)
  pub terms : IsPrefix start.0.heap.terms built.terms
  pub images : built.images ≡ start.0.heap.images
  pub names : KnowsTerms new.texts built.terms
  pub next : ways_left old.texts start.0.heap.terms before ≡ equations_of new.texts built.terms w.alternative ∷ ways_left new.texts built.terms w.others
  pub can_go_back : CanGoOn start.0.heap.terms w.others
  pub can_go_on : CanGoOn built.terms w.others
  pub live : AreLive built.terms w.alternative
  pub free : HasNoneBack w.others

-- ---- its branch

-- the branch of each continuation with these equations is kept, and goes on so
abbrev pub EquationsGo : List Text → Value Contents → Value Contents → List (Equation Text) → ℕ → ℕ → Type 0
EquationsGo texts old new es rest k = (choices : Stack Contents) (items : List Item) (st : State)
    → IsPlacedAs texts choices old rest items st → IsBegun texts choices old new k items st (with_equations es)

-- what holds of each state of the world
abbrev pub AtStates : List Text → Contents → (State → Type 0) → Type 0
AtStates texts c P = (st : State) → IsReadyAs texts c st → P st

-- it is pruned
abbrev pub EquationsPrune : List Text → Contents → List (Equation Text) → Type 0
EquationsPrune texts c es = AtStates texts c (λ st. Prunes st (with_equations es))

-- what holds before each alternative that may have been taken so
abbrev pub AfterTaking : Held → Way → (Held → Type 0) → Type 0
AfterTaking h w P = (before : Held) → IsTaken before h w → P before

-- ---- how many are left

abbrev pub count_left : List Text → Value Contents → Alternatives → ℕ
count_left texts x (alternatives.One k) = 0
count_left texts x (alternatives.Clauses t walk k) = 0
count_left texts x (alternatives.Ways s k) = length (ways_left texts x.0.heap.terms s)
count_left texts x alternatives.Barrier = 0
count_left texts x (alternatives.Catches k) = 0
count_left texts x (alternatives.Caught ball c r k) = 0
count_left texts x (alternatives.Gathers t copies k) = 0
count_left texts x (alternatives.Matches t walk removes k) = 0

abbrev pub newest_count : List Text → List (Value Contents × Alternatives) → ℕ
newest_count texts [] = 0
newest_count texts (c ∷ older) = count_left texts c.0 c.1

-- the newest choice has fewer alternatives left than before
pub record HasFewer (old new : Held) : Type 0 where
  pub fewer : newest_count new.texts (open_of new) < newest_count old.texts (open_of old)
  pub ways : IsWays new.choices
