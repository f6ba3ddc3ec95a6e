-- What becomes of a catch that has a ball.
use Rattle.std.specs.Prelude.{◌≡◌, ℕ, List, [], ◌∷◌, length, None, Some, ⊤}
use Rattle.spec_numbers.specs.Texts.{Text}
use Rattle.spec_syntax.specs.Trees.{Tree}
use Rattle.spec_branch.specs.Branch.{State, Item, Copied, Pending, read}
use Rattle.spec_search.specs.Balls.{caught_work}
use Rattle.spec_search.specs.Control.{call_of}
use Rattle.spec_search.specs.Replies.{landed}
use Rattle.spec_search.specs.Database.{Database}
use Rattle.spec_search.specs.Search.{Search}
use Rattle.spec_search.specs.Turns.{Threw}
use Rattle.spec_transcript.specs.Causes.{Budgets}
use Rattle.spec_engine.specs.Cells.{Value, Stack}
use Rattle.spec_engine.specs.Coming.{Tells, Shows}
use Rattle.spec_engine.specs.Standing.{IsStoredAs}
use Rattle.cq_resolve.specs.Database.{Program}
use Rattle.cq_resolve.specs.StoredValue.{StoredValue}
use Rattle.cq_branch.specs.Stored.{IsCountedTerm, stored_tree}
use Rattle.cq_branch.specs.Worlds.{Stands, term_in}
use Rattle.cq_settle.specs.Contents.{Contents}
use Rattle.cq_settle.specs.Rest.{IsReadyAs}
use Rattle.cq_branch.specs.Begun.{IsPlacedAs, IsBegun}
use Rattle.cq_choices.specs.Held.{Held, IsOver}
use Rattle.cq_choices.specs.Trying.{ComesOver}
use Rattle.cq_catch.specs.declared.saved.taking.Taken.{Taken}
use Rattle.cq_catch.specs.declared.saved.taking.Taken.TheVariants as taken

-- From the search a ball that nothing catches is told next, which is stored so. The engine stands for the search then: no branch is
-- left.
pub record Escapes (budgets : Budgets) (v : Program) (new : Held) (stored : StoredValue) (db : Database) (n : ℕ) (s : Search) : Type 0 where
  pub ball : Copied
  pub is_stored : IsStoredAs ball (stored_tree new.texts stored)
  pub next : Search
  pub tells : Tells budgets s (Shows (Threw ball)) next
  pub stands : Stands new.texts v db n new.saved new.choices new.now None next

-- each search for which the engine stood, where it came back, tells a ball so
abbrev pub EscapesOver : Held → Held → StoredValue → Type 0
EscapesOver old new stored = (budgets : Budgets) (v : Program) → IsOver v old → (db : Database) (n : ℕ) (s : Search)
    → Stands old.texts v db n old.saved old.choices old.now None s → Escapes budgets v new stored db n s

-- what the engine comes to, by what became of the ball
abbrev pub TakesTo : Held → Held → Taken → Type 0
TakesTo old new (taken.Goes k) = ComesOver old new (Some k)
TakesTo old new taken.HandedOn = ComesOver old new None
TakesTo old new (taken.Escaped ball) = EscapesOver old new ball

-- a ball that nothing catches has names with texts, and no choice is left
abbrev pub IsGone : Held → Taken → Type 0
IsGone new (taken.Goes k) = ⊤
IsGone new taken.HandedOn = ⊤
IsGone new (taken.Escaped ball) = IsCountedTerm (length new.texts) ball × (new.choices ≡ [])

-- ---- its branch

-- in the world the ball is stored so, and its catcher and recovery read so
pub record IsBallAt (texts : List Text) (c : Contents) (stored : StoredValue) (catcher recovery : ℕ) (st : State) (ball : Copied) (x y : Tree) : Type 0 where
  pub is_stored : IsStoredAs ball (stored_tree texts stored)
  pub reads_catcher : term_in texts c catcher ≡ Some (read st x)
  pub reads_recovery : term_in texts c recovery ≡ Some (read st y)

-- the branch that a catch saved is kept, and goes on so: behind its woken goals it calls the recovery
abbrev pub BallGoes : List Text → Value Contents → Value Contents → StoredValue → ℕ → ℕ → ℕ → ℕ → Type 0
BallGoes texts old new stored catcher recovery rest k =
    (choices : Stack Contents) (items : List Item) (st : State) (ball : Copied) (x y : Tree) → IsPlacedAs texts choices old rest items st
    → IsBallAt texts old.0 stored catcher recovery st ball x y
    → IsBegun texts choices old new k (call_of y ∷ items) (landed st (ball ∷ [])).state (caught_work st ball x)

-- what holds of its state and its work
abbrev pub OfBall : List Text → Contents → StoredValue → ℕ → (State → Pending → Type 0) → Type 0
OfBall texts c stored catcher P = (st : State) (ball : Copied) (x : Tree) → IsReadyAs texts c st → IsStoredAs ball (stored_tree texts stored)
    → term_in texts c catcher ≡ Some (read st x) → P (landed st (ball ∷ [])).state (caught_work st ball x)

-- where it is pruned the ball goes on in front of the same items, in the state with the ball's variables
abbrev pub CarriesBall : List Text → Value Contents → Value Contents → StoredValue → ℕ → Type 0
CarriesBall texts old new stored rest =
    (choices : Stack Contents) (items : List Item) (st : State) (ball : Copied) → IsPlacedAs texts choices old rest items st
    → IsStoredAs ball (stored_tree texts stored) → IsPlacedAs texts choices new rest items (landed st (ball ∷ [])).state
