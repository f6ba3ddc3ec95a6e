-- What an engine's query tells, and for which search the engine stands then.
use Rattle.std.specs.Prelude.{◌≡◌, ◌<◌, ◌≤◌, ◌∷◌, [], ℕ, length}
use Rattle.spec_numbers.specs.Prefixes.{IsPrefix}
use Rattle.spec_numbers.specs.Texts.{Text}
use Rattle.spec_branch.specs.Branch.{State, Copied}
use Rattle.spec_search.specs.Search.{Search}
use Rattle.spec_search.specs.Turns.{Answered, Ended, Threw, Wrote, with_branches}
use Rattle.spec_transcript.specs.Causes.{Budgets, Cause}
use Rattle.spec_engine.specs.Coming.{Quietly, Told, Tells, Shows, Stops}
use Rattle.spec_engine.specs.Standing.{IsStoredAs}
use Rattle.cq_resolve.specs.StoredValue.{StoredValue}
use Rattle.cq_branch.specs.Stored.{IsCountedTerm, stored_tree}
use Rattle.cq_branch.specs.Worlds.{IsBranch, KnowsNothing}
use Rattle.cq_machine.specs.Machines.{IsSound, now, database_of}
use Rattle.cq_engine.specs.Fronts.{as_cause}
use Rattle.cq_engine.specs.Seeking.{IsKept, StandsFor, ComesTo}
use Rattle.cq_engine.specs.declared.events.engine.Engine.{Engine}
use Rattle.cq_engine.specs.declared.events.event.Event.{Event}
use Rattle.cq_engine.specs.declared.events.event.Event.TheVariants.{Answer, Output, Fail, Ball, Stop}

-- the engine stands for the search
abbrev pub Stands : Engine → Search → Type 0
Stands e s = StandsFor e.machine e.selected e.current s

-- the search comes quietly to one for which the engine stands
abbrev pub Arrives : ℕ → Engine → Search → Type 0
Arrives steps e s = ComesTo steps e.machine e.selected e.current s

-- it stands for some search, which selected no more goals than it may
pub record IsRunning (e : Engine) : Type 0 where
  pub kept : IsKept e.machine
  pub search : Search
  pub stands : Stands e search
  pub within : e.selected ≤ e.steps

-- it has no query, and nothing is known of its terms but themselves
pub record IsIdle (e : Engine) : Type 0 where
  pub sound : IsSound e.machine
  pub nothing : KnowsNothing e.machine.atoms (now e.machine).0
  pub lists : e.machine.world.second.now ≡ [] ∷ []
  pub choices : e.machine.choices ≡ []

-- ---- budgets

-- these are its budgets
pub record HasBudgets (budgets : Budgets) (e : Engine) : Type 0 where
  pub steps : budgets.steps ≡ e.steps
  pub pivots : budgets.pivots ≡ e.machine.world.first.store.pivots

-- names may have been added at the end, and the budgets are the same
pub record Keeps (old new : Engine) : Type 0 where
  pub atoms : IsPrefix old.machine.atoms new.machine.atoms
  pub steps : new.steps ≡ old.steps
  pub pivots : new.machine.world.first.store.pivots ≡ old.machine.world.first.store.pivots

-- its world and its program are the same
pub record HasSameWorld (old new : Engine) : Type 0 where
  pub world : new.machine.world.first ≡ old.machine.world.first
  pub atoms : new.machine.atoms ≡ old.machine.atoms
  pub database : database_of new.machine ≡ database_of old.machine

-- ---- what is told

-- from the search this is told next, and the engine stands for the search then
pub record TellsNext (budgets : Budgets) (e : Engine) (told : Told) (s : Search) : Type 0 where
  pub next : Search
  pub tells : Tells budgets s told next
  pub stands : Stands e next

-- from the search a text is written next, and the search then comes quietly to one for which the engine stands
pub record WritesNext (budgets : Budgets) (e : Engine) (text : Text) (s : Search) : Type 0 where
  pub next : Search
  pub tells : Tells budgets s (Shows (Wrote text)) next
  pub comes : Arrives budgets.steps e next

-- the search answers next: the engine's world is the state of the answer's branch
pub record AnswersNext (budgets : Budgets) (e : Engine) (s : Search) : Type 0 where
  pub state : State
  pub is_state : IsBranch e.machine.atoms (now e.machine).0 state
  pub tells : TellsNext budgets e (Shows (Answered state (database_of e.machine).operators)) s

-- a ball comes up next that nothing catches, which is stored so; its names have texts
pub record ThrowsNext (budgets : Budgets) (e : Engine) (stored : StoredValue) (s : Search) : Type 0 where
  pub counted : IsCountedTerm (length e.machine.atoms) stored
  pub ball : Copied
  pub is_stored : IsStoredAs ball (stored_tree e.machine.atoms stored)
  pub tells : TellsNext budgets e (Shows (Threw ball)) s

-- the query stops next for the cause, with the engine's program. The engine stands for a search without branches, of one that was
-- come to quietly before.
pub record StopsNext (budgets : Budgets) (e : Engine) (cause : Cause) (s : Search) : Type 0 where
  pub last : Search
  pub tells : Tells budgets s (Stops cause) last
  pub database : last.database ≡ database_of e.machine
  pub reached : Search
  pub quiet : Quietly budgets.steps s reached
  pub stands : Stands e (with_branches [] reached)

-- the event is what the search tells next
abbrev pub Gives : Budgets → Engine → Event → Search → Type 0
Gives budgets e Answer s = AnswersNext budgets e s
Gives budgets e (Output text) s = WritesNext budgets e text.items s
Gives budgets e Fail s = TellsNext budgets e (Shows Ended) s
Gives budgets e (Ball stored) s = ThrowsNext budgets e stored s
Gives budgets e (Stop cause) s = StopsNext budgets e (as_cause cause) s

-- the event is what each search for which the engine stood tells next
abbrev pub GivesNext : Engine → Engine → Event → Type 0
GivesNext old new event = (budgets : Budgets) → HasBudgets budgets old → (s : Search) → Stands old s → Gives budgets new event s

-- a text is written by a goal that was selected since
abbrev pub HasCounted : Engine → Engine → Event → Type 0
HasCounted old new Answer = old.selected ≤ new.selected
HasCounted old new (Output text) = old.selected < new.selected
HasCounted old new Fail = old.selected ≤ new.selected
HasCounted old new (Ball stored) = old.selected ≤ new.selected
HasCounted old new (Stop cause) = old.selected ≤ new.selected

-- each search for which it stood comes quietly to one for which it stands now
abbrev pub GoesOn : Engine → Engine → Type 0
GoesOn old new = (s : Search) → Stands old s → Arrives old.steps new s
