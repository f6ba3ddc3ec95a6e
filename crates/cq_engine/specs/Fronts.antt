-- What an engine tells before a goal is selected.
use Rattle.std.specs.Prelude.{◌≡◌, ◌<◌, ℕ, suc, [], ◌∷◌, length, Option, None, Some, ⊤}
use Rattle.spec_branch.specs.Branch.{State}
use Rattle.spec_search.specs.Search.{Search}
use Rattle.spec_search.specs.Turns.{Answered, Ended, with_branches}
use Rattle.spec_transcript.specs.Causes.{Budgets}
use Rattle.spec_transcript.specs.Causes as why
use Rattle.cq_control.specs.Items.{items_at}
use Rattle.cq_control.specs.Heights.{total}
use Rattle.cq_catch.specs.Gathering.{IsMark}
use Rattle.cq_branch.specs.Stored.{IsCountedTerm}
use Rattle.cq_branch.specs.Worlds.{IsBranch}
use Rattle.spec_engine.specs.declared.machine.cell.Cell.{Cell}
use Rattle.spec_engine.specs.declared.machine.cell.Cell.TheVariants.{Goal, Call, CutTo, CutFail, CatchEnd, Collect}
use Rattle.spec_engine.specs.Cells.{size}
use Rattle.spec_engine.specs.Coming.{Quietly, Tells, Shows, Stops}
use Rattle.cq_machine.specs.declared.machine.Machine.{Machine}
use Rattle.cq_machine.specs.Machines.{IsSound, database_of, holds, now}
use Rattle.cq_engine.specs.declared.front.Cause.{Cause}
use Rattle.cq_engine.specs.declared.front.Cause.TheVariants as cause
use Rattle.cq_engine.specs.declared.front.Front.{Front}
use Rattle.cq_engine.specs.declared.front.Front.TheVariants.{Ahead, Answer, Fail, Escapes, Stop}
use Rattle.cq_engine.specs.declared.front.Next.{Next}
use Rattle.cq_engine.specs.declared.front.Next.TheVariants.{Told, Mark}
use Rattle.cq_engine.specs.Seeking.{StandsFor, ComesTo, GoesTo, Throws}

abbrev pub as_cause : Cause → why.Cause
as_cause (cause.Resolutions n) = why.Resolutions n
as_cause (cause.Pivots n) = why.Pivots n
as_cause (cause.Overflow pair) = why.Overflow pair

-- the search answers next; the machine's world is the answer's branch, and the machine comes back from there
pub record Answers (budgets : Budgets) (m : Machine) (n : ℕ) (s : Search) : Type 0 where
  pub state : State
  pub is_state : IsBranch m.atoms (now m).0 state
  pub next : Search
  pub tells : Tells budgets s (Shows (Answered state (database_of m).operators)) next
  pub stands : StandsFor m n None next

-- the search ends next: no branch is left
pub record Ends (budgets : Budgets) (m : Machine) (n : ℕ) (s : Search) : Type 0 where
  pub next : Search
  pub tells : Tells budgets s (Shows Ended) next
  pub stands : StandsFor m n None next

-- the query of the search stops next. The machine has no branch left, and the program of a search that was come to quietly
-- before.
pub record Halts (budgets : Budgets) (c : why.Cause) (m : Machine) (n : ℕ) (s : Search) : Type 0 where
  pub reached : Search
  pub quiet : Quietly budgets.steps s reached
  pub last : Search
  pub tells : Tells budgets reached (Stops c) last
  pub database : last.database ≡ reached.database
  pub stands : StandsFor m n None (with_branches [] reached)

-- what the engine came to is what the search tells, if it tells something
abbrev pub IsFrontOf : Budgets → Machine → ℕ → Front → Search → Type 0
IsFrontOf budgets m n (Ahead k) s = ComesTo budgets.steps m n (Some k) s
IsFrontOf budgets m n Answer s = Answers budgets m n s
IsFrontOf budgets m n Fail s = Ends budgets m n s
IsFrontOf budgets m n (Escapes ball) s = Throws budgets m n ball s
IsFrontOf budgets m n (Stop c) s = Halts budgets (as_cause c) m n s

-- this is a goal
abbrev pub IsGoal : Cell → Type 0
IsGoal (Goal t height) = ⊤
IsGoal (Call t) = ⊤
IsGoal (CutTo height) = ⊥
IsGoal (CutFail height) = ⊥
IsGoal (CatchEnd height c r) = ⊥
IsGoal (Collect height t) = ⊥

-- a goal is in front, which may be selected; the machine is sound
pub record HasWork (steps n : ℕ) (m : Machine) (k : ℕ) : Type 0 where
  pub sound : IsSound m
  pub rest : ℕ
  pub earlier : rest < k
  pub cell : Cell
  pub cells : items_at m.world.second.now k ≡ cell ∷ items_at m.world.second.now rest
  pub goal : IsGoal cell
  pub few : n < steps

abbrev pub IsAhead : ℕ → ℕ → Machine → Front → Type 0
IsAhead steps n m (Ahead k) = HasWork steps n m k
IsAhead steps n m Answer = ⊤
IsAhead steps n m Fail = ⊤
IsAhead steps n m (Escapes ball) = IsCountedTerm (length m.atoms) ball
IsAhead steps n m (Stop c) = ⊤

-- what it comes to at once: what the search tells, or the mark of a findall
abbrev pub ComesNext : Machine → Option ℕ → ℕ → ℕ → Machine → Next → Type 0
ComesNext old start steps n new (Told f) =
    ((budgets : Budgets) → budgets.steps ≡ steps → budgets.pivots ≡ old.world.first.store.pivots → (s : Search) → StandsFor old n start s
    → IsFrontOf budgets new n f s) × IsAhead steps n new f
ComesNext old start steps n new (Mark k) = GoesTo old start new (Some k) × IsSound new × IsMark (items_at new.world.second.now k)

-- how many branches it stands for
abbrev pub left_on : Machine → Option ℕ → ℕ
left_on m None = total size (holds m)
left_on m (Some k) = suc (total size (holds m))
