-- What becomes of the newest choice as the clauses of its call are tried.
use Rattle.std.specs.Prelude.{◌≡◌, ℕ, List, ◌∷◌, true, false}
use Rattle.cq_clauses.specs.Walks.{HasNoneLeft, IsWalk}
use Rattle.cq_clauses.specs.declared.walk.Walk.{Walk}
use Rattle.cq_control.specs.Open.{open_choices}
use Rattle.cq_resolve.specs.Database.{Program}
use Rattle.cq_settle.specs.Contents.{Contents}
use Rattle.spec_engine.specs.Cells.{Value}
use Rattle.cq_branch.specs.declared.alternatives.Alternatives.{Alternatives}
use Rattle.cq_branch.specs.declared.alternatives.Alternatives.TheVariants.{Clauses}
use Rattle.cq_branch.specs.Lists.{KeepsLists}
use Rattle.cq_calls.specs.Calling.{LeavesFirst}

-- the newest choice has these clauses of a call left to try
abbrev pub HasLeft : ℕ → Walk → ℕ → List Alternatives → Type 0
HasLeft goal walk rest choices = (older : List Alternatives) × (choices ≡ Clauses goal walk rest ∷ older)

-- the newest choice is of a call
abbrev pub IsOfCall : List Alternatives → Type 0
IsOfCall choices = (goal : ℕ) × (walk : Walk) × (rest : ℕ) × HasLeft goal walk rest choices

-- the newest choice is gone
abbrev pub IsGone : List Alternatives → List Alternatives → Type 0
IsGone old new = (c : Alternatives) × (old ≡ c ∷ new)

-- The newest choice leaves this to try where the walk leaves clauses. Without any the choice is gone.
pub data Leaves (content : Alternatives) (walk : Walk) (old new : List (Value Contents × Alternatives)) : Type 0 where
  gone : {c : Value Contents × Alternatives} → HasNoneLeft true walk → old ≡ c ∷ new → Leaves content walk old new
  stays : {c : Value Contents × Alternatives} {older : List (Value Contents × Alternatives)} → HasNoneLeft false walk → old ≡ c ∷ older
      → new ≡ (c.0, content) ∷ older → Leaves content walk old new

-- ---- a clause that is tried

-- The newest choice has these clauses of a call left to try, and the world is the one that it goes back to; more continuations may
-- be there.
pub record IsTrying (goal : ℕ) (walk : Walk) (rest : ℕ) (saved : List (Value Contents)) (choices : List Alternatives) (now : Value Contents) : Type 0 where
  pub older : List Alternatives
  pub newest : choices ≡ Clauses goal walk rest ∷ older
  pub back : Value Contents
  pub others : List (Value Contents × Alternatives)
  pub goes_back : open_choices saved choices ≡ (back, Clauses goal walk rest) ∷ others
  pub world : now.0 ≡ back.0
  pub lists : KeepsLists back.1 now.1

-- so it is, and the next clause is this one, with these behind it
pub record IsNext (v : Program) (goal n : ℕ) (behind : Walk) (rest : ℕ) (saved : List (Value Contents)) (choices : List Alternatives) (now : Value Contents)
    : Type 0 where
  pub walk : Walk
  pub trying : IsTrying goal walk rest saved choices now
  pub next : LeavesFirst v walk n behind
  pub opened : IsWalk behind v

-- the newest choice was changed, and no other
abbrev pub KeepsOthers : List Alternatives → List Alternatives → Type 0
KeepsOthers old new = (c : Alternatives) × (d : Alternatives) × (older : List Alternatives) × (old ≡ c ∷ older) × (new ≡ d ∷ older)
