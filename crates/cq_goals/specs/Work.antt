-- An evaluation under way: the operations that wait for a value, the innermost last, and the step that is next.
use Rattle.std.specs.Prelude.{◌≡◌, ℕ, ◌+◌, ◌*◌, ◌<◌, List, [], ◌∷◌, length, All, ⊤}
use Rattle.spec_numbers.specs.Rational.{ℚ}
use Rattle.spec_terms.specs.Term.{named, size}
use Rattle.spec_numbers.specs.Texts.{Text}
use Rattle.spec_terms.specs.Operations.{Evaluated, Value}
use Rattle.spec_terms.specs.Arithmetic.{evaluate, after_one, after_right, after_both}
use Rattle.cq_term.specs.Texts.{text_of}
use Rattle.cq_term.specs.Meaning.{HeapTerm, at}
use Rattle.cq_term.specs.Names.{HasNamesBelow}
use Rattle.cq_goals.specs.declared.arith.evaluation.Waiting.{Waiting}
use Rattle.cq_goals.specs.declared.arith.evaluation.Waiting.TheVariants as waiting
use Rattle.cq_goals.specs.declared.arith.evaluation.Step.{Step}
use Rattle.cq_goals.specs.declared.arith.evaluation.Step.TheVariants as step

-- what an id comes to
abbrev pub evaluated_at : List Text → List HeapTerm → ℕ → Evaluated
evaluated_at texts ts id = evaluate (named (text_of texts) (at ts id))

-- what a step comes to
abbrev pub outcome : List Text → List HeapTerm → Step → Evaluated
outcome texts ts (step.Visit id) = evaluated_at texts ts id
outcome texts ts (step.Return q) = Value q

-- what an operation that waits comes to
abbrev pub resumed : List Text → List HeapTerm → Waiting → Evaluated → Evaluated
resumed texts ts (waiting.Only o) result = after_one o result
resumed texts ts (waiting.Left o right) result = after_both o result (evaluated_at texts ts right)
resumed texts ts (waiting.Right o left) result = after_right o left result

-- what all of them come to, of which the last one has the result first
abbrev pub all_resumed : List Text → List HeapTerm → List Waiting → Evaluated → Evaluated
all_resumed texts ts [] result = result
all_resumed texts ts (w ∷ ws) result = resumed texts ts w (all_resumed texts ts ws result)

-- the id is live, and its names have texts
abbrev pub CanVisit : List Text → List HeapTerm → ℕ → Type 0
CanVisit texts ts id = (id < length ts) × HasNamesBelow (length texts) (at ts id)

abbrev pub CanTake : List Text → List HeapTerm → Step → Type 0
CanTake texts ts (step.Visit id) = CanVisit texts ts id
CanTake texts ts (step.Return q) = ⊤

abbrev pub CanResume : List Text → List HeapTerm → Waiting → Type 0
CanResume texts ts (waiting.Only o) = ⊤
CanResume texts ts (waiting.Left o right) = CanVisit texts ts right
CanResume texts ts (waiting.Right o left) = ⊤

-- how much there is to do
abbrev pub step_work : List HeapTerm → Step → ℕ
step_work ts (step.Visit id) = 3 * size (at ts id)
step_work ts (step.Return q) = 0

abbrev pub waiting_work : List HeapTerm → Waiting → ℕ
waiting_work ts (waiting.Only o) = 1
waiting_work ts (waiting.Left o right) = 2 + 3 * size (at ts right)
waiting_work ts (waiting.Right o left) = 1

abbrev pub all_work : List HeapTerm → List Waiting → ℕ
all_work ts [] = 0
all_work ts (w ∷ ws) = waiting_work ts w + all_work ts ws

-- the operations that wait and the next step come to this
pub record IsUnderWay (texts : List Text) (ts : List HeapTerm) (result : Evaluated) (ws : List Waiting) (next : Step) : Type 0 where
  pub leads : all_resumed texts ts ws (outcome texts ts next) ≡ result
  pub waiting : All (CanResume texts ts) ws
  pub ready : CanTake texts ts next

-- from the operations that waited and a result that was to come, with so much to do for it
pub record GoesOn (texts : List Text) (ts : List HeapTerm) (old : List Waiting) (result : Evaluated) (work : ℕ) (new : List Waiting) (next : Step) : Type 0 where
  pub leads : all_resumed texts ts new (outcome texts ts next) ≡ all_resumed texts ts old result
  pub waiting : All (CanResume texts ts) old → All (CanResume texts ts) new
  pub ready : CanTake texts ts next
  pub less : all_work ts new + step_work ts next < all_work ts old + work

-- where a step goes from an id, with the term's work to do
abbrev pub AfterVisit : List Text → List HeapTerm → ℕ → List Waiting → List Waiting → Step → Type 0
AfterVisit texts ts id old new next = GoesOn texts ts old (evaluated_at texts ts id) (3 * size (at ts id)) new next

-- where a step goes from a value for an operation that waited, whatever the terms
abbrev pub TakesValue : Waiting → ℚ → List Waiting → List Waiting → Step → Type 0
TakesValue w q old new next = (texts : List Text) (ts : List HeapTerm) → CanResume texts ts w → GoesOn texts ts old (resumed texts ts w (Value q)) (waiting_work ts w) new next
