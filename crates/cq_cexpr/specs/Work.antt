-- An expression under way: the operations that wait for a form, the innermost last, and the step that is next.
use Rattle.std.specs.Prelude.{◌≡◌, ℕ, ◌+◌, ◌*◌, ◌<◌, List, [], ◌∷◌, ◌++◌, length, ⊤, if◌then◌else◌, ◌&&◌, Option, Some, None}
use Rattle.spec_linear.specs.Form.{Linear}
use Rattle.spec_simplex.specs.Overflow.{Operands}
use Rattle.spec_numbers.specs.Texts.{Text}
use Rattle.spec_terms.specs.Term.{size}
use Rattle.spec_branch.specs.Expressions.{UnaryName, BinaryName, unary_of, binary_of, is_zero_form}
use Rattle.spec_branch.specs.Relations.{Lin, Is, Waits, False, form_or_waits, lin_expression}
use Rattle.spec_branch.specs.Alike.{no_values}
use Rattle.spec_transcript.specs.Operands.{binary_operands, expression_operands}
use Rattle.cq_frac.specs.declared.Pair.{Pair}
use Rattle.cq_term.specs.Trees.{tree}
use Rattle.cq_term.specs.Meaning.{HeapTerm, at}
use Rattle.cq_term.specs.Names.{HasNamesBelow}
use Rattle.cq_cexpr.specs.Names.{unary_meant, binary_meant, is_over}
use Rattle.cq_cexpr.specs.Overflows.{Within, ComesFrom}
use Rattle.cq_cexpr.specs.Sums.{whole_of, due_in}
use Rattle.cq_cexpr.specs.declared.sums.Sum.{Sum}
use Rattle.cq_cexpr.specs.declared.evaluation.Waiting.{Waiting}
use Rattle.cq_cexpr.specs.declared.evaluation.Waiting.TheVariants as waiting
use Rattle.cq_cexpr.specs.declared.evaluation.Step.{Step}
use Rattle.cq_cexpr.specs.declared.evaluation.Step.TheVariants as step

-- ---- what an operation makes of what its arguments are

-- the form, if there is one
abbrev pub form_in : Lin Linear → Option Linear
form_in (Is f) = Some f
form_in Waits = None
form_in False = None

abbrev pub after_one : Option UnaryName → Lin Linear → Lin Linear
after_one n False = False
after_one n r = form_or_waits (unary_of n (form_in r))

-- false where the divisor of a quotient is zero
abbrev pub unless_zero : Option BinaryName → Option Linear → Option Linear → Lin Linear
unless_zero n divisor whole = if is_over n && is_zero_form divisor then False else form_or_waits whole

abbrev pub after_right : Option BinaryName → Option Linear → Lin Linear → Lin Linear
after_right n left False = False
after_right n left r = unless_zero n (form_in r) (binary_of n left (form_in r))

abbrev pub after_both : Option BinaryName → Lin Linear → Lin Linear → Lin Linear
after_both n False right = False
after_both n left right = after_right n (form_in left) right

-- ---- steps

-- what an id comes to
abbrev pub read_at : List Text → List HeapTerm → ℕ → Lin Linear
read_at texts ts id = lin_expression no_values (tree texts ts id)

-- what a step comes to
abbrev pub outcome : List Text → List HeapTerm → Step → Lin Linear
outcome texts ts (step.Visit id) = read_at texts ts id
outcome texts ts (step.Return value) = form_or_waits (whole_of value)
outcome texts ts step.Stop = False

-- what an operation that waits comes to
abbrev pub resumed : List Text → List HeapTerm → Waiting → Lin Linear → Lin Linear
resumed texts ts (waiting.Only n) r = after_one (unary_meant n) r
resumed texts ts (waiting.Left n right) r = after_both (binary_meant n) r (read_at texts ts right)
resumed texts ts (waiting.Right n left) r = after_right (binary_meant n) (whole_of left) r

-- what all of them come to, of which the last one has the form first
abbrev pub all_resumed : List Text → List HeapTerm → List Waiting → Lin Linear → Lin Linear
all_resumed texts ts [] r = r
all_resumed texts ts (w ∷ ws) r = resumed texts ts w (all_resumed texts ts ws r)

-- ---- what is known of them, where all operations are among these

-- the id is live, its names have texts, and its operations are known
pub record CanVisit (texts : List Text) (ts : List HeapTerm) (all : List Operands) (id : ℕ) : Type 0 where
  pub live : id < length ts
  pub names : HasNamesBelow (length texts) (at ts id)
  pub operations : Within (expression_operands no_values (tree texts ts id)) all

abbrev pub CanTake : List Text → List HeapTerm → List Operands → Step → Type 0
CanTake texts ts all (step.Visit id) = CanVisit texts ts all id
CanTake texts ts all (step.Return value) = Within (due_in value) all
CanTake texts ts all step.Stop = ⊤

-- the operation can have what its argument comes to
abbrev pub CanResume : List Text → List HeapTerm → List Operands → Waiting → Lin Linear → Type 0
CanResume texts ts all (waiting.Only n) r = ⊤
CanResume texts ts all (waiting.Left n right) r =
    CanVisit texts ts all right × Within (binary_operands (binary_meant n) (form_in r) (form_in (read_at texts ts right))) all
CanResume texts ts all (waiting.Right n left) r = Within (due_in left) all × Within (binary_operands (binary_meant n) (whole_of left) (form_in r)) all

abbrev pub CanResumeAll : List Text → List HeapTerm → List Operands → List Waiting → Lin Linear → Type 0
CanResumeAll texts ts all [] r = ⊤
CanResumeAll texts ts all (w ∷ ws) r = CanResumeAll texts ts all ws r × CanResume texts ts all w (all_resumed texts ts ws r)

-- ---- how much there is to do

abbrev pub step_work : List HeapTerm → Step → ℕ
step_work ts (step.Visit id) = 3 * size (at ts id)
step_work ts (step.Return value) = 0
step_work ts step.Stop = 0

abbrev pub waiting_work : List HeapTerm → Waiting → ℕ
waiting_work ts (waiting.Only n) = 1
waiting_work ts (waiting.Left n right) = 2 + 3 * size (at ts right)
waiting_work ts (waiting.Right n left) = 1

abbrev pub all_work : List HeapTerm → List Waiting → ℕ
all_work ts [] = 0
all_work ts (w ∷ ws) = waiting_work ts w + all_work ts ws

-- ---- the walk

-- the operations that wait and the next step come to this
pub record IsUnderWay (texts : List Text) (ts : List HeapTerm) (all : List Operands) (result : Lin Linear) (ws : List Waiting) (next : Step) : Type 0 where
  pub leads : all_resumed texts ts ws (outcome texts ts next) ≡ result
  pub waiting : CanResumeAll texts ts all ws (outcome texts ts next)
  pub ready : CanTake texts ts all next

-- from the operations that waited and a result that was to come, with so much to do for it
pub record GoesOn (texts : List Text) (ts : List HeapTerm) (all : List Operands) (old : List Waiting) (result : Lin Linear) (work : ℕ)
    (new : List Waiting) (next : Step) : Type 0 where
  pub leads : all_resumed texts ts new (outcome texts ts next) ≡ all_resumed texts ts old result
  pub waiting : CanResumeAll texts ts all old result → CanResumeAll texts ts all new (outcome texts ts next)
  pub ready : CanTake texts ts all next
  pub less : all_work ts new + step_work ts next < all_work ts old + work

-- the same from a term that was looked at
abbrev pub AfterVisit : List Text → List HeapTerm → ℕ → List Waiting → List Waiting → Step → Type 0
AfterVisit texts ts id old new next =
    (all : List Operands) → CanVisit texts ts all id → GoesOn texts ts all old (read_at texts ts id) (3 * size (at ts id)) new next

-- the same from an operation that got what its argument comes to
abbrev pub AfterResume : Waiting → Option Sum → List Waiting → List Waiting → Step → Type 0
AfterResume w value old new next =
    (texts : List Text) (ts : List HeapTerm) (all : List Operands) → Within (due_in value) all → CanResume texts ts all w (form_or_waits (whole_of value))
    → GoesOn texts ts all old (resumed texts ts w (form_or_waits (whole_of value))) (waiting_work ts w) new next

-- the overflow of an operation that got what its argument comes to
abbrev pub ResumeOverflows : Waiting → Option Sum → Pair → Type 0
ResumeOverflows w value pair =
    (texts : List Text) (ts : List HeapTerm) (all : List Operands) → Within (due_in value) all → CanResume texts ts all w (form_or_waits (whole_of value))
    → ComesFrom all pair

-- the step of a form, or of what waits, of which no operation is due
abbrev pub IsGiven : Option Linear → Step → Type 0
IsGiven form (step.Visit id) = ⊥
IsGiven form (step.Return value) = (whole_of value ≡ form) × (due_in value ≡ [])
IsGiven form step.Stop = ⊥

-- the step after an operation on two forms
abbrev pub IsJoined : Option BinaryName → Option Sum → Option Linear → Step → Type 0
IsJoined n left right (step.Visit id) = ⊥
IsJoined n left right (step.Return value) =
    (form_or_waits (whole_of value) ≡ unless_zero n right (binary_of n (whole_of left) right))
    × Within (due_in value) (due_in left ++ binary_operands n (whole_of left) right)
IsJoined n left right step.Stop = False ≡ unless_zero n right (binary_of n (whole_of left) right)
