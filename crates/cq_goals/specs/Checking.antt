-- A check of a constraint under way: the parts that are still to be looked at, the next one last.
use Rattle.std.specs.Prelude.{◌≡◌, ℕ, ◌+◌, ◌<◌, List, [], ◌∷◌, Bool, true, false, Option, None, is_some, length, All}
use Rattle.spec_numbers.specs.Texts.{Text}
use Rattle.spec_terms.specs.Term.{size}
use Rattle.spec_syntax.specs.Trees.{Tree}
use Rattle.spec_builtins.specs.Errors.{or_error}
use Rattle.spec_branch.specs.Checks.{constraint_error, question_error, expression_error, is_conjunction, is_disjunction}
use Rattle.spec_branch.specs.Relations.{relation_name}
use Rattle.cq_term.specs.Meaning.{HeapTerm, at}
use Rattle.cq_term.specs.Trees.{tree}
use Rattle.cq_goals.specs.declared.checks.Purpose.{Purpose}
use Rattle.cq_goals.specs.declared.checks.Purpose.TheVariants as purpose
use Rattle.cq_goals.specs.declared.checks.Part.{Part}
use Rattle.cq_goals.specs.declared.checks.Part.TheVariants as part
use Rattle.cq_goals.specs.declared.checks.Role.{Role}
use Rattle.cq_goals.specs.declared.checks.Role.TheVariants as role

-- the first error of a constraint that is told, or asked about
abbrev pub error_for : Purpose → Tree → Option Tree
error_for purpose.Telling t = constraint_error t
error_for purpose.Question t = question_error t

-- the first error of a part
abbrev pub part_error : Purpose → List Text → List HeapTerm → Part → Option Tree
part_error p texts ts (part.Constraint id) = error_for p (tree texts ts id)
part_error p texts ts (part.Expression id) = expression_error (tree texts ts id)

abbrev pub part_id : Part → ℕ
part_id (part.Constraint id) = id
part_id (part.Expression id) = id

abbrev pub IsLivePart : List HeapTerm → Part → Type 0
IsLivePart ts p = part_id p < length ts

-- the first error of all of them, the last one first
abbrev pub waiting_error : Purpose → List Text → List HeapTerm → List Part → Option Tree
waiting_error p texts ts [] = None
waiting_error p texts ts (w ∷ ws) = or_error (waiting_error p texts ts ws) (part_error p texts ts w)

-- how much there is to look at
abbrev pub waiting_size : List HeapTerm → List Part → ℕ
waiting_size ts [] = 0
waiting_size ts (w ∷ ws) = size (at ts (part_id w)) + waiting_size ts ws

-- in place of a part with this error and size, others wait that come to the same
pub record GoesOn (p : Purpose) (texts : List Text) (ts : List HeapTerm) (old : List Part) (error : Option Tree) (work : ℕ) (new : List Part) : Type 0 where
  pub same : waiting_error p texts ts new ≡ or_error error (waiting_error p texts ts old)
  pub live : All (IsLivePart ts) old → All (IsLivePart ts) new
  pub less : waiting_size ts new < waiting_size ts old + work

-- the same of an expression
abbrev pub ExpressionGoesOn : Purpose → List Text → List HeapTerm → List Part → ℕ → List Part → Type 0
ExpressionGoesOn p texts ts old id new = GoesOn p texts ts old (expression_error (tree texts ts id)) (size (at ts id)) new

-- the parts that wait come to the error of the whole
pub record IsUnderWay (p : Purpose) (texts : List Text) (ts : List HeapTerm) (whole : Option Tree) (ws : List Part) : Type 0 where
  pub leads : waiting_error p texts ts ws ≡ whole
  pub live : All (IsLivePart ts) ws

-- what a name with two arguments is in a constraint
pub record HasRole (f : Text) (disjunction conjunction relation : Bool) : Type 0 where
  pub as_disjunction : is_disjunction f ≡ disjunction
  pub as_conjunction : is_conjunction f ≡ conjunction
  pub as_relation : is_some (relation_name f) ≡ relation

abbrev pub IsRole : Text → Role → Type 0
IsRole f role.Disjunction = is_disjunction f ≡ true
IsRole f role.Conjunction = (is_disjunction f ≡ false) × (is_conjunction f ≡ true)
IsRole f role.Relation = HasRole f false false true
IsRole f role.Other = HasRole f false false false
