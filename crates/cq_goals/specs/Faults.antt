-- What the faults of goals say of them.
use Rattle.std.specs.Prelude.{◌≡◌, Bool, List, ⊤}
use Rattle.spec_numbers.specs.Texts.{Text}
use Rattle.spec_numbers.specs.Rational.{ℚ}
use Rattle.spec_numbers.specs.Order.{cmp_ℚ}
use Rattle.spec_terms.specs.Term.{Number}
use Rattle.spec_terms.specs.Operations.{ArithmeticError, Evaluated, Value, Fails}
use Rattle.spec_terms.specs.Operations as arithmetic
use Rattle.spec_syntax.specs.Trees.{Tree}
use Rattle.spec_builtins.specs.Errors.{arithmetic_error}
use Rattle.spec_builtins.specs.Alternatives.{Comparison, allows}
use Rattle.cq_term.specs.Meaning.{HeapTerm}
use Rattle.cq_built.specs.Errors.{error_tree, HasCulprit}
use Rattle.cq_goals.specs.declared.faults.GoalFault.{GoalFault}
use Rattle.cq_goals.specs.declared.faults.GoalFault.TheVariants as fault

-- the error that stands in a fault has its culprit
abbrev pub HasItsCulprit : List Text → List HeapTerm → GoalFault → Type 0
HasItsCulprit texts ts (fault.Error e) = HasCulprit texts ts e
HasItsCulprit texts ts f = ⊤

-- an evaluation fails with an error of this term
pub record FailsWith (r : Evaluated) (e : Tree) : Type 0 where
  pub error : ArithmeticError Text
  pub fails : r ≡ Fails error
  pub term : arithmetic_error error ≡ e

-- an evaluation comes to this
abbrev pub IsOutcome : List Text → List HeapTerm → Evaluated → GoalFault → Type 0
IsOutcome texts ts r (fault.Error e) = FailsWith r (error_tree texts ts e)
IsOutcome texts ts r (fault.Overflow pair) = r ≡ arithmetic.Overflows pair
IsOutcome texts ts r fault.NoMemory = ⊤

-- the left expression comes to this, or the right one, where the left one has a value
abbrev pub IsFirstOutcome : List Text → List HeapTerm → Evaluated → Evaluated → GoalFault → Type 0
IsFirstOutcome texts ts (Value q) right f = IsOutcome texts ts right f
IsFirstOutcome texts ts (Fails e) right f = IsOutcome texts ts (Fails e) f
IsFirstOutcome texts ts (arithmetic.Overflows pair) right f = IsOutcome texts ts (arithmetic.Overflows pair) f

-- the value of an expression is this term
pub record IsValue (r : Evaluated) (t : Tree) : Type 0 where
  pub number : ℚ
  pub value : r ≡ Value number
  pub term : t ≡ Number number

-- both expressions have values, which stand as the comparison asks, or not
pub record Compares (c : Comparison) (left right : Evaluated) (holds : Bool) : Type 0 where
  pub first : ℚ
  pub second : ℚ
  pub left_is : left ≡ Value first
  pub right_is : right ≡ Value second
  pub stands : holds ≡ allows c (cmp_ℚ first second)
