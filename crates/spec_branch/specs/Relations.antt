-- What a told term is where a list of constraints fixes some values: a linear constraint, waiting, or false.
use Rattle.std.specs.Prelude.{◌≡◌, ℕ, if◌then◌else◌, ◌||◌, codes, bytes_eq, Option, Some, None, is_none, List, filter}
use Rattle.spec_numbers.specs.Rational.{ℚ}
use Rattle.spec_linear.specs.declared.Relation.TheVariants.{Eq, Gt, Ge, Ne}
use Rattle.spec_linear.specs.Form.{Linear, difference_form}
use Rattle.spec_linear.specs.Solution.{Constraint, Fixes, false_constraint}
use Rattle.spec_numbers.specs.Texts.{Text}
use Rattle.spec_terms.specs.Term.{Compound, one, more}
use Rattle.spec_terms.specs.Variables.{variables}
use Rattle.spec_syntax.specs.Trees.{Tree}
use Rattle.spec_branch.specs.Expressions.{form_of, has_zero_divisor}

-- the relations of constraints
pub data RelationName : Type 0 where
  Equals Differs Greater GreaterOrEqual Lesser LesserOrEqual : RelationName

-- the relation of a name with two arguments, if it is one
abbrev pub relation_name : Text → Option RelationName
relation_name f =
    if bytes_eq f (codes "=") || bytes_eq f (codes "=:=") then Some Equals
    else if bytes_eq f (codes "=\\=") then Some Differs
    else if bytes_eq f (codes ">") then Some Greater
    else if bytes_eq f (codes ">=") then Some GreaterOrEqual
    else if bytes_eq f (codes "<") then Some Lesser
    else if bytes_eq f (codes "=<") then Some LesserOrEqual
    else None

-- A =< B is B-A >= 0, A < B is B-A > 0, and the others are of A-B
abbrev pub related : RelationName → Linear → Linear → Constraint
related Equals f g = record { relation = Eq; form = difference_form f g }
related Differs f g = record { relation = Ne; form = difference_form f g }
related Greater f g = record { relation = Gt; form = difference_form f g }
related GreaterOrEqual f g = record { relation = Ge; form = difference_form f g }
related Lesser f g = record { relation = Gt; form = difference_form g f }
related LesserOrEqual f g = record { relation = Ge; form = difference_form g f }

-- what a term is now: linear, and then what; waiting for values; or false
pub data Lin (A : Type 0) : Type 0 where
  Is : A → Lin A
  Waits : Lin A
  False : Lin A

-- a side that waits makes the constraint wait
abbrev pub related_forms : Option RelationName → Option Linear → Option Linear → Lin Constraint
related_forms (Some r) (Some f) (Some g) = Is (related r f g)
related_forms r f g = Waits

-- a relation of two expressions; a zero divisor anywhere makes the whole false
abbrev pub lin : (ℕ → Option ℚ) → Tree → Lin Constraint
lin fixed (Compound r (more a (one b))) =
    if has_zero_divisor fixed a || has_zero_divisor fixed b then False
    else related_forms (relation_name r) (form_of fixed a) (form_of fixed b)
lin fixed t = Waits

-- a form, or waiting
abbrev pub form_or_waits : Option Linear → Lin Linear
form_or_waits None = Waits
form_or_waits (Some f) = Is f

-- an expression that is asked about
abbrev pub lin_expression : (ℕ → Option ℚ) → Tree → Lin Linear
lin_expression fixed e = if has_zero_divisor fixed e then False else form_or_waits (form_of fixed e)

-- the variables that a waiting term waits for: those without a fixed value, by first occurrence
abbrev pub waits_for : (ℕ → Option ℚ) → Tree → List ℕ
waits_for fixed t = filter (λ x. is_none (fixed x)) (variables t)

-- what joins a list: the linear constraint, or a false one; nothing where the term waits
abbrev pub row_of : Lin Constraint → Option Constraint
row_of (Is c) = Some c
row_of Waits = None
row_of False = Some false_constraint

-- what the term is over a list of constraints
pub record IsLin (l : List Constraint) (t : Tree) (r : Lin Constraint) : Type 0 where
  pub fixed : ℕ → Option ℚ
  pub fixes : Fixes l fixed
  pub is : lin fixed t ≡ r
