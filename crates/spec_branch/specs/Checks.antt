-- Checks of constraints before anything is told, their members, and the two halves at a disjunction.
use Rattle.std.specs.Prelude.{ℕ, List, [], ◌∷◌, ◌++◌, Bool, if◌then◌else◌, ◌&&◌, ◌||◌, ◌==◌, codes, bytes_eq, is_some, Option, Some, None}
use Rattle.spec_numbers.specs.Texts.{Text}
use Rattle.spec_terms.specs.Term.{Terms, Var, Number, Name, Compound, one, more, count}
use Rattle.spec_syntax.specs.Trees.{Tree, binary}
use Rattle.spec_builtins.specs.Built.{compound2, indicator}
use Rattle.spec_builtins.specs.Errors.{type_error, instantiation, not_evaluable, or_error}
use Rattle.spec_branch.specs.Expressions.{unary_name, binary_name}
use Rattle.spec_branch.specs.Relations.{relation_name}

-- ---- checks

-- the name with so many arguments builds an expression
abbrev pub is_expression : Text → ℕ → Bool
is_expression f n = ((n == 1) && is_some (unary_name f)) || ((n == 2) && is_some (binary_name f))

-- the first error of an expression: a compound comes before its arguments, which are looked at from left to right
abbrev mutual
  pub expression_error : Tree → Option Tree
  expression_error (Var x) = None
  expression_error (Number q) = None
  expression_error (Name a) = Some (not_evaluable (indicator a 0))
  expression_error (Compound f ts) =
      if is_expression f (count ts) then expressions_error ts else Some (not_evaluable (indicator f (count ts)))

  pub expressions_error : Terms Text → Option Tree
  expressions_error (one t) = expression_error t
  expressions_error (more t ts) = or_error (expression_error t) (expressions_error ts)

-- the name of a conjunction
abbrev pub is_conjunction : Text → Bool
is_conjunction f = bytes_eq f (codes ",")

-- the name of a disjunction
abbrev pub is_disjunction : Text → Bool
is_disjunction f = bytes_eq f (codes ";")

-- the error of a compound of two arguments, given the first one of these as constraints and as expressions
abbrev pub binary_error : Text → Tree → Option Tree → Option Tree → Option Tree
binary_error f whole members expressions =
    if is_conjunction f || is_disjunction f then members
    else if is_some (relation_name f) then expressions
    else Some (type_error "constraint" whole)

-- the first error of a constraint that is told, from left to right
abbrev pub constraint_error : Tree → Option Tree
constraint_error (Var x) = Some instantiation
constraint_error (Compound f (more a (one b))) =
    let members = or_error (constraint_error a) (constraint_error b) in
    binary_error f (binary f a b) members (or_error (expression_error a) (expression_error b))
constraint_error t = Some (type_error "constraint" t)

-- the first error of a constraint that is asked: as of one that is told, but a disjunction is refused where it stands
abbrev pub question_error : Tree → Option Tree
question_error (Var x) = Some instantiation
question_error (Compound f (more a (one b))) =
    let members = or_error (question_error a) (question_error b) in
    if is_disjunction f then Some (type_error "linear" (binary f a b))
    else binary_error f (binary f a b) members (or_error (expression_error a) (expression_error b))
question_error t = Some (type_error "constraint" t)

-- ---- members and halves

-- the members of a conjunction, in order
abbrev pub members : Tree → List Tree
members (Compound f (more a (one b))) = if is_conjunction f then members a ++ members b else binary f a b ∷ []
members t = t ∷ []

-- a constraint with the left side of a disjunction in the disjunction's place, and with the right side there
pub record Halves : Type 0 where
  pub left : Tree
  pub right : Tree

-- the halves of a conjunction: at a disjunction of its left part, else at one of its right part
abbrev pub in_conjunction : Tree → Tree → Option Halves → Option Halves → Option Halves
in_conjunction a b (Some h) k = Some (record { left = compound2 "," h.left b; right = compound2 "," h.right b })
in_conjunction a b None (Some k) = Some (record { left = compound2 "," a k.left; right = compound2 "," a k.right })
in_conjunction a b None None = None

-- the halves at the first disjunction from the top and from the left, if there is one
abbrev pub halves : Tree → Option Halves
halves (Compound f (more a (one b))) =
    if is_disjunction f then Some (record { left = a; right = b })
    else if is_conjunction f then in_conjunction a b (halves a) (halves b)
    else None
halves t = None
