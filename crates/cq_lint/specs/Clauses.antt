-- What a clause of a text defines, calls and declares, and the operators behind it.
use Rattle.std.specs.Prelude.{List, [], Bool, if◌then◌else◌, is_none, is_some, Option, Some, None, bytes_eq, codes}
use Rattle.spec_numbers.specs.Texts.{Text}
use Rattle.spec_terms.specs.Term.{Compound, one, more}
use Rattle.spec_syntax.specs.Operators.{Ops}
use Rattle.spec_syntax.specs.Trees.{Tree, binary}
use Rattle.spec_builtins.specs.Built.{Indicator}
use Rattle.spec_builtins.specs.Clauses.{declarations}
use Rattle.spec_builtins.specs.Operators.{operator_error, operator_names, operators_after}
use Rattle.cq_goals.specs.Declarations.{own_error}
use Rattle.cq_lint.specs.Goals.{calls_of, predicate_of}

-- the argument of a term NAME(ARGUMENT)
abbrev pub argument_of : Text → Tree → Option Tree
argument_of name (Compound f (one a)) = if bytes_eq f name then Some a else None
argument_of name t = None

-- the goal of a directive
abbrev pub directive_of : Tree → Option Tree
directive_of t = argument_of (codes ":-") t

-- the goal of a query
abbrev pub query_of : Tree → Option Tree
query_of t = argument_of (codes "?-") t

-- the term is a query
abbrev pub is_query : Tree → Bool
is_query t = is_some (query_of t)

-- the first of two that is there
abbrev pub first_of : Option Tree → Option Tree → Option Tree
first_of None other = other
first_of (Some t) other = Some t

-- the goal of a directive or a query
abbrev pub goal_of : Tree → Option Tree
goal_of t = first_of (directive_of t) (query_of t)

-- the head and the body of a clause of a program; a fact has no body
pub record Parts : Type 0 where
  pub head : Option Tree
  pub body : Option Tree

abbrev pub rule_or_fact : Tree → Parts
rule_or_fact (Compound f (more h (one b))) =
    if bytes_eq f (codes ":-") then record { head = Some h; body = Some b } else record { head = Some (binary f h b); body = None }
rule_or_fact t = record { head = Some t; body = None }

-- a directive or a query has no head, and its goal is its body
abbrev pub parts_or : Option Tree → Tree → Parts
parts_or None t = rule_or_fact t
parts_or (Some g) t = record { head = None; body = Some g }

abbrev pub parts_of : Tree → Parts
parts_of t = parts_or (goal_of t) t

abbrev pub head_if : Option Tree → Option Indicator
head_if None = None
head_if (Some h) = predicate_of h

-- the predicate of which the term is a clause
abbrev pub head_of : Tree → Option Indicator
head_of t = head_if (parts_of t).head

abbrev pub calls_if : Option Tree → List Indicator
calls_if None = []
calls_if (Some b) = calls_of b

-- the predicates that a clause, a directive or a query calls
abbrev pub calls_in : Tree → List Indicator
calls_in t = calls_if (parts_of t).body

-- ---- declarations

-- the predicates that are declared, where they are lawful
abbrev pub declared_if : Option Tree → List Indicator
declared_if None = []
declared_if (Some p) = if is_none (own_error p) then declarations p else []

abbrev pub argument_if : Text → Option Tree → Option Tree
argument_if word None = None
argument_if word (Some g) = argument_of word g

-- the predicates that a directive WORD(PREDICATES) declares
abbrev pub declared_as : Text → Tree → List Indicator
declared_as word t = declared_if (argument_if word (directive_of t))

-- ---- operators

-- the operators behind a goal op(P,K,N), which changes none where it has an error
abbrev pub operators_set : Ops → Tree → Tree → Tree → Ops
operators_set ops p k n = if is_none (operator_error ops p k n) then operators_after ops p k (operator_names n) else ops

-- the operators behind a directive, of which op(P,K,N) alone is run
abbrev pub operators_by : Option Tree → Ops → Ops
operators_by (Some (Compound f (more p (more k (one n))))) ops = if bytes_eq f (codes "op") then operators_set ops p k n else ops
operators_by other ops = ops

-- the operators behind a clause of a text
abbrev pub operators_behind : Tree → Ops → Ops
operators_behind t ops = operators_by (directive_of t) ops
