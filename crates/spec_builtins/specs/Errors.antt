-- The balls of errors: error(E,PI), where PI is the indicator of the goal.
use Prim.Native.String.{String}
use Rattle.std.specs.Prelude.{Option, Some, None}
use Rattle.spec_terms.specs.Operations.{ArithmeticError, Instantiation, NotEvaluable, NotInteger, ZeroDivisor}
use Rattle.spec_numbers.specs.Texts.{Text}
use Rattle.spec_terms.specs.Term.{Number}
use Rattle.spec_syntax.specs.Trees.{Tree}
use Rattle.spec_builtins.specs.Built.{atom, compound1, compound2, compound3, Indicator, indicator, indicator_term}

-- the ball of an error, with the predicate in which it comes
abbrev pub error_ball : Tree → Indicator → Tree
error_ball e i = compound2 "error" e (indicator_term i)

-- a variable stands where something else must
abbrev pub instantiation : Tree
instantiation = atom "instantiation_error"

-- a term of another type stands where one of this type must
abbrev pub type_error : String → Tree → Tree
type_error kind culprit = compound2 "type_error" (atom kind) culprit

-- a term of the right type is outside what is allowed
abbrev pub domain_error : String → Tree → Tree
domain_error kind culprit = compound2 "domain_error" (atom kind) culprit

-- a limit of the implementation is passed
abbrev pub representation_error : String → Tree
representation_error what = compound1 "representation_error" (atom what)

-- what is asked for is not allowed on this
abbrev pub permission_error : String → String → Tree → Tree
permission_error action kind culprit = compound3 "permission_error" (atom action) (atom kind) culprit

-- there is no such procedure
abbrev pub existence_error : Indicator → Tree
existence_error i = compound2 "existence_error" (atom "procedure") (indicator_term i)

-- what builds no expression
abbrev pub not_evaluable : Indicator → Tree
not_evaluable i = type_error "evaluable" (indicator_term i)

-- the error of an expression that has no value
abbrev pub arithmetic_error : ArithmeticError Text → Tree
arithmetic_error Instantiation = instantiation
arithmetic_error (NotEvaluable f n) = not_evaluable (indicator f n)
arithmetic_error (NotInteger q) = type_error "integer" (Number q)
arithmetic_error ZeroDivisor = compound1 "evaluation_error" (atom "zero_divisor")

-- the first of two errors that are looked for in turn
abbrev pub or_error : Option Tree → Option Tree → Option Tree
or_error None e = e
or_error (Some e) f = Some e
