-- What a term is worth as an arithmetic expression. Arguments are evaluated from left to right, and then the
-- operation; what comes first of errors and overflows is the result.
use Rattle.std.specs.Prelude.{Option, Some, None}
use Rattle.spec_numbers.specs.Rational.{ℚ}
use Rattle.spec_terms.specs.Term.{Term, Var, Number, Name, Compound, one, more, count}
use Rattle.spec_terms.specs.declared.arithmetic.UnaryOperation.{UnaryOperation}
use Rattle.spec_terms.specs.declared.arithmetic.BinaryOperation.{BinaryOperation}
use Rattle.spec_numbers.specs.Texts.{Text}
use Rattle.spec_terms.specs.Operations.{unary_named, binary_named, unary_value, binary_result, Evaluated, Value, Fails, Overflows, Instantiation, NotEvaluable}

-- an operation on what one argument came to
abbrev pub after_one : UnaryOperation → Evaluated → Evaluated
after_one o (Value q) = Value (unary_value o q)
after_one o (Fails e) = Fails e
after_one o (Overflows p) = Overflows p

-- an operation on a number and what the right argument came to
abbrev pub after_right : BinaryOperation → ℚ → Evaluated → Evaluated
after_right o p (Value q) = binary_result o p q
after_right o p (Fails e) = Fails e
after_right o p (Overflows r) = Overflows r

-- an operation on what two arguments came to, the left one first
abbrev pub after_both : BinaryOperation → Evaluated → Evaluated → Evaluated
after_both o (Value p) right = after_right o p right
after_both o (Fails e) right = Fails e
after_both o (Overflows p) right = Overflows p

-- a name with one argument, by its operation; without one the argument does not count
abbrev pub unary_applied : Text → Option UnaryOperation → Evaluated → Evaluated
unary_applied f None argument = Fails (NotEvaluable f 1)
unary_applied f (Some o) argument = after_one o argument

-- a name with two
abbrev pub binary_applied : Text → Option BinaryOperation → Evaluated → Evaluated → Evaluated
binary_applied f None left right = Fails (NotEvaluable f 2)
binary_applied f (Some o) left right = after_both o left right

-- the value of an expression, or what comes first of errors and overflows
abbrev pub evaluate : Term Text → Evaluated
evaluate (Var v) = Fails Instantiation
evaluate (Number q) = Value q
evaluate (Name a) = Fails (NotEvaluable a 0)
evaluate (Compound f (one t)) = unary_applied f (unary_named f) (evaluate t)
evaluate (Compound f (more t (one u))) = binary_applied f (binary_named f) (evaluate t) (evaluate u)
evaluate (Compound f (more t (more u us))) = Fails (NotEvaluable f (count (more t (more u us))))
