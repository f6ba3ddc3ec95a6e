-- What the fault of an evaluation says of the expression.
use Rattle.std.specs.Prelude.{◌≡◌, ℕ, ◌<◌, List, Result, Ok, Err, ⊤}
use Rattle.spec_numbers.specs.Rational.{ℚ}
use Rattle.cq_frac.specs.declared.FracFault.{FracFault}
use Rattle.cq_frac.specs.declared.FracFault.TheVariants as frac
use Rattle.cq_frac.specs.declared.Operation.{Operation}
use Rattle.spec_numbers.specs.Texts.{Text}
use Rattle.spec_terms.specs.Operations.{ArithmeticError, Evaluated, Value, Fails, Overflows, exact_result}
use Rattle.spec_terms.specs.Operations as arithmetic
use Rattle.cq_term.specs.Texts.{text_of}
use Rattle.cq_goals.specs.declared.arith.faults.EvalError.{EvalError}
use Rattle.cq_goals.specs.declared.arith.faults.EvalError.TheVariants as error
use Rattle.cq_goals.specs.declared.arith.faults.EvalFault.{EvalFault}
use Rattle.cq_goals.specs.declared.arith.faults.EvalFault.TheVariants as fault

-- the error, with texts in the places of names
abbrev pub told : List Text → EvalError → ArithmeticError Text
told texts error.Instantiation = arithmetic.Instantiation
told texts (error.NotEvaluable name count) = arithmetic.NotEvaluable (text_of texts name) count
told texts (error.NotInteger q) = arithmetic.NotInteger q
told texts error.ZeroDivisor = arithmetic.ZeroDivisor

-- the expression comes to this error or overflow; want of memory says nothing of it
abbrev pub ComesTo : List Text → Evaluated → EvalFault → Type 0
ComesTo texts result (fault.Error e) = result ≡ Fails (told texts e)
ComesTo texts result (fault.Overflow p) = result ≡ Overflows p
ComesTo texts result fault.NoMemory = ⊤

-- the name that the error blames is one of so many
abbrev pub BlamesBelow : ℕ → EvalError → Type 0
BlamesBelow n (error.NotEvaluable name count) = name < n
BlamesBelow n e = ⊤

-- so is the name in the fault, if there is one
abbrev pub IsNamedBelow : ℕ → EvalFault → Type 0
IsNamedBelow n (fault.Error e) = BlamesBelow n e
IsNamedBelow n f = ⊤

-- what the fractions answer says what an operation comes to
abbrev pub IsComputed : Operation → ℚ → ℚ → Result ℚ FracFault → Type 0
IsComputed o p q (Ok value) = exact_result o p q ≡ Value value
IsComputed o p q (Err frac.ZeroDivisor) = exact_result o p q ≡ Fails arithmetic.ZeroDivisor
IsComputed o p q (Err frac.Overflow) = exact_result o p q ≡ Overflows (record { operation = o; left = p; right = q })
