-- The operations of arithmetic: their names, and what each makes of numbers.
use Rattle.std.specs.Prelude.{ℕ, zero, suc, Bool, true, false, not, ◌||◌, nat_le, nat_abs, bytes_eq, codes, Option, Some, None, ℤ, pos, negsuc, ◌+ℤ◌, if◌then◌else◌}
use Rattle.std.specs.Int.{is_negative, int_signum}
use Rattle.std.specs.declared.cmp.Ordering.TheVariants.{Less, Equal, Greater}
use Rattle.spec_numbers.specs.Order.{cmp_ℚ}
use Rattle.spec_numbers.specs.Rational.{ℚ, denominator, int_ℚ, neg_ℚ, ◌+ℚ◌, ◌-ℚ◌, ◌*ℚ◌, ◌/ℚ◌}
use Rattle.cq_frac.specs.Fits.{limit, left_term, right_term, common_den}
use Rattle.cq_frac.specs.declared.Operation.{Operation}
use Rattle.cq_frac.specs.declared.Operation.TheVariants.{Sum, Difference, Product, Quotient}
use Rattle.cq_frac.specs.declared.Pair.{Pair}
use Rattle.spec_terms.specs.declared.arithmetic.UnaryOperation.{UnaryOperation}
use Rattle.spec_terms.specs.declared.arithmetic.UnaryOperation.TheVariants.{Same, Opposite, Absolute, Sign, Floor, Ceiling, Truncate}
use Rattle.spec_terms.specs.declared.arithmetic.WholeOperation.{WholeOperation}
use Rattle.spec_terms.specs.declared.arithmetic.WholeOperation.TheVariants.{WholeQuotient, Remainder, Modulo}
use Rattle.spec_terms.specs.declared.arithmetic.BinaryOperation.{BinaryOperation}
use Rattle.spec_terms.specs.declared.arithmetic.BinaryOperation.TheVariants.{Exact, Whole, Least, Greatest}
use Rattle.spec_terms.specs.Rounding.{floor, ceiling, truncate, whole_quotient, remainder, modulo}
use Rattle.spec_numbers.specs.Texts.{Text}

-- ---- names

-- the operation of a name with one argument
abbrev pub unary_named : Text → Option UnaryOperation
unary_named name =
    if bytes_eq name (codes "+") then Some Same
    else if bytes_eq name (codes "-") then Some Opposite
    else if bytes_eq name (codes "abs") then Some Absolute
    else if bytes_eq name (codes "sign") then Some Sign
    else if bytes_eq name (codes "floor") then Some Floor
    else if bytes_eq name (codes "ceiling") then Some Ceiling
    else if bytes_eq name (codes "truncate") then Some Truncate
    else None

-- the operation of a name with two arguments
abbrev pub binary_named : Text → Option BinaryOperation
binary_named name =
    if bytes_eq name (codes "+") then Some (Exact Sum)
    else if bytes_eq name (codes "-") then Some (Exact Difference)
    else if bytes_eq name (codes "*") then Some (Exact Product)
    else if bytes_eq name (codes "/") then Some (Exact Quotient)
    else if bytes_eq name (codes "//") then Some (Whole WholeQuotient)
    else if bytes_eq name (codes "rem") then Some (Whole Remainder)
    else if bytes_eq name (codes "mod") then Some (Whole Modulo)
    else if bytes_eq name (codes "min") then Some Least
    else if bytes_eq name (codes "max") then Some Greatest
    else None

-- ---- results

-- why an expression has no value; names are of any type, as texts, or numbers that a table gives to texts
pub data ArithmeticError (A : Type 0) : Type 0 where
  -- a variable
  Instantiation : ArithmeticError A
  -- a name with so many arguments that is no operation
  NotEvaluable : A → ℕ → ArithmeticError A
  -- a number that is not whole, where a whole one is asked for
  NotInteger : ℚ → ArithmeticError A
  ZeroDivisor : ArithmeticError A

-- a value, an error, or a stop at two numbers that an operation refuses
pub data Evaluated : Type 0 where
  Value : ℚ → Evaluated
  Fails : ArithmeticError Text → Evaluated
  Overflows : Pair → Evaluated

-- ---- tests

-- the number 0
abbrev pub is_zero : ℤ → Bool
is_zero (pos zero) = true
is_zero (pos (suc n)) = false
is_zero (negsuc n) = false

-- by the denominator less one
abbrev pub is_one : ℕ → Bool
is_one zero = true
is_one (suc below) = false

-- the number is whole
abbrev pub is_whole : ℚ → Bool
is_whole q = is_one q.below

-- some part of the number reaches the limit
abbrev pub exceeds : ℚ → Bool
exceeds q = nat_le limit (nat_abs q.numerator) || nat_le limit (denominator q)

-- one of the four numbers that a sum goes through reaches it
abbrev pub refuses_sum : ℚ → ℚ → Bool
refuses_sum p q =
    nat_le limit (nat_abs (left_term p q))
    || (nat_le limit (nat_abs (right_term p q)) || (nat_le limit (nat_abs (left_term p q +ℤ right_term p q)) || nat_le limit (common_den p q)))

-- the operation refuses the two numbers
abbrev pub refuses : Operation → ℚ → ℚ → Bool
refuses Sum p q = refuses_sum p q
refuses Difference p q = refuses_sum p (neg_ℚ q)
refuses Product p q = exceeds (p *ℚ q)
refuses Quotient p q = exceeds (p /ℚ q)

-- ---- values

-- none of these overflows
abbrev pub unary_value : UnaryOperation → ℚ → ℚ
unary_value Same q = q
unary_value Opposite q = neg_ℚ q
unary_value Absolute q = if is_negative q.numerator then neg_ℚ q else q
unary_value Sign q = int_ℚ (int_signum q.numerator)
unary_value Floor q = int_ℚ (floor q)
unary_value Ceiling q = int_ℚ (ceiling q)
unary_value Truncate q = int_ℚ (truncate q)

-- what an exact operation gives of two numbers
abbrev pub exact_value : Operation → ℚ → ℚ → ℚ
exact_value Sum p q = p +ℚ q
exact_value Difference p q = p -ℚ q
exact_value Product p q = p *ℚ q
exact_value Quotient p q = p /ℚ q

-- an operation with its two numbers
abbrev pub pair_of : Operation → ℚ → ℚ → Pair
pair_of o p q = record { operation = o; left = p; right = q }

-- the exact value, unless the operation refuses the two numbers
abbrev pub unless_refused : Operation → ℚ → ℚ → Evaluated
unless_refused o p q = if refuses o p q then Overflows (pair_of o p q) else Value (exact_value o p q)

-- only a quotient asks for a divisor that is not zero
abbrev pub exact_result : Operation → ℚ → ℚ → Evaluated
exact_result Sum p q = unless_refused Sum p q
exact_result Difference p q = unless_refused Difference p q
exact_result Product p q = unless_refused Product p q
exact_result Quotient p q = if is_zero q.numerator then Fails ZeroDivisor else unless_refused Quotient p q

-- what an operation on whole numbers gives
abbrev pub whole_value : WholeOperation → ℤ → ℤ → ℤ
whole_value WholeQuotient m n = whole_quotient m n
whole_value Remainder m n = remainder m n
whole_value Modulo m n = modulo m n

-- both are whole, of which the first is looked at first, and then the divisor is not zero
abbrev pub whole_result : WholeOperation → ℚ → ℚ → Evaluated
whole_result o p q =
    if not (is_whole p) then Fails (NotInteger p)
    else if not (is_whole q) then Fails (NotInteger q)
    else if is_zero q.numerator then Fails ZeroDivisor
    else Value (int_ℚ (whole_value o p.numerator q.numerator))

-- the lesser of two numbers
abbrev pub least : ℚ → ℚ → ℚ
least p q = elim (cmp_ℚ p q) [ Less ↦ p | Equal ↦ p | Greater ↦ q ]

-- the greater of two numbers
abbrev pub greatest : ℚ → ℚ → ℚ
greatest p q = elim (cmp_ℚ p q) [ Less ↦ q | Equal ↦ p | Greater ↦ p ]

-- what an operation of two arguments evaluates to
abbrev pub binary_result : BinaryOperation → ℚ → ℚ → Evaluated
binary_result (Exact o) p q = exact_result o p q
binary_result (Whole o) p q = whole_result o p q
binary_result Least p q = Value (least p q)
binary_result Greatest p q = Value (greatest p q)
