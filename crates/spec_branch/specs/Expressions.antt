-- Expressions of constraints: which names build them, and their linear forms where some variables have fixed values.
use Rattle.std.specs.Prelude.{ℕ, zero, suc, Bool, false, if◌then◌else◌, ◌&&◌, ◌||◌, ◌==◌, ℤ, pos, negsuc, nat_le, codes, bytes_eq, Option, Some, None}
use Rattle.spec_numbers.specs.Rational.{ℚ, 1ℚ, ◌*ℚ◌, inv_ℚ}
use Rattle.spec_linear.specs.Form.{Linear, is_zero, constant_form, variable_form, sum_form, scaled_form, negated_form, difference_form, is_constant}
use Rattle.spec_numbers.specs.Texts.{Text}
use Rattle.spec_terms.specs.Operations.{is_whole, unary_value, least, greatest}
use Rattle.spec_terms.specs.declared.arithmetic.UnaryOperation.TheVariants as unary
use Rattle.spec_terms.specs.Term.{Var, Number, Name, Compound, one, more}
use Rattle.spec_syntax.specs.Trees.{Tree}

-- ---- names

-- +E, -E and abs(E)
pub data UnaryName : Type 0 where
  Same Opposite Absolute : UnaryName

-- A+B, A-B, A*B, A/B, A^B or pow(A,B), min(A,B) and max(A,B)
pub data BinaryName : Type 0 where
  Plus Minus Times Over Power Least Greatest : BinaryName

-- the name with one argument, if it builds an expression
abbrev pub unary_name : Text → Option UnaryName
unary_name f =
    if bytes_eq f (codes "+") then Some Same
    else if bytes_eq f (codes "-") then Some Opposite
    else if bytes_eq f (codes "abs") then Some Absolute
    else None

-- the name with two arguments, if it builds one
abbrev pub binary_name : Text → Option BinaryName
binary_name f =
    if bytes_eq f (codes "+") then Some Plus
    else if bytes_eq f (codes "-") then Some Minus
    else if bytes_eq f (codes "*") then Some Times
    else if bytes_eq f (codes "/") then Some Over
    else if bytes_eq f (codes "pow") || bytes_eq f (codes "^") then Some Power
    else if bytes_eq f (codes "min") then Some Least
    else if bytes_eq f (codes "max") then Some Greatest
    else None

-- ---- forms: none where the expression waits

-- a form that is a number, as that number
abbrev pub number_of : Linear → Option ℚ
number_of f = if is_constant f then Some f.constant else None

-- an operation on a number; another form waits
abbrev pub on_number : (ℚ → ℚ) → Option ℚ → Option Linear
on_number h None = None
on_number h (Some q) = Some (constant_form (h q))

-- an operation on two numbers; other forms wait
abbrev pub on_numbers : (ℚ → ℚ → ℚ) → Option ℚ → Option ℚ → Option Linear
on_numbers h (Some p) (Some q) = Some (constant_form (h p q))
on_numbers h p q = None

-- the form of an operation of one argument, where that is linear
abbrev pub unary_form : UnaryName → Linear → Option Linear
unary_form Same f = Some f
unary_form Opposite f = Some (negated_form f)
unary_form Absolute f = on_number (unary_value unary.Absolute) (number_of f)

-- a product is linear where one factor is a number
abbrev pub product_form : Linear → Option ℚ → Linear → Option ℚ → Option Linear
product_form f p g (Some q) = Some (scaled_form q f)
product_form f (Some p) g None = Some (scaled_form p g)
product_form f None g None = None

-- a quotient is linear where the divisor is a number that isn't zero
abbrev pub quotient_form : Linear → Option ℚ → Option Linear
quotient_form f None = None
quotient_form f (Some q) = if is_zero q then None else Some (scaled_form (inv_ℚ q) f)

-- the number of factors, where it is from 0 to 64
abbrev pub exponent_of_whole : ℤ → Option ℕ
exponent_of_whole (pos n) = if nat_le n 64 then Some n else None
exponent_of_whole (negsuc n) = None

-- the exponent that a number is
abbrev pub exponent_of : Option ℚ → Option ℕ
exponent_of None = None
exponent_of (Some q) = if is_whole q then exponent_of_whole q.numerator else None

-- q multiplied n times, from the left on
abbrev pub power : ℚ → ℕ → ℚ
power q zero = 1ℚ
power q (suc n) = power q n *ℚ q

-- the powers 0 and 1 of a form, of which the first is 1
abbrev pub power_of_form : Linear → ℕ → Option Linear
power_of_form f n = if n == 0 then Some (constant_form 1ℚ) else if n == 1 then Some f else None

-- a power is linear where its base is a number, or its exponent 0 or 1
abbrev pub power_form : Linear → Option ℚ → Option ℕ → Option Linear
power_form f base None = None
power_form f None (Some n) = power_of_form f n
power_form f (Some q) (Some n) = Some (constant_form (power q n))

-- the form of an operation of two arguments, where that is linear
abbrev pub binary_form : BinaryName → Linear → Linear → Option Linear
binary_form Plus f g = Some (sum_form f g)
binary_form Minus f g = Some (difference_form f g)
binary_form Times f g = product_form f (number_of f) g (number_of g)
binary_form Over f g = quotient_form f (number_of g)
binary_form Power f g = power_form f (number_of f) (exponent_of (number_of g))
binary_form Least f g = on_numbers least (number_of f) (number_of g)
binary_form Greatest f g = on_numbers greatest (number_of f) (number_of g)

-- a variable with a fixed value is that number
abbrev pub variable_under : Option ℚ → ℕ → Linear
variable_under None x = variable_form x
variable_under (Some q) x = constant_form q

-- a part that waits makes the whole wait
abbrev pub unary_of : Option UnaryName → Option Linear → Option Linear
unary_of (Some n) (Some f) = unary_form n f
unary_of n f = None

-- the same, where the operation is known and both arguments are linear
abbrev pub binary_of : Option BinaryName → Option Linear → Option Linear → Option Linear
binary_of (Some n) (Some f) (Some g) = binary_form n f g
binary_of n f g = None

-- the linear form of an expression with its fixed variables replaced by their values
abbrev pub form_of : (ℕ → Option ℚ) → Tree → Option Linear
form_of fixed (Var x) = Some (variable_under (fixed x) x)
form_of fixed (Number q) = Some (constant_form q)
form_of fixed (Name a) = None
form_of fixed (Compound f (one a)) = unary_of (unary_name f) (form_of fixed a)
form_of fixed (Compound f (more a (one b))) = binary_of (binary_name f) (form_of fixed a) (form_of fixed b)
form_of fixed (Compound f (more a (more b ts))) = None

-- ---- zero divisors

-- the form is the number zero
abbrev pub is_zero_form : Option Linear → Bool
is_zero_form None = false
is_zero_form (Some f) = is_constant f && is_zero f.constant

-- some divisor's form in the expression is zero
abbrev pub has_zero_divisor : (ℕ → Option ℚ) → Tree → Bool
has_zero_divisor fixed (Var x) = false
has_zero_divisor fixed (Number q) = false
has_zero_divisor fixed (Name a) = false
has_zero_divisor fixed (Compound f (one a)) = has_zero_divisor fixed a
has_zero_divisor fixed (Compound f (more a (one b))) =
    has_zero_divisor fixed a || has_zero_divisor fixed b || (bytes_eq f (codes "/") && is_zero_form (form_of fixed b))
has_zero_divisor fixed (Compound f (more a (more b ts))) = false
