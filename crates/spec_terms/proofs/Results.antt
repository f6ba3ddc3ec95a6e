-- What the operations make of numbers that they take or refuse, and where an expression stops.
use Rattle.std.proofs.Common.{◌≡◌, ◌≢◌, zero, suc, Bool, true, false, if◌then◌else◌, ℤ, pos, negsuc, refl, ap, subst}
use Rattle.std.specs.Prelude.{Option, Some, None, not}
use Rattle.spec_numbers.specs.Gcd.{gcd}
use Rattle.spec_numbers.specs.Rational.{ℚ, 0ℚ, int_ℚ, ratio}
use Rattle.spec_numbers.proofs.Sign.{num_not_zero}
use Rattle.cq_frac.specs.Refused.{Refuses, Accepts, IsRefused}
use Rattle.cq_frac.specs.declared.Operation.{Operation}
use Rattle.cq_frac.specs.declared.Operation.TheVariants.{Sum, Difference, Product, Quotient}
use Rattle.cq_frac.specs.declared.Pair.{Pair}
use Rattle.spec_terms.specs.Term.{Term, Var, Number, Name, Compound, one, more}
use Rattle.spec_terms.specs.declared.arithmetic.UnaryOperation.{UnaryOperation}
use Rattle.spec_terms.specs.declared.arithmetic.BinaryOperation.{BinaryOperation}
use Rattle.spec_terms.specs.declared.arithmetic.BinaryOperation.TheVariants.{Exact, Whole, Least, Greatest}
use Rattle.spec_terms.specs.declared.arithmetic.WholeOperation.{WholeOperation}
use Rattle.spec_numbers.specs.Texts.{Text}
use Rattle.spec_terms.specs.Operations.{Evaluated, Value, Fails, Overflows, NotInteger, ZeroDivisor, pair_of, is_zero, is_whole, refuses, unless_refused, exact_result, exact_value, whole_result, whole_value, binary_result, unary_named, binary_named}
use Rattle.spec_terms.specs.Arithmetic.{evaluate, after_one, after_right, after_both, unary_applied, binary_applied}
use Rattle.spec_terms.proofs.Refusals.{refuses_true, refuses_false, true_refuses}

pub not_zero : (z : ℤ) → z ≢ pos 0 → is_zero z ≡ false
not_zero (pos zero) h = absurd (h refl)
not_zero (pos (suc n)) h = refl
not_zero (negsuc n) h = refl

pub taken : (o : Operation) (p q : ℚ) → Accepts o p q → unless_refused o p q ≡ Value (exact_value o p q)
taken o p q h = ap (λ b. if b then Overflows (pair_of o p q) else Value (exact_value o p q)) (refuses_false o p q h)

pub refused : (o : Operation) (p q : ℚ) → Refuses o p q → unless_refused o p q ≡ Overflows (pair_of o p q)
refused o p q h = ap (λ b. if b then Overflows (pair_of o p q) else Value (exact_value o p q)) (refuses_true o p q h)

-- where the divisor of a quotient is not zero
pub unless_zero : (o : Operation) (p q : ℚ) → (o ≡ Quotient → q ≢ 0ℚ) → exact_result o p q ≡ unless_refused o p q
unless_zero Sum p q h = refl
unless_zero Difference p q h = refl
unless_zero Product p q h = refl
unless_zero Quotient p q h = ap (λ b. if b then Fails ZeroDivisor else unless_refused Quotient p q) (not_zero q.numerator (num_not_zero q (h refl)))

pub no_divisor : (p : ℚ) → exact_result Quotient p 0ℚ ≡ Fails ZeroDivisor
unfolding int_ℚ ratio gcd
no_divisor p = refl

-- ---- where an expression stops
unless_stops : (o : Operation) (p q : ℚ) (r : Pair) → unless_refused o p q ≡ Overflows r → IsRefused r
unless_stops o p q r e = go (refuses o p q) refl e
  where
    go : (b : Bool) → refuses o p q ≡ b → (if b then Overflows (pair_of o p q) else Value (exact_value o p q)) ≡ Overflows r → IsRefused r
    go true h e = let d : pair_of o p q ≡ r = cc in subst IsRefused d (true_refuses o p q h)
    go false h e = cc

exact_stops : (o : Operation) (p q : ℚ) (r : Pair) → exact_result o p q ≡ Overflows r → IsRefused r
exact_stops Sum p q r e = unless_stops Sum p q r e
exact_stops Difference p q r e = unless_stops Difference p q r e
exact_stops Product p q r e = unless_stops Product p q r e
exact_stops Quotient p q r e = go (is_zero q.numerator) e
  where
    go : (b : Bool) → (if b then Fails ZeroDivisor else unless_refused Quotient p q) ≡ Overflows r → IsRefused r
    go true e = cc
    go false e = unless_stops Quotient p q r e

whole_goes_on : (o : WholeOperation) (p q : ℚ) (r : Pair) → whole_result o p q ≡ Overflows r → ⊥
whole_goes_on o p q r e = first (is_whole p) e
  where
    third : (b : Bool) → (if b then Fails ZeroDivisor else Value (int_ℚ (whole_value o p.numerator q.numerator))) ≡ Overflows r → ⊥
    third true e = cc
    third false e = cc

    second : (b : Bool) → (if not b then Fails (NotInteger q) else if is_zero q.numerator then Fails ZeroDivisor else Value (int_ℚ (whole_value o p.numerator q.numerator))) ≡ Overflows r → ⊥
    second true e = third (is_zero q.numerator) e
    second false e = cc

    first : (b : Bool) → (if not b then Fails (NotInteger p) else if not (is_whole q) then Fails (NotInteger q) else if is_zero q.numerator then Fails ZeroDivisor else Value (int_ℚ (whole_value o p.numerator q.numerator))) ≡ Overflows r → ⊥
    first true e = second (is_whole q) e
    first false e = cc

binary_stops : (o : BinaryOperation) (p q : ℚ) (r : Pair) → binary_result o p q ≡ Overflows r → IsRefused r
binary_stops (Exact o) p q r e = exact_stops o p q r e
binary_stops (Whole o) p q r e = absurd (whole_goes_on o p q r e)
binary_stops Least p q r e = cc
binary_stops Greatest p q r e = cc

-- no stop, or one where the operation refuses
abbrev StopsWell : Evaluated → Type 0
StopsWell d = (r : Pair) → d ≡ Overflows r → IsRefused r

one_stops : (o : UnaryOperation) (d : Evaluated) → StopsWell d → StopsWell (after_one o d)
one_stops o (Value q) h r e = cc
one_stops o (Fails x) h r e = cc
one_stops o (Overflows p) h r e = h r e

right_stops : (o : BinaryOperation) (p : ℚ) (d : Evaluated) → StopsWell d → StopsWell (after_right o p d)
right_stops o p (Value q) h r e = binary_stops o p q r e
right_stops o p (Fails x) h r e = cc
right_stops o p (Overflows s) h r e = h r e

both_stops : (o : BinaryOperation) (d e : Evaluated) → StopsWell d → StopsWell e → StopsWell (after_both o d e)
both_stops o (Value p) e h k r d = right_stops o p e k r d
both_stops o (Fails x) e h k r d = cc
both_stops o (Overflows p) e h k r d = h r d

unary_stops : (f : Text) (o : Option UnaryOperation) (d : Evaluated) → StopsWell d → StopsWell (unary_applied f o d)
unary_stops f None d h r e = cc
unary_stops f (Some o) d h r e = one_stops o d h r e

applied_stops : (f : Text) (o : Option BinaryOperation) (d e : Evaluated) → StopsWell d → StopsWell e → StopsWell (binary_applied f o d e)
applied_stops f None d e h k r s = cc
applied_stops f (Some o) d e h k r s = both_stops o d e h k r s

pub stops : (t : Term Text) → StopsWell (evaluate t)
stops (Var v) r e = cc
stops (Number q) r e = cc
stops (Name a) r e = cc
stops (Compound f (one t)) r e = unary_stops f (unary_named f) (evaluate t) (stops t) r e
stops (Compound f (more t (one u))) r e = applied_stops f (binary_named f) (evaluate t) (evaluate u) (stops t) (stops u) r e
stops (Compound f (more t (more u us))) r e = cc
