-- What the fractions answer, as a result of arithmetic.
use Rattle.std.proofs.Common.{◌≡◌, ◌≢◌, Result, Ok, Err, IfOk, refl, ap, sym, ◌∙◌, subst}
use Rattle.std.specs.Prelude.{OnOk}
use Rattle.spec_numbers.specs.Rational.{ℚ, 0ℚ}
use Rattle.cq_frac.specs.declared.FracFault.{FracFault}
use Rattle.cq_frac.specs.declared.FracFault.TheVariants.{Overflow, ZeroDivisor}
use Rattle.cq_frac.specs.Refused.{Accepts, Refuses}
use Rattle.cq_frac.specs.declared.Operation.{Operation}
use Rattle.cq_frac.specs.declared.Operation.TheVariants.{Quotient}
use Rattle.spec_terms.specs.Operations.{Value, exact_value}
use Rattle.spec_terms.proofs.Results.{taken, refused, unless_zero, no_divisor}
use Rattle.cq_goals.specs.ArithFaults.{IsComputed}

pub computed : (o : Operation) (p q : ℚ) (r : Result ℚ FracFault) → (o ≡ Quotient → q ≢ 0ℚ) → IfOk r (λ v. v ≡ exact_value o p q) → OnOk r (Accepts o p q) → (r ≡ Err Overflow → Refuses o p q) → r ≢ Err ZeroDivisor → IsComputed o p q r
computed o p q (Ok v) n value accepts refuses other = unless_zero o p q n ∙ taken o p q accepts ∙ ap Value (sym value)
computed o p q (Err ZeroDivisor) n value accepts refuses other = absurd (other refl)
computed o p q (Err Overflow) n value accepts refuses other = unless_zero o p q n ∙ refused o p q (refuses refl)

pub computed_quotient : (p q : ℚ) (r : Result ℚ FracFault) → IfOk r (λ v. v ≡ exact_value Quotient p q) → OnOk r ((q ≢ 0ℚ) × Accepts Quotient p q) → (r ≡ Err ZeroDivisor → q ≡ 0ℚ) → (r ≡ Err Overflow → (q ≢ 0ℚ) × Refuses Quotient p q) → IsComputed Quotient p q r
computed_quotient p q (Ok v) value accepts zero refuses = unless_zero Quotient p q (λ e. accepts.0) ∙ taken Quotient p q accepts.1 ∙ ap Value (sym value)
computed_quotient p q (Err ZeroDivisor) value accepts zero refuses = subst (λ d. IsComputed Quotient p d (Err ZeroDivisor)) (sym (zero refl)) (no_divisor p)
computed_quotient p q (Err Overflow) value accepts zero refuses = unless_zero Quotient p q (λ e. (refuses refl).0) ∙ refused Quotient p q (refuses refl).1
