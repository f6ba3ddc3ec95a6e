-- Whole numbers as fractions of a fixed size.
use Rattle.std.proofs.Common.{◌≡◌, ◌<◌, ℤ, pos, nat_abs, Result, Ok, Err, IsOk, IfOk, refl, ◌∙◌, subst, arith, inl, inr}
use Rattle.spec_numbers.specs.Rational.{ℚ, ratio, int_ℚ}
use Rattle.cq_frac.specs.Fits.{limit, Exceeds}
use Rattle.cq_frac.specs.declared.FracFault.{FracFault}
use Rattle.cq_frac.specs.declared.FracFault.TheVariants.{Overflow, ZeroDivisor}
use Rattle.spec_terms.proofs.Rounded.{int_ℚ-is}

over_one : (z : ℤ) → ratio z 1 ≡ int_ℚ z
unfolding int_ℚ
over_one z = refl

pub is_taken : (z : ℤ) (r : Result ℚ FracFault) → nat_abs z < limit → (r ≡ Err ZeroDivisor → pos 1 ≡ pos 0) → (r ≡ Err Overflow → Exceeds (ratio z 1)) → IsOk r
is_taken z (Ok q) h zero_divisor overflow = refl
is_taken z (Err ZeroDivisor) h zero_divisor overflow = let e = zero_divisor refl in cc
is_taken z (Err Overflow) h zero_divisor overflow =
    elim (subst Exceeds (over_one z ∙ int_ℚ-is z) (overflow refl)) [ inl k ↦ absurd (omega (arith, h, k)) | inr k ↦ absurd (omega (arith, k)) ]

pub is_whole_number : (z : ℤ) (r : Result ℚ FracFault) (q : ℚ) → IfOk r (λ p. p ≡ ratio z 1) → r ≡ Ok q → q ≡ int_ℚ z
is_whole_number z r q taken e = subst (λ x. IfOk x (λ p. p ≡ ratio z 1)) e taken ∙ over_one z
