-- One is added to the greatest number that fits: a sum that is refused.
use Rattle.std.proofs.Common.{ℕ, pos, inl, inr, refl, lit≤}
use Rattle.spec_numbers.specs.Gcd.{gcd}
use Rattle.spec_numbers.specs.Rational.{ratio, int_ℚ}
use Rattle.spec_linear.specs.Form.{constant_form}
use Rattle.spec_linear.specs.Solution.{Has}
use Rattle.cq_frac.specs.declared.Operation.TheVariants.{Sum}
use Rattle.cq_frac.specs.declared.Pair.{Pair}
use Rattle.spec_simplex.specs.Overflow.{Operands, on, Moment, OverflowDue, constants}

abbrev pub greatest : ℕ
greatest = 170141183460469231731687303715884105727

abbrev pub past_greatest : Pair
past_greatest = record { operation = Sum; left = int_ℚ (pos greatest); right = int_ℚ (pos 1) }

abbrev pub adding_one : Operands
adding_one = on Sum (constant_form (int_ℚ (pos greatest))) (constant_form (int_ℚ (pos 1)))

-- where a moment has this operation, its overflow is due
pub past_greatest_due : (m : Moment) → Has adding_one m.operations → OverflowDue m past_greatest
unfolding ratio int_ℚ gcd
past_greatest_due m has = record { made = constants adding_one has (inl refl); refused = inr (inr (inl (lit≤ tt))) }
