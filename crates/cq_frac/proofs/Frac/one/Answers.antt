use Rattle.std.proofs.Common.{arith, refl}
use Rattle.std.proofs.lemmas.Int.{ints}
use Rattle.spec_numbers.specs.Gcd.{gcd}
use Rattle.spec_numbers.specs.Rational.{int_ℚ}
use Rattle.cq_frac.proofs.Frac.one.Goals as goal

pub invariant_of-result : goal.invariant_of-result
unfolding gcd
invariant_of-result c = record { num_fits = omega arith; den_pos = omega (arith, ints); den_fits = omega arith; coprime = refl }

pub returns : goal.returns
unfolding int_ℚ
returns c = refl
