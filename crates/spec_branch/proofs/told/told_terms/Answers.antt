use Rattle.std.proofs.Common.{refl}
use Rattle.spec_numbers.specs.Rational.{int_ℚ, ratio, ◌+ℚ◌, ◌*ℚ◌, neg_ℚ, inv_ℚ}
use Rattle.spec_numbers.specs.Gcd.{gcd}
use Rattle.spec_branch.proofs.told.told_terms.Goals as goal

pub returns-clause-zero_divisor : goal.returns-clause-zero_divisor
unfolding int_ℚ ratio gcd ◌+ℚ◌ ◌*ℚ◌ neg_ℚ inv_ℚ
returns-clause-zero_divisor c = refl

pub returns-clause-first_power : goal.returns-clause-first_power
unfolding int_ℚ ratio gcd ◌+ℚ◌ ◌*ℚ◌ neg_ℚ inv_ℚ
returns-clause-first_power c = refl

pub returns-clause-square : goal.returns-clause-square
unfolding int_ℚ ratio gcd ◌+ℚ◌ ◌*ℚ◌ neg_ℚ inv_ℚ
returns-clause-square c = refl

pub returns-clause-high_power : goal.returns-clause-high_power
unfolding int_ℚ ratio gcd ◌+ℚ◌ ◌*ℚ◌ neg_ℚ inv_ℚ
returns-clause-high_power c = refl

pub returns-clause-root : goal.returns-clause-root
unfolding int_ℚ ratio gcd ◌+ℚ◌ ◌*ℚ◌ neg_ℚ inv_ℚ
returns-clause-root c = refl

pub returns-clause-greatest : goal.returns-clause-greatest
unfolding int_ℚ ratio gcd ◌+ℚ◌ ◌*ℚ◌ neg_ℚ inv_ℚ
returns-clause-greatest c = refl
