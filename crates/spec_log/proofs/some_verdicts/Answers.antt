use Rattle.std.proofs.Common.{refl}
use Rattle.std.specs.Fmt.{digits}
use Rattle.spec_numbers.specs.Gcd.{gcd}
use Rattle.spec_numbers.specs.Rational.{ratio, int_ℚ, neg_ℚ, inv_ℚ, ◌+ℚ◌, ◌*ℚ◌}
use Rattle.spec_log.proofs.some_verdicts.Goals as goal

pub returns-clause-accepted : goal.returns-clause-accepted
unfolding digits ratio int_ℚ neg_ℚ gcd ◌+ℚ◌ ◌*ℚ◌
returns-clause-accepted c = refl

pub returns-clause-wrong : goal.returns-clause-wrong
unfolding digits ratio int_ℚ neg_ℚ gcd ◌+ℚ◌ ◌*ℚ◌
returns-clause-wrong c = refl

pub returns-clause-missing : goal.returns-clause-missing
unfolding digits ratio int_ℚ neg_ℚ gcd ◌+ℚ◌ ◌*ℚ◌
returns-clause-missing c = refl

pub returns-clause-empty : goal.returns-clause-empty
unfolding digits ratio int_ℚ neg_ℚ gcd ◌+ℚ◌ ◌*ℚ◌
returns-clause-empty c = refl

pub returns-clause-apart : goal.returns-clause-apart
unfolding digits ratio int_ℚ neg_ℚ gcd ◌+ℚ◌ ◌*ℚ◌
returns-clause-apart c = refl
