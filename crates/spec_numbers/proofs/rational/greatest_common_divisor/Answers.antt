use Rattle.spec_numbers.proofs.rational.greatest_common_divisor.Goals as goal
use Rattle.spec_numbers.specs.Gcd.{gcd_is, gauss}

pub returns-clause-greatest : goal.returns-clause-greatest
returns-clause-greatest c = gcd_is

pub returns-clause-gauss : goal.returns-clause-gauss
returns-clause-gauss c = gauss
