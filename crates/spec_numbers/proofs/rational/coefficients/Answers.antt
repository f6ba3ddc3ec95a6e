use Rattle.spec_numbers.proofs.rational.coefficients.Goals as goal
use Rattle.spec_numbers.proofs.Sums.{factor_of-is}

pub returns : goal.returns
returns c = factor_of-is
