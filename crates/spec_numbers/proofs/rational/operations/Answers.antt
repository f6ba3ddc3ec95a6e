use Rattle.spec_numbers.proofs.rational.operations.Goals as goal
use Rattle.spec_numbers.proofs.RationalLemmas.{ratio-add, ratio-mul, ratio-neg}
use Rattle.spec_numbers.proofs.Sign.{times_inverse}

pub returns-clause-sum : goal.returns-clause-sum
returns-clause-sum c n m d e = ratio-add n m d e

pub returns-clause-product : goal.returns-clause-product
returns-clause-product c n m d e = ratio-mul n m d e

pub returns-clause-negative : goal.returns-clause-negative
returns-clause-negative c = ratio-neg

pub returns-clause-inverse : goal.returns-clause-inverse
returns-clause-inverse c = times_inverse
