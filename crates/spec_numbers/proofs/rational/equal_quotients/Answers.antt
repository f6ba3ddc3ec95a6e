use Rattle.spec_numbers.proofs.rational.equal_quotients.Goals as goal
use Rattle.spec_numbers.proofs.RationalLemmas.{ratio_same, cross_back, ratio_back}

pub returns-clause-same : goal.returns-clause-same
returns-clause-same c = ratio_same

pub returns-clause-back : goal.returns-clause-back
returns-clause-back c = cross_back

pub returns-clause-own : goal.returns-clause-own
returns-clause-own c = ratio_back
