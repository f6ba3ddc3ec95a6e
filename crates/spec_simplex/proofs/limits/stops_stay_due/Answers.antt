use Rattle.spec_simplex.proofs.Later.{overflow_stays, chain_stays}
use Rattle.spec_simplex.proofs.limits.stops_stay_due.Goals as goal

pub returns-clause-overflow : goal.returns-clause-overflow
returns-clause-overflow c = λ m stage operations rows pair h d. overflow_stays m stage operations rows h pair d

pub returns-clause-pivots : goal.returns-clause-pivots
returns-clause-pivots c = λ m stage operations rows n b. chain_stays m stage operations rows n b
