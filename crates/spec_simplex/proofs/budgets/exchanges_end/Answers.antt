use Rattle.spec_simplex.proofs.BudgetsEnds.{chain_short}
use Rattle.spec_simplex.proofs.budgets.exchanges_end.Goals as goal

pub returns : goal.returns
returns c = λ m n b. chain_short m n b
