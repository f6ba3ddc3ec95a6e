use Rattle.cq_execute.proofs.Stopping.{stop_refuses, stop_takes}
use Rattle.cq_execute.proofs.optima.laws.goals_stop.Goals as goal

pub returns-clause-overflow : goal.returns-clause-overflow
returns-clause-overflow c = λ budgets s goal cut items st behind pair look few h. stop_refuses budgets s goal cut items st behind look few pair h

pub returns-clause-pivots : goal.returns-clause-pivots
returns-clause-pivots c = λ budgets s goal cut items st behind n look few h. stop_takes budgets s goal cut items st behind look few n h
