use Rattle.cq_branch.proofs.Stopping.{row_refuses, row_takes}
use Rattle.cq_branch.proofs.begin.laws.rows_stop.Goals as goal

pub returns-clause-overflow : goal.returns-clause-overflow
returns-clause-overflow c = λ budgets s goal cut items st behind work pair look few row r. row_refuses budgets s goal cut items st behind work look few row pair r

pub returns-clause-pivots : goal.returns-clause-pivots
returns-clause-pivots c = λ budgets s goal cut items st behind work look few row r. row_takes budgets s goal cut items st behind work look few row r
