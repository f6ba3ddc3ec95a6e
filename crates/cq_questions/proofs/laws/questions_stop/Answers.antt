use Rattle.cq_questions.proofs.Answered.{members_due, extent_due, overflow_due, pivots_due}
use Rattle.cq_questions.proofs.laws.questions_stop.Goals as goal

pub returns-clause-members : goal.returns-clause-members
returns-clause-members c = members_due

pub returns-clause-extent : goal.returns-clause-extent
returns-clause-extent c = extent_due

pub returns-clause-overflow : goal.returns-clause-overflow
returns-clause-overflow c = λ budgets s goal cut items st behind pair look k. overflow_due budgets s goal cut items st behind look pair k

pub returns-clause-pivots : goal.returns-clause-pivots
returns-clause-pivots c = λ budgets s goal cut items st behind look k. pivots_due budgets s goal cut items st behind look k
