use Rattle.std.proofs.Common.{◌∙◌}
use Rattle.cq_session.proofs.generating.writing.asked.Goals as goal

-- the program at the beginning has the database of the beginning
pub returns-clause-stands : goal.returns-clause-stands
returns-clause-stands g c = rw c.in_ok-program.ensures.program at c.in_ok-examine.ensures.stands

pub returns-clause-budgets : goal.returns-clause-budgets
returns-clause-budgets g c = c.in_ok-examine.ensures.budgets ∙ c.in_ok-program.ensures.budgets
