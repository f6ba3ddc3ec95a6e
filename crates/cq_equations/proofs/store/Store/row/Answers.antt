-- The table shows the told list in solved form.
use Rattle.cq_equations.proofs.Solved.{solved_form}
use Rattle.cq_equations.proofs.store.Store.row.Goals as goal

pub returns-clause-solved : goal.returns-clause-solved
returns-clause-solved c = rw (← c.self.view_is) (solved_form c.self.inside.told.items c.self.inside.table.now c.self.invariant)
