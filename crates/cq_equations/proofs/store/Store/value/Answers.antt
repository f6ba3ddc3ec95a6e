-- What the table gives a variable is its value in every solution.
use Rattle.cq_equations.proofs.Values.{value_is}
use Rattle.cq_equations.proofs.store.Store.value.Goals as goal

pub returns-clause-fixed : goal.returns-clause-fixed
returns-clause-fixed c =
    rw (← c.self.view_is, c.value.ensures) (value_is c.self.inside.told.items c.self.inside.table.now c.self.invariant c.args.x.0)
