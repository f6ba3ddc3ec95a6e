use Rattle.cq_dict.specs.DictValue.{quantities_of}
use Rattle.cq_tableau.proofs.Storing.{stored_solvable}
use Rattle.cq_store.proofs.Valued.{stored_fixes}
use Rattle.cq_store.proofs.store.Store.told.Goals as goal

pub returns-clause-solvable : goal.returns-clause-solvable
returns-clause-solvable c =
    rw (← c.self.view_is)
    (stored_solvable c.self.inside.held.inner.first.now c.self.inside.held.inner.second.first.now (quantities_of c.self.inside.held.inner.second.second) c.self.invariant.stored)

pub returns-clause-fixes : goal.returns-clause-fixes
returns-clause-fixes c =
    rw (← c.self.view_is)
    (stored_fixes c.self.inside.held.inner.first.now c.self.inside.held.inner.second.first.now (quantities_of c.self.inside.held.inner.second.second) c.self.invariant.stored)
