use Rattle.cq_frac.proofs.Fields.{positive_test, not_positive_test}
use Rattle.cq_frac.proofs.Frac.is_positive.Goals as goal

pub returns-clause-positive : goal.returns-clause-positive
returns-clause-positive c = positive_test _ _ _ (record { lowest = c.self.invariant; is = c.self.view_is })

pub returns-clause-otherwise : goal.returns-clause-otherwise
returns-clause-otherwise c = not_positive_test _ _ _ (record { lowest = c.self.invariant; is = c.self.view_is })
