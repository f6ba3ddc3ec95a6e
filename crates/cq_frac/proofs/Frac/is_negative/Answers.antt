use Rattle.cq_frac.proofs.Fields.{negative_test, not_negative_test}
use Rattle.cq_frac.proofs.Frac.is_negative.Goals as goal

pub returns-clause-negative : goal.returns-clause-negative
returns-clause-negative c = negative_test _ _ _ (record { lowest = c.self.invariant; is = c.self.view_is })

pub returns-clause-otherwise : goal.returns-clause-otherwise
returns-clause-otherwise c = not_negative_test _ _ _ (record { lowest = c.self.invariant; is = c.self.view_is })
