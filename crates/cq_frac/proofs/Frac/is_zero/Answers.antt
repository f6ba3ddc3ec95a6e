use Rattle.cq_frac.proofs.Fields.{zero_test}
use Rattle.cq_frac.proofs.Frac.is_zero.Goals as goal

pub returns : goal.returns
returns c = zero_test _ _ _ (record { lowest = c.self.invariant; is = c.self.view_is })
