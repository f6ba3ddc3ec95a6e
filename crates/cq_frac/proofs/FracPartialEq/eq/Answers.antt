use Rattle.cq_frac.proofs.Fields.{tested, same_den, other_num}
use Rattle.cq_frac.proofs.FracPartialEq.eq.Goals as goal

pub returns-then-self-other-clause-same : goal.returns-then-self-other-clause-same
returns-then-self-other-clause-same c = same_den (record { lowest = c.self.invariant; is = c.self.view_is }) (record { lowest = c.other.invariant; is = c.other.view_is }) c.if-self-other.true

pub returns-then-self-other-clause-is : goal.returns-then-self-other-clause-is
returns-then-self-other-clause-is c = tested _ _ _ (returns-then-self-other-clause-same c)

pub returns-else-self-other-clause-same : goal.returns-else-self-other-clause-same
returns-else-self-other-clause-same c = other_num (record { lowest = c.self.invariant; is = c.self.view_is }) (record { lowest = c.other.invariant; is = c.other.view_is }) c.if-self-other.false

pub returns-else-self-other-clause-is : goal.returns-else-self-other-clause-is
returns-else-self-other-clause-is c = tested _ _ _ (returns-else-self-other-clause-same c)
