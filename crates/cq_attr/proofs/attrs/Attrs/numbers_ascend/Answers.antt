use Rattle.std.proofs.Common.{arith}
use Rattle.cq_attr.proofs.Numbers.{numbers_ascending, numbers_below}
use Rattle.cq_attr.proofs.attrs.Attrs.numbers_ascend.Goals as goal

pub returns-clause-ascending : goal.returns-clause-ascending
returns-clause-ascending c = rw (← c.self.view_is) (numbers_ascending 0 c.self.inside.parts.inner.second.second.now c.self.inside.parts.inner.second.first.now)

pub returns-clause-below : goal.returns-clause-below
returns-clause-below c = rw (← c.self.view_is) (λ k d l. omega (arith, numbers_below 0 c.self.inside.parts.inner.second.second.now c.self.inside.parts.inner.second.first.now k d l))
