use Rattle.std.proofs.Common.{take}
use Rattle.cq_attr.proofs.Awake.{Found}
use Rattle.cq_attr.proofs.attrs.Attrs.woken.Given as goal

abbrev pub invariant-loop-variable : goal.invariant-loop-variable
invariant-loop-variable l = Found l.self-inside.parts.inner.second.first.now l.self-inside.parts.inner.second.second.now (take l.variable-index l.newly) l.found.items
