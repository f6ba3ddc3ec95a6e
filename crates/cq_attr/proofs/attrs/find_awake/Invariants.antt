use Rattle.cq_attr.proofs.Awake.{Walked}
use Rattle.cq_attr.proofs.attrs.find_awake.Given as goal

abbrev pub invariant-loop-place : goal.invariant-loop-place
invariant-loop-place l = Walked l.watchers.now l.slots.now l.fn.variable.0 l.fn.found.items l.found.items l.place

abbrev pub decreases-loop-place : goal.decreases-loop-place
decreases-loop-place l = l.place
