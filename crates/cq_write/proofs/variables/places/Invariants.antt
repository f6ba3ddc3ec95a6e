use Rattle.std.proofs.Common.{take, nat_eq}
use Rattle.indexmap.specs.IndexMap.{get}
use Rattle.cq_write.specs.Naming.{AreFound}
use Rattle.cq_write.proofs.variables.places.Given as goal

abbrev pub invariant-loop-place : goal.invariant-loop-place
invariant-loop-place l = AreFound (take l.place l.fn.names) (get nat_eq l.given)
