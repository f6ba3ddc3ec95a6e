use Rattle.std.proofs.Common.{take}
use Rattle.std.specs.Prelude.{All}
use Rattle.cq_settle.specs.Ready.{MayBeTold}
use Rattle.cq_settle.proofs.rest.telling.look_at_told.Given as goal

abbrev pub invariant-loop-id : goal.invariant-loop-id
invariant-loop-id l = All (MayBeTold l.heap.now) (take l.id-index l.told)
