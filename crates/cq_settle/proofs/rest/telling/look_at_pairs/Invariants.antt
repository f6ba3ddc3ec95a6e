use Rattle.std.proofs.Common.{take}
use Rattle.std.specs.Prelude.{All}
use Rattle.cq_settle.specs.Equal.{MayBeEqual}
use Rattle.cq_settle.proofs.rest.telling.look_at_pairs.Given as goal

abbrev pub invariant-loop-pair : goal.invariant-loop-pair
invariant-loop-pair l = All (MayBeEqual l.heap.now) (take l.pair-index l.pairs)
