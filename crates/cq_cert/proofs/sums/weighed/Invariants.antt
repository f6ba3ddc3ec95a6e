use Rattle.std.proofs.Common.{length}
use Rattle.cq_cert.proofs.Weights.{Weighs}
use Rattle.cq_cert.proofs.sums.weighed.Given as goal

abbrev pub invariant-loop-number : goal.invariant-loop-number
invariant-loop-number l = Weighs l.members l.fn.run l.rest l.sum

abbrev pub decreases-loop-number : goal.decreases-loop-number
decreases-loop-number l = length l.rest
