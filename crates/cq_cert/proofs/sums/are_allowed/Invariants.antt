use Rattle.std.proofs.Common.{◌≡◌, length}
use Rattle.spec_log.specs.Verdicts.{are_allowed}
use Rattle.cq_cert.proofs.sums.are_allowed.Given as goal

abbrev pub invariant-loop-number : goal.invariant-loop-number
invariant-loop-number l = are_allowed l.members l.fn.run ≡ are_allowed l.members l.rest

abbrev pub decreases-loop-number : goal.decreases-loop-number
decreases-loop-number l = length l.rest
