use Rattle.std.proofs.Common.{◌≡◌, length}
use Rattle.spec_log.specs.Verdicts.{some_strict}
use Rattle.cq_cert.proofs.sums.some_strict.Given as goal

abbrev pub invariant-loop-number : goal.invariant-loop-number
invariant-loop-number l = some_strict l.members l.fn.run ≡ some_strict l.members l.rest

abbrev pub decreases-loop-number : goal.decreases-loop-number
decreases-loop-number l = length l.rest
