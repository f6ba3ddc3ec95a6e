use Rattle.std.proofs.Common.{length}
use Rattle.cq_cert.proofs.Digits.{Read}
use Rattle.cq_cert.proofs.words.whole.Given as goal

abbrev pub invariant-loop-b : goal.invariant-loop-b
invariant-loop-b l = Read l.fn.word l.rest l.value

abbrev pub decreases-loop-b : goal.decreases-loop-b
decreases-loop-b l = length l.rest
