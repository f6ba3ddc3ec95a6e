use Rattle.std.proofs.Common.{◌≡◌, ◌++◌, reverse, length}
use Rattle.cq_write.proofs.jobs.push_all.Given as goal

abbrev pub invariant-loop-last : goal.invariant-loop-last
invariant-loop-last l = l.jobs.items ++ reverse l.rest ≡ l.fn.jobs.items ++ reverse l.fn.parts

abbrev pub decreases-loop-last : goal.decreases-loop-last
decreases-loop-last l = length l.rest
