use Rattle.std.proofs.Common.{◌+◌}
use Rattle.cq_frac.proofs.Halves.{Halved}
use Rattle.cq_frac.proofs.wholes.odd_gcd.Given as goal

abbrev pub invariant-loop-x : goal.invariant-loop-x
invariant-loop-x l = Halved l.x l.y l.fn.a l.fn.b

abbrev pub decreases-loop-x : goal.decreases-loop-x
decreases-loop-x l = l.x + l.y
