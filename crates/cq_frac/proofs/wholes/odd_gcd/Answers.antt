use Rattle.std.proofs.Common.{◌∙◌}
use Rattle.cq_frac.proofs.Halves.{halve, gcd_same}
use Rattle.cq_frac.proofs.wholes.odd_gcd.Goals as goal

pub loop-x-preserved : goal.loop-x-preserved
loop-x-preserved c = halve _ _ _ _ _ _ _ _ c.loop-x.invariant c.min-x.ensures c.abs_diff-gap.ensures c.odd_part-y.ensures.odd c.odd_part-y.ensures.rest

pub returns-then-x-y : goal.returns-then-x-y
returns-then-x-y c = gcd_same _ _ c.if-x-y.true ∙ c.loop-x.invariant.same
