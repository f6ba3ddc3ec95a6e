use Rattle.std.proofs.Common.{◌∙◌}
use Rattle.cq_frac.proofs.Halves.{halve, gcd_same}
use Rattle.cq_frac.proofs.wholes.odd_gcd_64.Goals as goal

pub loop-x-preserved : goal.loop-x-preserved
loop-x-preserved c = halve _ _ _ _ _ _ _ _ c.loop-x.invariant c.min-x.ensures c.abs_diff-gap.ensures c.odd_part_64-y.ensures.odd c.odd_part_64-y.ensures.rest

pub returns : goal.returns
returns c = gcd_same _ _ c.loop-x-test.false ∙ c.loop-x.invariant.same
