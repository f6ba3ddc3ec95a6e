use Rattle.std.proofs.Common.{◌≡◌, ◌∙◌}
use Rattle.std.proofs.lemmas.Int.{to_z-of_z}
use Rattle.std.specs.Int.{w64}
use Rattle.cq_frac.proofs.Fields.{whole_fits, whole_lowest, whole_is}
use Rattle.cq_frac.proofs.FracFromI64.from.Goals as goal
use Rattle.cq_frac.proofs.FracFromI64.from.Goals.{After-from}

same : (c : After-from) → c.from.result ≡ c.args.n
same c = c.from.ensures ∙ to_z-of_z w64 c.args.n c.ranges.n

pub invariant_of-result : goal.invariant_of-result
invariant_of-result c = whole_lowest c.from.result (whole_fits _ _ (same c) c.ranges.n)

pub returns : goal.returns
returns c = whole_is c.from.result c.args.n (whole_fits _ _ (same c) c.ranges.n) (same c)
