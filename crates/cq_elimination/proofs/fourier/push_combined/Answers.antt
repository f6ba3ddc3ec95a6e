use Rattle.std.proofs.Common.{◌<◌, [], ◌∷◌, length, Err, arith, ap}
use Rattle.cq_frac.proofs.Exits.{refusal_told}
use Rattle.cq_elimination.proofs.Lists.{has_at, only}
use Rattle.cq_elimination.proofs.Crossing.{combines_more}
use Rattle.cq_elimination.proofs.fourier.push_combined.Goals as goal

pub returns-in_err-combined-clause-overflow : goal.returns-in_err-combined-clause-overflow
returns-in_err-combined-clause-overflow c = λ pair e.
    let within : c.upper.bound-index < length c.args.upper.now = omega arith in
    combines_more c.args.lower.now (c.bound-item.result ∷ []) c.args.upper.now pair
    (only c.args.upper.now c.bound-item.result (has_at c.args.upper.now c.upper.bound-index c.bound-item.result within c.bound-item.is))
    (c.in_err-combined.ensures.overflow pair (ap Err (refusal_told _ _ pair c.from_residual.ensures.1 e)))
