use Rattle.std.proofs.Common.{◌<◌, [], ◌∷◌, length, Err, arith, ap}
use Rattle.cq_frac.proofs.Exits.{refusal_told}
use Rattle.cq_elimination.proofs.Lists.{has_at, only}
use Rattle.cq_elimination.proofs.Quotients.{divides_more}
use Rattle.cq_elimination.proofs.fourier.sides_of.Goals as goal

pub returns-in_err-push-clause-overflow : goal.returns-in_err-push-clause-overflow
returns-in_err-push-clause-overflow c = λ pair e.
    let within : c.rows.row-index < length c.args.rows.now = omega arith in
    divides_more c.args.variable.0 (c.row-item.result ∷ []) c.args.rows.now pair
    (only c.args.rows.now c.row-item.result (has_at c.args.rows.now c.rows.row-index c.row-item.result within c.row-item.is))
    (c.in_err-push.ensures.overflow pair (ap Err (refusal_told _ _ pair c.from_residual.ensures.1 e)))
