use Rattle.std.proofs.Common.{Err, ap}
use Rattle.cq_frac.proofs.Exits.{refusal_told}
use Rattle.cq_cexpr.proofs.relations.of_difference.Goals as goal

pub returns-in_err-difference-clause-overflow : goal.returns-in_err-difference-clause-overflow
returns-in_err-difference-clause-overflow c = λ pair e. c.in_err-difference.ensures.overflow pair (ap Err (refusal_told _ _ pair c.from_residual.ensures.1 e))
