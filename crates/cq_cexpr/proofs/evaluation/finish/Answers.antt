use Rattle.std.proofs.Common.{Err, ap}
use Rattle.cq_frac.proofs.Exits.{refusal_told}
use Rattle.cq_cexpr.proofs.evaluation.finish.Goals as goal

pub returns-in_err-form-clause-overflow : goal.returns-in_err-form-clause-overflow
returns-in_err-form-clause-overflow c = λ pair e. c.in_err-form.ensures.overflow pair (ap Err (refusal_told _ _ pair c.from_residual.ensures.1 e))
