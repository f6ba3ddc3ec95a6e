use Rattle.std.proofs.Common.{◌∙◌, Err, ap}
use Rattle.cq_frac.proofs.Exits.{refusal_told}
use Rattle.cq_elimination.proofs.Crossing.{eliminated_is, division_due, combination_due}
use Rattle.cq_elimination.proofs.fourier.eliminated.Goals as goal

pub returns-in_err-sides-clause-overflow : goal.returns-in_err-sides-clause-overflow
returns-in_err-sides-clause-overflow c = λ pair m rows e.
    division_due m c.args.variable.0 c.args.rows.now pair rows (c.in_err-sides.ensures.overflow pair (ap Err (refusal_told _ _ pair c.from_residual.ensures.1 e)))

pub returns-in_err-push_crossed-clause-overflow : goal.returns-in_err-push_crossed-clause-overflow
returns-in_err-push_crossed-clause-overflow c = λ pair m rows e.
    combination_due m c.args.variable.0 c.args.rows.now rows pair c.deref.result.now c.deref-2.result.now (c.deref.ensures.value ∙ c.in_ok-sides.ensures.lower)
    (c.deref-2.ensures.value ∙ c.in_ok-sides.ensures.upper)
    (c.in_err-push_crossed.ensures.overflow pair (ap Err (refusal_told _ _ pair c.from_residual-in_err-push_crossed.ensures.1 e)))

pub returns-clause-value : goal.returns-clause-value
returns-clause-value c =
    eliminated_is c.args.variable.0 c.args.rows.now c.in_ok-sides.sides.others.items c.deref.result.now c.deref-2.result.now c.push_crossed.new.rows.items
    c.in_ok-sides.ensures.others (c.deref.ensures.value ∙ c.in_ok-sides.ensures.lower) (c.deref-2.ensures.value ∙ c.in_ok-sides.ensures.upper)
    c.in_ok-push_crossed.ensures.value
