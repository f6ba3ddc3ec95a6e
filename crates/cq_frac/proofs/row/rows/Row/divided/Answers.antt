use Rattle.std.proofs.Common.{◌∙◌, Err, ap, subst}
use Rattle.cq_frac.specs.declared.Operation.TheVariants.{Quotient}
use Rattle.cq_frac.specs.Refused.{Refuses, Tells}
use Rattle.cq_frac.proofs.Refusals.{never_both}
use Rattle.cq_frac.specs.Row.{Row}
use Rattle.cq_frac.specs.Rows.{NoQuotientPair}
use Rattle.cq_frac.proofs.Exits.{pair_told, refusal_told}
use Rattle.cq_frac.proofs.Pairs.{live_quotient, dropped_quotient, constant_quotient, quotient_accepted}
use Rattle.cq_frac.proofs.row.rows.Row.divided.Goals as goal

pub returns-in_err-divided-clause-overflow : goal.returns-in_err-divided-clause-overflow
returns-in_err-divided-clause-overflow c = λ pair e.
    live_quotient c.args.self.now c.args.divisor pair _ (c.deref.ensures.value ∙ ap (λ (r : Row). r.live) c.self.view_is)
    (c.in_err-divided.ensures.overflow pair (ap Err (refusal_told _ _ pair c.from_residual.ensures.1 e)))

pub returns-in_err-divided-2-clause-overflow : goal.returns-in_err-divided-2-clause-overflow
returns-in_err-divided-2-clause-overflow c = λ pair e.
    dropped_quotient c.args.self.now c.args.divisor pair _ (c.deref-2.ensures.value ∙ ap (λ (r : Row). r.dropped) c.self.view_is)
    (c.in_err-divided-2.ensures.overflow pair (ap Err (refusal_told _ _ pair c.from_residual-in_err-divided-2.ensures.1 e)))

pub returns-in_err-quotient-clause-overflow : goal.returns-in_err-quotient-clause-overflow
returns-in_err-quotient-clause-overflow c = λ pair e.
    constant_quotient c.args.self.now c.args.divisor pair c.self.inside.constant (ap (λ (r : Row). r.constant) c.self.view_is)
    (subst (Tells Quotient c.self.inside.constant c.args.divisor) (pair_told _ _ pair c.from_residual-in_err-quotient.ensures.1 e) c.in_err-quotient.ensures)

pub returns-clause-accepted : goal.returns-clause-accepted
returns-clause-accepted c = λ o p q w r.
    quotient_accepted c.args.self.now c.args.divisor
    (subst (λ s. NoQuotientPair s c.args.divisor) (c.deref.ensures.value ∙ ap (λ (r : Row). r.live) c.self.view_is) c.in_ok-divided.ensures.accepted)
    (subst (λ s. NoQuotientPair s c.args.divisor) (c.deref-2.ensures.value ∙ ap (λ (r : Row). r.dropped) c.self.view_is) c.in_ok-divided-2.ensures.accepted)
    (subst (λ n. Refuses Quotient n c.args.divisor → ⊥) (ap (λ (r : Row). r.constant) c.self.view_is) (never_both Quotient _ _ c.in_ok-quotient.ensures.1)) o p q w r
