use Rattle.std.proofs.Common.{◌∙◌, Err, ap, subst, sym}
use Rattle.spec_numbers.specs.Rational.{◌+ℚ◌, ◌*ℚ◌}
use Rattle.cq_frac.specs.declared.Operation.TheVariants.{Product}
use Rattle.cq_frac.specs.Refused.{Tells}
use Rattle.cq_frac.proofs.Refusals.{never_both}
use Rattle.cq_frac.specs.Row.{Row}
use Rattle.cq_frac.specs.Rows.{IsRowFrom, Lacks, everywhere, sum_at}
use Rattle.cq_frac.proofs.Exits.{pair_told, refusal_told}
use Rattle.cq_frac.proofs.Pairs.{rate_pair, rows_pair, shift_accepted}
use Rattle.cq_frac.proofs.Shifts.{gain_not_zero, joined_lacks, shifted_is}
use Rattle.cq_frac.proofs.row.rows.Row.shifted.Goals as goal

pub returns-in_err-factor-clause-overflow : goal.returns-in_err-factor-clause-overflow
returns-in_err-factor-clause-overflow c = λ pair e.
    rate_pair c.args.self.now c.args.e c.args.q.now c.args.rate pair
    (subst (Tells Product c.args.e c.args.rate) (pair_told _ _ pair c.from_residual.ensures.1 e) c.in_err-factor.ensures)

pub returns-in_err-row-clause-overflow : goal.returns-in_err-row-clause-overflow
returns-in_err-row-clause-overflow c = λ pair e.
    rows_pair c.args.self.now c.args.e c.args.q.now c.args.rate pair
    (c.in_err-row.ensures.overflow pair (ap Err (refusal_told _ _ pair c.from_residual-in_err-row.ensures.1 e)))

pub put-requires-clause-row : goal.put-requires-clause-row
put-requires-clause-row c =
    subst (λ (r : Row). IsRowFrom everywhere 0 r.live) (sym c.row.view_is)
    (c.in_ok-row.ensures.value.over everywhere everywhere c.requires.own c.requires.q_row).live_row

pub put-requires-clause-new : goal.put-requires-clause-new
put-requires-clause-new c =
    subst (λ (r : Row). Lacks c.args.leaving r.live) (sym c.row.view_is)
    (joined_lacks c.args.leaving c.args.self.now c.args.q.now c.in_ok-row.row c.args.e c.in_ok-row.ensures.value c.requires.own c.requires.q_row c.requires.new.0 c.requires.new.1)

pub put-requires-clause-nonzero : goal.put-requires-clause-nonzero
put-requires-clause-nonzero c = gain_not_zero c.args.e c.args.rate c.in_ok-factor.factor c.in_ok-factor.ensures.0 c.requires.entry c.requires.nonzero

pub returns-clause-value : goal.returns-clause-value
returns-clause-value c =
    shifted_is c.args.self.now c.args.q.now c.in_ok-row.row _ c.args.e c.args.rate c.in_ok-factor.factor c.args.leaving c.in_ok-row.ensures.value c.in_ok-factor.ensures.0
    (ap (λ (r : Row). r.dropped) c.row.view_is) (ap (λ (r : Row). r.constant) c.row.view_is)
    (record {
      row = λ p t h. c.in_ok-put.ensures.row p t (subst (λ (r : Row). IsRowFrom p 0 r.live) (sym c.row.view_is) h);
      value = λ x. c.in_ok-put.ensures.value x ∙ ap (λ (r : Row). sum_at x r.live +ℚ c.in_ok-factor.factor *ℚ x c.args.leaving) c.row.view_is;
    })

pub returns-clause-accepted : goal.returns-clause-accepted
returns-clause-accepted c = shift_accepted c.args.self.now c.args.e c.args.q.now c.args.rate c.in_ok-row.ensures.accepted (never_both Product _ _ c.in_ok-factor.ensures.1)
