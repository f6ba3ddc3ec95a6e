use Rattle.std.proofs.Common.{Err, ap, sym, subst, ◌∙◌}
use Rattle.spec_numbers.specs.Rational.{◌/ℚ◌}
use Rattle.spec_linear.specs.Form.{IsForm}
use Rattle.spec_simplex.specs.Overflow.{IsNumberOf, of_constant}
use Rattle.cq_frac.specs.Refused.{Tells}
use Rattle.cq_frac.specs.declared.Operation.TheVariants.{Quotient}
use Rattle.cq_frac.proofs.Exits.{pair_told, refusal_told}
use Rattle.cq_form.specs.Entries.{form_of}
use Rattle.cq_cexpr.proofs.Overflowing.{quotient_comes, entry_comes}
use Rattle.cq_cexpr.proofs.Numbers.{over_is, over_in_order}
use Rattle.cq_cexpr.proofs.operations.over_number.Goals as goal

pub returns-in_err-constant-clause-overflow : goal.returns-in_err-constant-clause-overflow
returns-in_err-constant-clause-overflow c = λ pair e.
    quotient_comes c.args.form.now c.args.divisor c.constant.result (subst (IsNumberOf c.args.form.now) (sym c.constant.ensures) of_constant) pair
    (subst (Tells Quotient c.constant.result c.args.divisor) (pair_told _ _ pair c.from_residual.ensures.1 e) c.in_err-constant.ensures)

pub returns-in_err-entries-clause-overflow : goal.returns-in_err-entries-clause-overflow
returns-in_err-entries-clause-overflow c = λ pair e.
    entry_comes c.args.form.now c.args.divisor c.entries.result.now c.entries.ensures.value c.entries.ensures.in_order pair
    (c.in_err-entries.ensures.overflow pair (ap Err (refusal_told _ _ pair c.from_residual-in_err-entries.ensures.1 e)))

pub of_entries-requires : goal.of_entries-requires
of_entries-requires c = record {
  in_order = subst (λ s. IsForm (form_of c.in_ok-constant.constant s)) (sym c.in_ok-entries.ensures.value)
      (over_in_order c.args.form.now c.entries.result.now c.entries.ensures.value c.args.divisor c.requires c.entries.ensures.in_order
      c.in_ok-constant.constant (c.in_ok-constant.ensures.0 ∙ ap (λ q. q /ℚ c.args.divisor) c.constant.ensures));
}

pub returns-clause-value : goal.returns-clause-value
returns-clause-value c =
    c.of_entries.ensures ∙ ap (form_of c.in_ok-constant.constant) c.in_ok-entries.ensures.value
    ∙ over_is c.args.form.now c.entries.result.now c.entries.ensures.value c.args.divisor c.requires c.entries.ensures.in_order
    c.in_ok-constant.constant (c.in_ok-constant.ensures.0 ∙ ap (λ q. q /ℚ c.args.divisor) c.constant.ensures)
