use Rattle.std.proofs.Common.{◌∙◌, Err, ap, subst}
use Rattle.std.specs.Prelude.{map}
use Rattle.spec_numbers.specs.Rational.{ℚ, ◌/ℚ◌}
use Rattle.spec_simplex.specs.Overflow.{of_constant}
use Rattle.cq_frac.specs.declared.Operation.TheVariants.{Quotient}
use Rattle.cq_frac.specs.Refused.{Tells}
use Rattle.cq_frac.proofs.Exits.{pair_told, refusal_told}
use Rattle.cq_form.specs.Entries.{entry_of}
use Rattle.cq_elimination.proofs.Quotients.{divided_is, divided_in_order, quotient_told, entry_told}
use Rattle.cq_elimination.proofs.fourier.divided.Goals as goal

pub returns-in_err-constant-clause-overflow : goal.returns-in_err-constant-clause-overflow
returns-in_err-constant-clause-overflow c = λ pair e.
    let told : Tells Quotient c.constant.result c.args.divisor pair =
    subst (Tells Quotient c.constant.result c.args.divisor) (pair_told _ _ pair c.from_residual.ensures.1 e) c.in_err-constant.ensures in
    quotient_told c.args.form.now c.args.form.now.constant c.args.divisor pair of_constant
    (subst (λ (q : ℚ). Tells Quotient q c.args.divisor pair) c.constant.ensures told)

pub returns-in_err-entries-clause-overflow : goal.returns-in_err-entries-clause-overflow
returns-in_err-entries-clause-overflow c = λ pair e.
    entry_told c.args.form.now c.entries.result.now c.args.divisor pair c.entries.ensures.in_order c.entries.ensures.value
    (c.in_err-entries.ensures.overflow pair (ap Err (refusal_told _ _ pair c.from_residual-in_err-entries.ensures.1 e)))

pub of_entries-requires : goal.of_entries-requires
of_entries-requires c = record {
  in_order =
      divided_in_order c.args.divisor c.args.form.now c.entries.result.now c.in_ok-entries.entries.items c.in_ok-constant.constant c.requires.nonzero
      c.entries.ensures.in_order c.entries.ensures.value c.in_ok-entries.ensures.value (c.in_ok-constant.ensures.0 ∙ ap (λ q. q /ℚ c.args.divisor) c.constant.ensures);
}

pub returns-clause-value : goal.returns-clause-value
returns-clause-value c =
    c.of_entries.ensures
    ∙ divided_is c.args.divisor c.args.form.now c.entries.result.now c.in_ok-entries.entries.items c.in_ok-constant.constant c.requires.nonzero
    c.entries.ensures.in_order c.entries.ensures.value c.in_ok-entries.ensures.value (c.in_ok-constant.ensures.0 ∙ ap (λ q. q /ℚ c.args.divisor) c.constant.ensures)
