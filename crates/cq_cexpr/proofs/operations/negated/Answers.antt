use Rattle.std.proofs.Common.{ap, sym, subst, ◌∙◌}
use Rattle.spec_numbers.specs.Rational.{neg_ℚ}
use Rattle.spec_linear.specs.Form.{IsForm}
use Rattle.cq_form.specs.Entries.{form_of}
use Rattle.cq_cexpr.proofs.Numbers.{negated_is, negated_in_order}
use Rattle.cq_cexpr.proofs.operations.negated.Goals as goal

pub of_entries-requires : goal.of_entries-requires
of_entries-requires c = record {
  in_order = subst (λ s. IsForm (form_of c.neg.result s)) (sym c.in_ok-entries.ensures)
      (negated_in_order c.args.form.now c.entries.result.now c.entries.ensures.value c.neg.result (c.neg.ensures ∙ ap neg_ℚ c.constant.ensures) c.entries.ensures.in_order);
}

pub returns : goal.returns
returns c =
    c.of_entries.ensures ∙ ap (form_of c.neg.result) c.in_ok-entries.ensures
    ∙ negated_is c.args.form.now c.entries.result.now c.entries.ensures.value c.neg.result (c.neg.ensures ∙ ap neg_ℚ c.constant.ensures)
