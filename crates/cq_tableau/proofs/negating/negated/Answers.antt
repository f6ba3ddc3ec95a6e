use Rattle.std.proofs.Common.{◌≡◌, ap, ap₂, sym, subst, ◌∙◌}
use Rattle.spec_numbers.specs.Rational.{neg_ℚ}
use Rattle.spec_numbers.specs.Sums.{negated_products}
use Rattle.spec_linear.specs.Form.{IsForm, negated_form}
use Rattle.spec_linear.proofs.Ordered.{IsForm-negated_form}
use Rattle.cq_form.specs.Entries.{form_of, products_of}
use Rattle.cq_tableau.proofs.Opposed.{products_of-negated}
use Rattle.cq_tableau.proofs.negating.negated.Goals as goal

pub of_entries-requires : goal.of_entries-requires
of_entries-requires c =
    let same : form_of c.neg.result c.in_ok-opposite.opposite.items ≡ negated_form c.args.form.now =
    ap₂ (λ k s. record { products = s; constant = k }) (c.neg.ensures ∙ ap neg_ℚ c.constant.ensures)
    (ap products_of c.in_ok-opposite.ensures ∙ products_of-negated c.entries.result.now ∙ ap negated_products c.entries.ensures.value) in
    record { in_order = subst IsForm (sym same) (IsForm-negated_form c.args.form.now c.entries.ensures.in_order) }

pub returns : goal.returns
returns c =
    c.of_entries.ensures
    ∙ ap₂ (λ k s. record { products = s; constant = k }) (c.neg.ensures ∙ ap neg_ℚ c.constant.ensures)
    (ap products_of c.in_ok-opposite.ensures ∙ products_of-negated c.entries.result.now ∙ ap negated_products c.entries.ensures.value)
