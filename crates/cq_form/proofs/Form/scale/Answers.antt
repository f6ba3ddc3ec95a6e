use Rattle.std.proofs.Common.{◌∙◌, Err, ap, sym, subst}
use Rattle.spec_linear.specs.Form.{Linear, IsSumFrom}
use Rattle.cq_frac.specs.declared.Operation.TheVariants.{Product}
use Rattle.cq_form.specs.Entries.{products_of}
use Rattle.cq_frac.specs.Refused.{Tells}
use Rattle.cq_frac.proofs.Exits.{pair_told, refusal_told}
use Rattle.cq_form.proofs.Forms.{multiple_in_order, constant_refused, coefficient_refused, multiple_accepted}
use Rattle.cq_form.proofs.Form.scale.Goals as goal

pub returns-in_err-product-clause-overflow : goal.returns-in_err-product-clause-overflow
returns-in_err-product-clause-overflow c = λ pair e.
    constant_refused c.args.k c.args.self.now c.self.inside.constant pair (ap (λ (f : Linear). f.constant) c.self.view_is)
    (subst (Tells Product c.args.k c.self.inside.constant) (pair_told _ _ pair c.from_residual.ensures.1 e) c.in_err-product.ensures)

pub returns-in_err-scaled-clause-overflow : goal.returns-in_err-scaled-clause-overflow
returns-in_err-scaled-clause-overflow c = λ pair e.
    coefficient_refused c.args.k c.args.self.now _ pair
    (ap products_of c.deref.ensures.value ∙ ap (λ (f : Linear). f.products) c.self.view_is)
    (c.in_err-scaled.ensures.overflow pair (ap Err (refusal_told _ _ pair c.from_residual-in_err-scaled.ensures.1 e)))

pub invariant_of-result : goal.invariant_of-result
invariant_of-result c =
    subst (IsSumFrom 0) (sym c.in_ok-scaled.ensures.value)
    (multiple_in_order c.args.k _ (subst (λ s. IsSumFrom 0 (products_of s)) (sym c.deref.ensures.value) c.self.invariant))

pub returns-clause-accepted : goal.returns-clause-accepted
returns-clause-accepted c = λ o p q h.
    multiple_accepted c.args.k c.args.self.now c.self.inside.constant _ (ap (λ (f : Linear). f.constant) c.self.view_is)
    (ap products_of c.deref.ensures.value ∙ ap (λ (f : Linear). f.products) c.self.view_is)
    c.in_ok-product.ensures.1 c.in_ok-scaled.ensures.accepted o p q h
