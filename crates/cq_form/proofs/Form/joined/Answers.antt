use Rattle.std.proofs.Common.{◌∙◌, Err, ap, ap₂, sym, subst}
use Rattle.spec_linear.specs.Form.{Linear, IsSumFrom}
use Rattle.cq_frac.specs.Refused.{Tells}
use Rattle.cq_frac.proofs.Exits.{pair_told, refusal_told}
use Rattle.cq_frac.specs.Rows.{joined, operation_of}
use Rattle.cq_form.specs.Entries.{form_of, products_of}
use Rattle.cq_form.specs.Steps.{joined_products}
use Rattle.cq_form.proofs.Forms.{joined_in_order, joined_form_is, constants_refused, coefficients_refused, joined_accepted}
use Rattle.cq_form.proofs.Form.joined.Goals as goal

pub returns-in_err-constant-clause-overflow : goal.returns-in_err-constant-clause-overflow
returns-in_err-constant-clause-overflow c = λ pair e.
    constants_refused c.args.how c.args.self c.args.other.now c.self.inside.constant c.other.inside.constant pair
    (ap (λ (f : Linear). f.constant) c.self.view_is) (ap (λ (f : Linear). f.constant) c.other.view_is)
    (subst (Tells (operation_of c.args.how) c.self.inside.constant c.other.inside.constant) (pair_told _ _ pair c.from_residual.ensures.1 e) c.in_err-constant.ensures)

pub returns-in_err-entries-clause-overflow : goal.returns-in_err-entries-clause-overflow
returns-in_err-entries-clause-overflow c = λ pair e.
    coefficients_refused c.args.how c.args.self c.args.other.now _ _ pair (ap (λ (f : Linear). f.products) c.self.view_is)
    (ap products_of c.deref.ensures.value ∙ ap (λ (f : Linear). f.products) c.other.view_is)
    (c.in_err-entries.ensures.overflow pair (ap Err (refusal_told _ _ pair c.from_residual-in_err-entries.ensures.1 e)))

pub invariant_of-result : goal.invariant_of-result
invariant_of-result c =
    subst (IsSumFrom 0) (sym c.in_ok-entries.ensures.value)
    (joined_in_order c.args.how _ _ c.self.invariant (subst (λ s. IsSumFrom 0 (products_of s)) (sym c.deref.ensures.value) c.other.invariant))

pub returns-clause-value : goal.returns-clause-value
returns-clause-value c =
    joined_form_is c.args.how c.args.self c.args.other.now (form_of c.in_ok-constant.constant c.in_ok-entries.entries.items)
    (c.in_ok-entries.ensures.value
    ∙ ap₂ (joined_products c.args.how) (ap (λ (f : Linear). f.products) c.self.view_is) (ap products_of c.deref.ensures.value ∙ ap (λ (f : Linear). f.products) c.other.view_is))
    (c.in_ok-constant.ensures.0 ∙ ap₂ (joined c.args.how) (ap (λ (f : Linear). f.constant) c.self.view_is) (ap (λ (f : Linear). f.constant) c.other.view_is))

pub returns-clause-accepted : goal.returns-clause-accepted
returns-clause-accepted c = λ o p q h.
    joined_accepted c.args.how c.args.self c.args.other.now c.self.inside.constant c.other.inside.constant _ _
    (ap (λ (f : Linear). f.constant) c.self.view_is) (ap (λ (f : Linear). f.constant) c.other.view_is)
    (ap (λ (f : Linear). f.products) c.self.view_is) (ap products_of c.deref.ensures.value ∙ ap (λ (f : Linear). f.products) c.other.view_is)
    c.in_ok-constant.ensures.1 c.in_ok-entries.ensures.accepted o p q h
