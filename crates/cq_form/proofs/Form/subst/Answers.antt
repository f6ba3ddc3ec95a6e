use Rattle.std.proofs.Common.{◌≡◌, ◌∙◌, Err, ap, sym, subst}
use Rattle.spec_numbers.specs.Sums.{Mentions}
use Rattle.spec_linear.specs.Form.{Linear, IsSumFrom, IsForm, without}
use Rattle.spec_linear.proofs.Ordered.{IsSumFrom-without, form_same}
use Rattle.cq_form.specs.Entries.{products_of, form_of}
use Rattle.cq_form.specs.Steps.{HasCoefficient}
use Rattle.cq_frac.proofs.Exits.{refusal_told}
use Rattle.cq_frac.proofs.OneMore.{if_ok, on_ok}
use Rattle.cq_form.proofs.Forms.{not_substituted, no_pair, substituted, product_refused, sum_refused, substitution_accepted}
use Rattle.cq_form.proofs.Form.subst.Goals as goal
use Rattle.cq_form.proofs.Form.subst.Goals.{In-Some, In_default, In_ok-others}

-- the variable is not mentioned
lacks : (c : In_default) → Mentions c.args.variable.0 c.args.self.now.products → ⊥
lacks c = subst (λ s. Mentions c.args.variable.0 s → ⊥) (ap products_of c.deref.ensures.value ∙ ap (λ (f : Linear). f.products) c.self.view_is) c.in_default.ensures

pub returns-in_default-clause-value : goal.returns-in_default-clause-value
returns-in_default-clause-value c =
    c.in_ok-clone.ensures.cases
    ∙ not_substituted c.args.variable.0 c.args.form.now c.args.self.now (subst IsForm c.self.view_is c.self.invariant) (lacks (goal.at.returns-in_default-clause-value c).In_default)

pub returns-in_default-clause-accepted : goal.returns-in_default-clause-accepted
returns-in_default-clause-accepted c = no_pair c.args.variable.0 c.args.form.now c.args.self.now (lacks (goal.at.returns-in_default-clause-accepted c).In_default)

-- the variable has the coefficient k
in_order : (c : In-Some) → IsForm c.args.self.now
in_order c = subst IsForm c.self.view_is c.self.invariant

has : (c : In-Some) → HasCoefficient c.args.variable.0 c.in-Some.k c.args.self.now.products
has c =
    subst (λ s. HasCoefficient c.args.variable.0 c.in-Some.k s)
    (ap products_of c.deref.ensures.value ∙ ap (λ (f : Linear). f.products) c.self.view_is) c.in-Some.ensures

-- the other pairs with the constant
rest_is : (c : In_ok-others)
    → form_of c.self.inside.constant c.in_ok-others.field-0.items ≡ record { products = without c.args.variable.0 c.args.self.now.products; constant = c.args.self.now.constant }
rest_is c =
    form_same _ _
    (c.in_ok-others.ensures ∙ ap (without c.args.variable.0) (ap products_of c.deref-2.ensures.value ∙ ap (λ (f : Linear). f.products) c.self.view_is))
    (ap (λ (f : Linear). f.constant) c.self.view_is)

pub returns-in_err-scale-clause-overflow : goal.returns-in_err-scale-clause-overflow
returns-in_err-scale-clause-overflow c = λ pair e.
    let w = (goal.at.returns-in_err-scale-clause-overflow c).In-Some in
    product_refused c.args.variable.0 c.args.form.now c.args.self.now c.in-Some.k (in_order w) (has w) pair
    (c.in_err-scale.ensures.overflow pair (ap Err (refusal_told _ _ pair c.from_residual-in_err-scale.ensures.1 e)))

pub invariant_of-add : goal.invariant_of-add
invariant_of-add c =
    subst (IsSumFrom 0) (sym c.in_ok-others.ensures)
    (IsSumFrom-without 0 c.args.variable.0 _ (subst (λ s. IsSumFrom 0 (products_of s)) (sym c.deref-2.ensures.value) c.self.invariant))

pub returns-clause-value : goal.returns-clause-value
returns-clause-value c =
    let w = (goal.at.returns-clause-value c).In-Some in
    let o = (goal.at.returns-clause-value c).In_ok-others in
    if_ok c.add-2.result (λ f i. substituted c.args.variable.0 c.args.form.now c.args.self.now c.in-Some.k (in_order w) (has w) _ _ f (rest_is o) c.in_ok-scale.ensures.value i) c.add-2.ensures.value

pub returns-clause-accepted : goal.returns-clause-accepted
returns-clause-accepted c =
    let w = (goal.at.returns-clause-accepted c).In-Some in
    let o = (goal.at.returns-clause-accepted c).In_ok-others in
    on_ok c.add-2.result (λ i. substitution_accepted c.args.variable.0 c.args.form.now c.args.self.now c.in-Some.k (in_order w) (has w) _ _ (rest_is o) c.in_ok-scale.ensures.value c.in_ok-scale.ensures.accepted i) c.add-2.ensures.accepted

pub returns-clause-overflow : goal.returns-clause-overflow
returns-clause-overflow c = λ pair e.
    let w = (goal.at.returns-clause-overflow c).In-Some in
    let o = (goal.at.returns-clause-overflow c).In_ok-others in
    sum_refused c.args.variable.0 c.args.form.now c.args.self.now c.in-Some.k (in_order w) (has w) _ _ pair (rest_is o) c.in_ok-scale.ensures.value (c.add-2.ensures.overflow pair e)
