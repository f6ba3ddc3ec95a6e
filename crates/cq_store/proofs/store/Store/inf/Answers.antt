use Rattle.std.proofs.Common.{◌≡◌, [], ◌∷◌, Err, refl, ap, sym, subst, ◌∙◌}
use Rattle.spec_numbers.specs.Rational.{ℚ, neg_ℚ}
use Rattle.spec_numbers.proofs.Ring.{var, minus}
use Rattle.spec_numbers.proofs.RationalLemmas.{ring}
use Rattle.spec_linear.specs.Form.{Linear, negated_form}
use Rattle.spec_linear.specs.Extremes.{IsSupremum}
use Rattle.spec_linear.specs.Weak.{at_least_zero}
use Rattle.spec_simplex.specs.Asked.{of_question, negated, NoQuestion}
use Rattle.cq_store.specs.Questions.{RefusesQuestion, SpendsQuestion}
use Rattle.cq_store.specs.StoreValue.{IsExtent, Only}
use Rattle.cq_store.proofs.Passed.{passed, store_spent}
use Rattle.cq_store.proofs.Spent.{not_spent}
use Rattle.cq_store.proofs.store.Store.inf.Goals as goal

pub returns-in_err-extent-clause-overflow : goal.returns-in_err-extent-clause-overflow
returns-in_err-extent-clause-overflow c = λ pair e.
    let f = passed c.from_residual-in_err-extent.result c.in_err-extent.field-0.0 pair c.from_residual-in_err-extent.ensures.1 e in
    let o = subst (λ (g : Linear). RefusesQuestion c.args.self.now.told g pair) c.in_ok-opposite.ensures (c.in_err-extent.ensures.overflow pair (ap Err f)) in
    o (at_least_zero c.args.form.now) (negated c.args.form.now (of_question (at_least_zero c.args.form.now) refl))

pub returns-in_err-extent-clause-pivots : goal.returns-in_err-extent-clause-pivots
returns-in_err-extent-clause-pivots c = λ n e.
    let f = store_spent c.from_residual-in_err-extent.result c.in_err-extent.field-0.0 n c.from_residual-in_err-extent.ensures.1 e in
    let o = subst (λ (g : Linear). SpendsQuestion c.args.self.now.told g n c.args.self.now.pivots) c.in_ok-opposite.ensures (c.in_err-extent.ensures.pivots n (ap Err f)) in
    (o.0, o.1 (at_least_zero c.args.form.now) (negated c.args.form.now (of_question (at_least_zero c.args.form.now) refl)))

pub returns-in_err-extent-clause-enough : goal.returns-in_err-extent-clause-enough
returns-in_err-extent-clause-enough c = λ h n e.
    let o = returns-in_err-extent-clause-pivots c n e in
    not_spent c.args.self.now.told NoQuestion (Only (at_least_zero c.args.form.now)) c.args.self.now.pivots n h o.0 o.1

pub returns-in-Value-clause-extent : goal.returns-in-Value-clause-extent
returns-in-Value-clause-extent c =
    let told = c.args.self.now.told in
    let back : c.in-Value.value ≡ neg_ℚ c.neg.result =
    ring (c.in-Value.value ∷ []) (var 0) (minus (minus (var 0))) refl ∙ ap neg_ℚ (sym c.neg.ensures) in
    let x = subst (IsExtent told c.in_ok-opposite.opposite) c.in-Value.is c.in_ok-extent.ensures.extent in
    subst (λ (v : ℚ). IsSupremum told (negated_form c.args.form.now) v) back
    (subst (λ (g : Linear). IsSupremum told g c.in-Value.value) c.in_ok-opposite.ensures x)
