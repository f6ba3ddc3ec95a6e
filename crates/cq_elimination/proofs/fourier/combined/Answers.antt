use Rattle.std.proofs.Common.{◌∙◌, Err, ap, subst}
use Rattle.spec_linear.specs.Form.{IsForm}
use Rattle.spec_linear.specs.Solution.{Constraint}
use Rattle.cq_frac.proofs.Exits.{refusal_told}
use Rattle.cq_elimination.proofs.Crossing.{combined_told}
use Rattle.cq_elimination.proofs.fourier.combined.Goals as goal

pub returns-in_err-form-clause-overflow : goal.returns-in_err-form-clause-overflow
returns-in_err-form-clause-overflow c = λ pair e.
    combined_told c.args.lower.now c.args.upper.now c.in_ok-clone.field-0 c.upper.inside.form pair
    (c.in_ok-clone.ensures.cases ∙ ap (λ (r : Constraint). r.form) c.lower.view_is) (ap (λ (r : Constraint). r.form) c.upper.view_is)
    (subst (λ (r : Constraint). IsForm r.form) c.lower.view_is c.entries-lower.ensures.in_order)
    (subst (λ (r : Constraint). IsForm r.form) c.upper.view_is c.entries-upper.ensures.in_order)
    (c.in_err-form.ensures.overflow pair (ap Err (refusal_told _ _ pair c.from_residual-in_err-form.ensures.1 e)))
