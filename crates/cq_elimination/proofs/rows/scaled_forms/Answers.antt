use Rattle.std.proofs.Common.{◌<◌, [], ◌∷◌, ◌++◌, length, Err, arith, ap, subst, ◌∙◌}
use Rattle.spec_linear.specs.Form.{IsForm}
use Rattle.spec_linear.specs.Solution.{Constraint}
use Rattle.cq_frac.proofs.Exits.{refusal_told}
use Rattle.cq_elimination.proofs.Lists.{has_at}
use Rattle.cq_elimination.specs.Scaling.{canonical, ScalesForm}
use Rattle.cq_elimination.proofs.Beside.{forms_more, scaled_more}
use Rattle.cq_elimination.proofs.rows.scaled_forms.Goals as goal

pub returns-in_err-form-clause-overflow : goal.returns-in_err-form-clause-overflow
returns-in_err-form-clause-overflow c = λ pair e.
    let within : c.rows.row-index < length c.args.rows.now = omega arith in
    record {
      row = c.row-item.result;
      member = has_at c.args.rows.now c.rows.row-index c.row-item.result within c.row-item.is;
      scales = subst (λ (r : Constraint). ScalesForm r.form pair) c.row.view_is
          (c.in_err-form.ensures.overflow pair (ap Err (refusal_told _ _ pair c.from_residual.ensures.1 e)));
    }

pub rows-preserved : goal.rows-preserved
rows-preserved c =
    let within : c.rows.row-index < length c.args.rows.now = omega arith in (
      c.in_ok-push.ensures.items
          ∙ ap (λ f. c.rows.forms.items ++ f ∷ []) (c.in_ok-form.ensures.value ∙ ap (λ (r : Constraint). canonical r.form) c.row.view_is)
          ∙ scaled_more c.args.rows.now c.rows.row-index c.row-item.result within c.row-item.is c.rows.forms.items c.rows.invariant.0,
      forms_more c.args.rows.now c.rows.row-index c.row-item.result within c.row-item.is
          (subst (λ (r : Constraint). IsForm r.form) c.row.view_is c.in_ok-form.ensures.in_order) c.rows.invariant.1,
    )
