use Rattle.std.proofs.Common.{◌<◌, ◌≤◌, length, arith, subst}
use Rattle.std.proofs.lemmas.List.{take_all}
use Rattle.spec_linear.specs.Form.{IsForm}
use Rattle.spec_linear.specs.Solution.{Constraint}
use Rattle.spec_projection.specs.Lists.{AreForms}
use Rattle.cq_project.proofs.Steps.{forms_more}
use Rattle.cq_project.proofs.eliminate.see_forms.Goals as goal

pub rows-init : goal.rows-init
rows-init c = λ d h. absurd h

pub rows-preserved : goal.rows-preserved
rows-preserved c =
    let within : c.rows.row-index < length c.args.rows.now = omega arith in
    forms_more c.args.rows.now c.rows.row-index c.row-item.result within c.row-item.is (subst (λ (r : Constraint). IsForm r.form) c.row.view_is c.entries-products.ensures.in_order) c.rows.invariant

pub returns : goal.returns
returns c =
    let whole : length c.args.rows.now ≤ c.rows.row-index = omega arith in
    subst AreForms (take_all c.rows.row-index c.args.rows.now whole) c.rows.invariant
