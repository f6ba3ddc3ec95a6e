use Rattle.std.proofs.Common.{◌≡◌, ◌<◌, List, [], ◌∷◌, ◌++◌, length, Err, arith, ap, sym, subst, ◌∙◌}
use Rattle.spec_linear.specs.Form.{Linear}
use Rattle.spec_linear.specs.Solution.{Constraint}
use Rattle.spec_projection.specs.Substitution.{with_forms_of, put_into}
use Rattle.cq_frac.proofs.Exits.{refusal_told}
use Rattle.cq_equations.specs.Rows.{equations_of}
use Rattle.cq_project.specs.declared.echelon.putting.Row.{Row}
use Rattle.cq_project.specs.Putting.{all_solved_by, AreAlike, PutsInForm}
use Rattle.cq_project.proofs.Valued.{alike_forms, put_in_form}
use Rattle.cq_project.proofs.Products.{has_here, puts_in_alike, rows_more}
use Rattle.cq_project.proofs.echelon.putting.put_into.Goals as goal

pub returns-in_err-form-clause-overflow : goal.returns-in_err-form-clause-overflow
returns-in_err-form-clause-overflow c = λ pair e.
    let within : c.rows.row-index < length c.args.rows.now = omega arith in
    let es = equations_of c.args.equations.now in
    let alike = subst (λ (w : List Row). AreAlike (all_solved_by w) es) (sym c.deref.ensures.value) c.in_ok-sorted.ensures in
    let form : c.row.inside.form ≡ c.row-item.result.form = ap (λ (r : Constraint). r.form) c.row.view_is in
    record {
      row = c.row-item.result;
      member = has_here c.args.rows.now c.rows.row-index c.row-item.result within c.row-item.is;
      puts = puts_in_alike (all_solved_by c.deref.result.now) es alike c.row-item.result.form pair
          (subst (λ f. PutsInForm (all_solved_by c.deref.result.now) f pair) form
          (c.in_err-form.ensures.overflow pair (ap Err (refusal_told _ _ pair c.from_residual-in_err-form.ensures.1 e))));
    }

pub rows-preserved : goal.rows-preserved
rows-preserved c =
    let within : c.rows.row-index < length c.args.rows.now = omega arith in
    let es = equations_of c.args.equations.now in
    let alike = subst (λ (w : List Row). AreAlike (all_solved_by w) es) (sym c.deref.ensures.value) c.in_ok-sorted.ensures in
    let form : c.in_ok-form.form ≡ with_forms_of es c.row.inside.form =
    put_in_form es c.requires.reduced c.row.inside.form c.in_ok-form.form c.in_ok-form.ensures.in_order.1 c.in_ok-form.ensures.in_order.0
    (λ a. c.in_ok-form.ensures.value a ∙ alike_forms (all_solved_by c.deref.result.now) es alike a c.row.inside.form) in
    let with_form : Linear → Constraint = λ f. record { relation = c.row.inside.relation; form = f } in
    rows_more es c.args.rows.now c.rows.row-index c.row-item.result c.rows.all.items c.push.new.self.items c.rows.invariant within c.row-item.is
    (c.in_ok-push.ensures.items ∙ ap (λ (d : Constraint). c.rows.all.items ++ d ∷ []) (ap with_form form ∙ ap (put_into es) c.row.view_is))
