use Rattle.std.proofs.Common.{◌≡◌, ◌<◌, List, [], ◌∷◌, ◌++◌, length, take, Err, arith, ap, sym, subst, ◌∙◌}
use Rattle.spec_linear.specs.Form.{Linear}
use Rattle.spec_linear.specs.Solution.{Constraint}
use Rattle.spec_linear.proofs.Denominators.{has_left, has_right}
use Rattle.spec_projection.specs.Strict.{Strengthened, no_more}
use Rattle.cq_frac.proofs.Exits.{refusal_told}
use Rattle.cq_elimination.proofs.Lists.{has_at}
use Rattle.cq_elimination.specs.Scaling.{IsRelationBeside}
use Rattle.cq_elimination.proofs.Beside.{one_more, scales_due, strengthened_more}
use Rattle.cq_elimination.proofs.rows.strengthened.Goals as goal

pub returns-in_err-forms-clause-overflow : goal.returns-in_err-forms-clause-overflow
returns-in_err-forms-clause-overflow c = λ pair m rows e.
    let s = c.in_err-forms.ensures.overflow pair (ap Err (refusal_told _ _ pair c.from_residual.ensures.1 e)) in
    scales_due m (c.args.disequations.now ++ c.args.rows.now) s.row pair rows (has_left s.row c.args.disequations.now c.args.rows.now s.member) s.scales

pub rows-init : goal.rows-init
rows-init c = subst (Strengthened c.args.disequations.now []) (sym c.new-strict.ensures.items) no_more

pub returns-in_err-relation-clause-overflow : goal.returns-in_err-relation-clause-overflow
returns-in_err-relation-clause-overflow c = λ pair m rows e.
    let within : c.rows.row-index < length c.args.rows.now = omega arith in
    let member = has_at c.args.rows.now c.rows.row-index c.row-item.result within c.row-item.is in
    scales_due m (c.args.disequations.now ++ c.args.rows.now) c.row-item.result pair rows (has_right c.row-item.result c.args.disequations.now c.args.rows.now member)
    (c.in_err-relation.ensures.overflow pair (ap Err (refusal_told _ _ pair c.from_residual-in_err-relation.ensures.1 e)))

pub rows-preserved : goal.rows-preserved
rows-preserved c =
    let within : c.rows.row-index < length c.args.rows.now = omega arith in
    let beside = subst (λ forms. IsRelationBeside forms c.row-item.result c.in_ok-relation.relation) (c.deref.ensures.value ∙ c.in_ok-forms.ensures.value) c.in_ok-relation.ensures.relation in
    let pushed : Linear → List Constraint = λ f. c.rows.strict.items ++ record { relation = c.in_ok-relation.relation; form = f } ∷ [] in
    let strict : c.push.new.self.items ≡ pushed c.row-item.result.form =
    c.in_ok-push.ensures.items ∙ ap pushed (c.in_ok-form.ensures.cases ∙ ap (λ (r : Constraint). r.form) c.row.view_is) in
    subst (λ rows. Strengthened c.args.disequations.now rows c.push.new.self.items) (sym (one_more c.args.rows.now c.rows.row-index c.row-item.result within c.row-item.is))
    (subst (Strengthened c.args.disequations.now (take c.rows.row-index c.args.rows.now ++ c.row-item.result ∷ [])) (sym strict)
    (strengthened_more c.args.disequations.now c.requires.disequations c.in_ok-forms.ensures.in_order (take c.rows.row-index c.args.rows.now) c.rows.strict.items
    c.row-item.result c.in_ok-relation.relation c.in_ok-relation.ensures.in_order beside c.rows.invariant))
