use Rattle.std.proofs.Common.{[], ◌++◌, Err, ap, ap₂, sym, subst, ◌∙◌}
use Rattle.std.proofs.lemmas.List.{map-append}
use Rattle.spec_linear.specs.Solution.{Solvable, Has, MentionsOnly}
use Rattle.spec_linear.specs.Echelon.{AreDistinct, IsEchelon}
use Rattle.spec_projection.specs.Irredundant.{Sifts}
use Rattle.spec_projection.proofs.PutIn.{put_disequations}
use Rattle.cq_frac.specs.declared.VarId.{VarId}
use Rattle.cq_store.proofs.Passed.{passed, store_spent}
use Rattle.cq_equations.specs.Told.{numbers_of}
use Rattle.cq_equations.specs.Rows.{equations_of}
use Rattle.cq_elimination.specs.Scaling.{AreDisequations}
use Rattle.cq_project.specs.Keeping.{AreSubstituted}
use Rattle.cq_project.specs.Variables.{others_than, AreUnwanted}
use Rattle.cq_project.proofs.Keeping.{put_solvable, is_kept}
use Rattle.cq_project.proofs.Listing.{order_distinct, order_all, others_has}
use Rattle.cq_project.proofs.Strengthening.{strengthens}
use Rattle.cq_project.proofs.keep.kept_of.Goals as goal

pub put_in-requires-clause-distinct : goal.put_in-requires-clause-distinct
put_in-requires-clause-distinct c =
    let front = numbers_of c.in_ok-front.front.items in
    let targets = numbers_of c.args.keep.now in
    let order = ap numbers_of (c.deref-2.ensures.value ∙ c.in_ok-order.ensures ∙ ap (λ v. v ++ c.args.keep.now) c.deref.ensures.value)
    ∙ map-append (λ (x : VarId). x.0) c.in_ok-front.front.items c.args.keep.now in
    subst AreDistinct (sym order) (order_distinct targets front c.args.told.now c.in_ok-front.ensures c.requires.distinct)

pub put_in-requires-clause-all : goal.put_in-requires-clause-all
put_in-requires-clause-all c =
    let front = numbers_of c.in_ok-front.front.items in
    let targets = numbers_of c.args.keep.now in
    let order = ap numbers_of (c.deref-2.ensures.value ∙ c.in_ok-order.ensures ∙ ap (λ v. v ++ c.args.keep.now) c.deref.ensures.value)
    ∙ map-append (λ (x : VarId). x.0) c.in_ok-front.front.items c.args.keep.now in
    subst (λ o. MentionsOnly o c.args.told.now) (sym order) (order_all targets front c.args.told.now c.in_ok-front.ensures)

pub returns-in_err-rows-clause-pivots : goal.returns-in_err-rows-clause-pivots
returns-in_err-rows-clause-pivots c = λ n e.
    c.in_err-rows.ensures.pivots (numbers_of c.args.keep.now) n
    (ap Err (store_spent c.from_residual-in_err-rows.result c.in_err-rows.field-0.0 n c.from_residual-in_err-rows.ensures.1 e))

pub left_of-requires-clause-disequations : goal.left_of-requires-clause-disequations
left_of-requires-clause-disequations c =
    let s = c.in_ok-rows.ensures.substituted in
    subst AreDisequations (sym s.put_in.disequations) (put_disequations (equations_of c.in_ok-rows.rows.equations.items) c.args.told.now)

pub left_of-requires-clause-solvable : goal.left_of-requires-clause-solvable
left_of-requires-clause-solvable c =
    let front = numbers_of c.in_ok-front.front.items in
    let targets = numbers_of c.args.keep.now in
    let told = c.args.told.now in
    let es = equations_of c.in_ok-rows.rows.equations.items in
    let order = ap numbers_of (c.deref-2.ensures.value ∙ c.in_ok-order.ensures ∙ ap (λ v. v ++ c.args.keep.now) c.deref.ensures.value)
    ∙ map-append (λ (x : VarId). x.0) c.in_ok-front.front.items c.args.keep.now in
    let s = c.in_ok-rows.ensures.substituted in
    subst Solvable (sym (ap₂ (λ a b. a ++ b) s.put_in.inequalities s.put_in.disequations))
    (put_solvable (front ++ targets) told es (order_distinct targets front told c.in_ok-front.ensures c.requires.distinct) (order_all targets front told c.in_ok-front.ensures)
    (subst (λ o. IsEchelon o told es) order s.echelon) c.requires.solvable)

pub returns-in_err-left-clause-overflow : goal.returns-in_err-left-clause-overflow
returns-in_err-left-clause-overflow c = λ pair e.
    let front = numbers_of c.in_ok-front.front.items in
    let targets = numbers_of c.args.keep.now in
    let told = c.args.told.now in
    let es = equations_of c.in_ok-rows.rows.equations.items in
    let order = ap numbers_of (c.deref-2.ensures.value ∙ c.in_ok-order.ensures ∙ ap (λ v. v ++ c.args.keep.now) c.deref.ensures.value)
    ∙ map-append (λ (x : VarId). x.0) c.in_ok-front.front.items c.args.keep.now in
    let s = c.in_ok-rows.ensures.substituted in
    let a : AreSubstituted targets told c.in_ok-rows.rows = record {
      solves = record { front = front; others = c.in_ok-front.ensures; echelon = subst (λ o. IsEchelon o told es) order s.echelon };
      put_in = s.put_in;
    } in
    c.in_err-left.ensures.overflow targets told a pair
    (ap Err (passed c.from_residual-in_err-left.result c.in_err-left.field-0.0 pair c.from_residual-in_err-left.ensures.1 e))

pub returns-in_err-left-clause-pivots : goal.returns-in_err-left-clause-pivots
returns-in_err-left-clause-pivots c = λ n e.
    let front = numbers_of c.in_ok-front.front.items in
    let targets = numbers_of c.args.keep.now in
    let told = c.args.told.now in
    let es = equations_of c.in_ok-rows.rows.equations.items in
    let order = ap numbers_of (c.deref-2.ensures.value ∙ c.in_ok-order.ensures ∙ ap (λ v. v ++ c.args.keep.now) c.deref.ensures.value)
    ∙ map-append (λ (x : VarId). x.0) c.in_ok-front.front.items c.args.keep.now in
    let s = c.in_ok-rows.ensures.substituted in
    let a : AreSubstituted targets told c.in_ok-rows.rows = record {
      solves = record { front = front; others = c.in_ok-front.ensures; echelon = subst (λ o. IsEchelon o told es) order s.echelon };
      put_in = s.put_in;
    } in
    c.in_err-left.ensures.pivots targets told a n
    (ap Err (store_spent c.from_residual-in_err-left.result c.in_err-left.field-0.0 n c.from_residual-in_err-left.ensures.1 e))

pub returns-clause-kept : goal.returns-clause-kept
returns-clause-kept c =
    let front = numbers_of c.in_ok-front.front.items in
    let targets = numbers_of c.args.keep.now in
    let told = c.args.told.now in
    let rows = c.in_ok-rows.rows in
    let es = equations_of rows.equations.items in
    let strict = c.in_ok-left.left.inequalities.items in
    let left = c.in_ok-left.left.disequations.items in
    let variables = numbers_of c.in_ok-variables.variables.items in
    let order = ap numbers_of (c.deref-2.ensures.value ∙ c.in_ok-order.ensures ∙ ap (λ v. v ++ c.args.keep.now) c.deref.ensures.value)
    ∙ map-append (λ (x : VarId). x.0) c.in_ok-front.front.items c.args.keep.now in
    let s = c.in_ok-rows.ensures.substituted in
    let echelon = subst (λ o. IsEchelon o told es) order s.echelon in
    let a : AreSubstituted targets told rows = record { solves = record { front = front; others = c.in_ok-front.ensures; echelon = echelon }; put_in = s.put_in } in
    let chosen = subst (λ w. AreUnwanted targets w variables) c.deref-3.ensures.value c.in_ok-variables.ensures in
    let rest = c.in_ok-rest.ensures ∙ ap₂ (λ v f. others_than (numbers_of v) (numbers_of f)) c.deref-5.ensures.value c.deref-4.ensures.value in
    is_kept targets front told es _ c.requires.solvable c.see_forms.ensures c.requires.distinct c.in_ok-front.ensures echelon
    (strengthens targets told rows a strict c.in_ok-left.ensures.left.strict)
    (subst (λ w. Sifts strict [] w left) s.put_in.disequations c.in_ok-left.ensures.left.unequal)
    c.in_ok-equations.ensures chosen.oldest_first chosen.those
    (λ x. let o = others_has variables front x in ((λ h. o.0 (subst (Has x) rest h)), (λ h. subst (Has x) (sym rest) (o.1 h))))
