use Rattle.std.proofs.Common.{Err, ap, sym, subst, ◌∙◌}
use Rattle.spec_linear.specs.Solution.{Solvable, AreEquations}
use Rattle.spec_linear.specs.Echelon.{IsEchelon}
use Rattle.spec_projection.specs.Interior.{equations_of as equations_among}
use Rattle.cq_store.proofs.Passed.{store_spent, one_fault}
use Rattle.cq_equations.specs.Told.{numbers_of}
use Rattle.cq_equations.specs.Rows.{equations_of, ProjectionMakes}
use Rattle.cq_project.proofs.Solving.{are_equations, equations_solvable, echelon_of_list, solving_refused, put_refused, fault_told}
use Rattle.cq_project.proofs.echelon.solved.Goals as goal

pub returns-in_err-all-clause-pivots : goal.returns-in_err-all-clause-pivots
returns-in_err-all-clause-pivots c = λ targets n e.
    c.in_err-all.ensures.pivots targets n (ap Err (store_spent c.from_residual.result c.in_err-all.field-0.0 n c.from_residual.ensures.1 e))

pub project-requires-clause-equations : goal.project-requires-clause-equations
project-requires-clause-equations c =
    let these = c.deref-2.ensures.value ∙ c.in_ok-equations.ensures ∙ ap equations_among c.deref.ensures.value in
    subst AreEquations (sym these) (are_equations c.in_ok-all.all.items)

pub project-requires-clause-solvable : goal.project-requires-clause-solvable
project-requires-clause-solvable c =
    let these = c.deref-2.ensures.value ∙ c.in_ok-equations.ensures ∙ ap equations_among c.deref.ensures.value in
    subst Solvable (sym these) (equations_solvable c.args.told.now c.in_ok-all.all.items c.in_ok-all.ensures.same c.requires.solvable)

pub returns-in-Ok-clause-echelon : goal.returns-in-Ok-clause-echelon
returns-in-Ok-clause-echelon c =
    let these = c.deref-2.ensures.value ∙ c.in_ok-equations.ensures ∙ ap equations_among c.deref.ensures.value in
    let order = numbers_of c.args.order.now in
    let es = equations_of c.in-Ok.rows.equations.items in
    echelon_of_list c.args.told.now c.in_ok-all.all.items c.in_ok-all.ensures.same order es c.in_ok-all.ensures.complete
    (subst (λ l. IsEchelon order l es) these c.in-Ok.ensures.echelon)

pub returns-in-Ok-clause-putting : goal.returns-in-Ok-clause-putting
returns-in-Ok-clause-putting c = λ targets rows members pair puts.
    let these = c.deref-2.ensures.value ∙ c.in_ok-equations.ensures ∙ ap equations_among c.deref.ensures.value in
    let order = numbers_of c.args.order.now in
    let es = equations_of c.in-Ok.rows.equations.items in
    put_refused c.args.told.now c.in_ok-all.all.items c.in_ok-all.ensures.same targets order c.requires.solvable c.in_ok-all.ensures.disclosed c.requires.all es
    c.requires.distinct (subst (λ l. IsEchelon order l es) these c.in-Ok.ensures.echelon) rows members pair puts

pub returns-clause-overflow : goal.returns-clause-overflow
returns-clause-overflow c = λ targets pair e.
    let these = c.deref-2.ensures.value ∙ c.in_ok-equations.ensures ∙ ap equations_among c.deref.ensures.value in
    let order = numbers_of c.args.order.now in
    let fault = fault_told c.in-Err.fault c.store_fault.result pair c.store_fault.ensures (one_fault c.store_fault.result _ e) in
    solving_refused c.args.told.now c.in_ok-all.all.items c.in_ok-all.ensures.same targets order c.requires.solvable c.in_ok-all.ensures.disclosed c.requires.all pair
    (subst (λ l. ProjectionMakes order l pair) these (c.in-Err.ensures.overflow pair (ap Err fault)))
