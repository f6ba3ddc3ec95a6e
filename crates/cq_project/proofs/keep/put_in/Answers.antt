use Rattle.std.proofs.Common.{Err, ap, sym, subst, ◌∙◌}
use Rattle.std.specs.List.{AllByRecursion}
use Rattle.spec_linear.specs.Solution.{Has}
use Rattle.spec_projection.specs.Substitution.{AreReduced}
use Rattle.spec_projection.specs.Projection.{is_inequality, is_disequation}
use Rattle.spec_projection.proofs.Members.{has_filtered}
use Rattle.spec_projection.proofs.Echelons.{echelon_reduced}
use Rattle.cq_store.proofs.Passed.{refused, store_spent}
use Rattle.cq_equations.specs.Told.{numbers_of}
use Rattle.cq_equations.specs.Rows.{equations_of}
use Rattle.cq_project.specs.Putting.{IsProper, PutsInSome}
use Rattle.cq_project.proofs.Parted.{proper}
use Rattle.cq_project.proofs.keep.put_in.Goals as goal

pub returns-in_err-equations-clause-pivots : goal.returns-in_err-equations-clause-pivots
returns-in_err-equations-clause-pivots c = λ targets n e.
    c.in_err-equations.ensures.pivots targets n (ap Err (store_spent c.from_residual.result c.in_err-equations.field-0.0 n c.from_residual.ensures.1 e))

pub put_into-requires-clause-proper : goal.put_into-requires-clause-proper
put_into-requires-clause-proper c =
    let es = equations_of c.in_ok-equations.equations.items in
    subst (λ s. AllByRecursion IsProper (equations_of s)) (sym c.deref.ensures.value)
    (proper (numbers_of c.args.order.now) c.args.told.now es c.requires.distinct c.in_ok-equations.ensures.echelon)

pub put_into-requires-clause-reduced : goal.put_into-requires-clause-reduced
put_into-requires-clause-reduced c =
    let es = equations_of c.in_ok-equations.equations.items in
    subst (λ s. AreReduced (equations_of s)) (sym c.deref.ensures.value)
    (echelon_reduced (numbers_of c.args.order.now) c.args.told.now es c.requires.distinct c.in_ok-equations.ensures.echelon)

pub put_into-requires-2-clause-proper : goal.put_into-requires-2-clause-proper
put_into-requires-2-clause-proper c =
    let es = equations_of c.in_ok-equations.equations.items in
    subst (λ s. AllByRecursion IsProper (equations_of s)) (sym c.deref-3.ensures.value)
    (proper (numbers_of c.args.order.now) c.args.told.now es c.requires.distinct c.in_ok-equations.ensures.echelon)

pub put_into-requires-2-clause-reduced : goal.put_into-requires-2-clause-reduced
put_into-requires-2-clause-reduced c =
    let es = equations_of c.in_ok-equations.equations.items in
    subst (λ s. AreReduced (equations_of s)) (sym c.deref-3.ensures.value)
    (echelon_reduced (numbers_of c.args.order.now) c.args.told.now es c.requires.distinct c.in_ok-equations.ensures.echelon)

pub returns-in_err-inequalities-clause-overflow : goal.returns-in_err-inequalities-clause-overflow
returns-in_err-inequalities-clause-overflow c = λ targets pair e.
    let rows = c.deref-2.ensures.value ∙ c.in_ok-ordered.ensures in
    let puts = c.in_err-inequalities.ensures.overflow pair
    (ap Err (refused c.from_residual-in_err-inequalities.result c.in_err-inequalities.field-0.0 pair c.from_residual-in_err-inequalities.ensures.1 e)) in
    c.in_ok-equations.ensures.putting targets c.deref-2.result.now
    (λ d h. (has_filtered (λ k. is_inequality k.relation) d c.args.told.now (subst (Has d) rows h)).0) pair
    (subst (λ s. PutsInSome (equations_of s) c.deref-2.result.now pair) c.deref.ensures.value puts)

pub returns-in_err-disequations-clause-overflow : goal.returns-in_err-disequations-clause-overflow
returns-in_err-disequations-clause-overflow c = λ targets pair e.
    let rows = c.deref-4.ensures.value ∙ c.in_ok-unequal.ensures in
    let puts = c.in_err-disequations.ensures.overflow pair
    (ap Err (refused c.from_residual-in_err-disequations.result c.in_err-disequations.field-0.0 pair c.from_residual-in_err-disequations.ensures.1 e)) in
    c.in_ok-equations.ensures.putting targets c.deref-4.result.now
    (λ d h. (has_filtered (λ k. is_disequation k.relation) d c.args.told.now (subst (Has d) rows h)).0) pair
    (subst (λ s. PutsInSome (equations_of s) c.deref-4.result.now pair) c.deref-3.ensures.value puts)
