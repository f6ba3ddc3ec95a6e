use Rattle.std.proofs.Common.{◌++◌, Err, ap, ap₂, sym, subst}
use Rattle.spec_linear.specs.Solution.{Solvable}
use Rattle.spec_projection.specs.Strict.{Strengthened}
use Rattle.cq_elimination.specs.Steps.{AreRowsOf}
use Rattle.cq_store.proofs.Passed.{refused, passed, store_spent}
use Rattle.cq_elimination.specs.Scaling.{AreDisequations}
use Rattle.cq_project.specs.Passing.{RefusesPass, SpendsPass}
use Rattle.cq_project.proofs.Keeping.{strict_solvable}
use Rattle.cq_project.proofs.Strengthening.{scaling_refused, left_refused, left_spent}
use Rattle.cq_project.proofs.keep.left_of.Goals as goal

pub strengthened-requires : goal.strengthened-requires
strengthened-requires c = record { disequations = subst AreDisequations (sym c.deref.ensures.value) c.requires.disequations }

pub returns-in_err-inequalities-clause-overflow : goal.returns-in_err-inequalities-clause-overflow
returns-in_err-inequalities-clause-overflow c = λ targets l s pair e.
    let told = refused c.from_residual.result c.in_err-inequalities.field-0.0 pair c.from_residual.ensures.1 e in
    scaling_refused targets l c.args.rows.now s pair
    (λ m r. c.in_err-inequalities.ensures.overflow pair m (subst (AreRowsOf m) (sym (ap₂ (λ d i. d ++ i) c.deref.ensures.value c.deref-2.ensures.value)) r) (ap Err told))

pub passed-requires : goal.passed-requires
passed-requires c =
    let rows = c.args.rows.now in
    let strict = c.in_ok-inequalities.inequalities.items in
    let strong = subst (λ d. Strengthened d rows.inequalities.items strict) c.deref.ensures.value
    (subst (λ i. Strengthened c.deref.result.now i strict) c.deref-2.ensures.value c.in_ok-inequalities.ensures.strict) in
    record {
      solvable = subst Solvable (sym (ap₂ (λ a b. a ++ b) c.deref-3.ensures.value c.deref-4.ensures.value))
          (strict_solvable rows.disequations.items rows.inequalities.items strict strong c.requires.solvable);
    }

pub returns-in_err-disequations-clause-overflow : goal.returns-in_err-disequations-clause-overflow
returns-in_err-disequations-clause-overflow c = λ targets l s pair e.
    let rows = c.args.rows.now in
    let strict = c.in_ok-inequalities.inequalities.items in
    let strong = subst (λ d. Strengthened d rows.inequalities.items strict) c.deref.ensures.value
    (subst (λ i. Strengthened c.deref.result.now i strict) c.deref-2.ensures.value c.in_ok-inequalities.ensures.strict) in
    let told = passed c.from_residual-in_err-disequations.result c.in_err-disequations.field-0.0 pair c.from_residual-in_err-disequations.ensures.1 e in
    left_refused targets l rows s strict strong pair
    (subst (λ w. RefusesPass w rows.disequations.items pair) c.deref-3.ensures.value
    (subst (λ w. RefusesPass c.deref-3.result.now w pair) c.deref-4.ensures.value (c.in_err-disequations.ensures.overflow pair (ap Err told))))

pub returns-in_err-disequations-clause-pivots : goal.returns-in_err-disequations-clause-pivots
returns-in_err-disequations-clause-pivots c = λ targets l s n e.
    let rows = c.args.rows.now in
    let strict = c.in_ok-inequalities.inequalities.items in
    let strong = subst (λ d. Strengthened d rows.inequalities.items strict) c.deref.ensures.value
    (subst (λ i. Strengthened c.deref.result.now i strict) c.deref-2.ensures.value c.in_ok-inequalities.ensures.strict) in
    let told = store_spent c.from_residual-in_err-disequations.result c.in_err-disequations.field-0.0 n c.from_residual-in_err-disequations.ensures.1 e in
    let spent = c.in_err-disequations.ensures.pivots n (ap Err told) in (
      spent.0,
      left_spent targets l rows s strict strong n
          (subst (λ w. SpendsPass w rows.disequations.items n) c.deref-3.ensures.value
          (subst (λ w. SpendsPass c.deref-3.result.now w n) c.deref-4.ensures.value spent.1)),
    )
