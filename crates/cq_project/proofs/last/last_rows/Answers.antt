use Rattle.std.proofs.Common.{[], ◌++◌, Err, ap, ap₂, sym, subst}
use Rattle.spec_linear.specs.Solution.{Solvable}
use Rattle.spec_linear.proofs.Denominators.{has_left}
use Rattle.spec_projection.specs.Irredundant.{Sifts}
use Rattle.spec_projection.specs.Strict.{Strengthened}
use Rattle.spec_simplex.specs.Answers.{IsProjectionDue}
use Rattle.cq_elimination.specs.Steps.{AreRowsOf}
use Rattle.cq_equations.specs.Told.{numbers_of}
use Rattle.cq_project.proofs.Parts.{solvable_part}
use Rattle.cq_project.specs.Eliminating.{IsRowsDue}
use Rattle.cq_project.proofs.Exits.{refused, one_fault, if_rows}
use Rattle.cq_project.specs.Passing.{RefusesPass, SpendsPass}
use Rattle.cq_project.proofs.Faults.{store_refused, store_spent}
use Rattle.cq_project.proofs.LastStanding.{strict_solvable, unequal_solvable}
use Rattle.cq_project.proofs.LastStops.{eliminating_refused, eliminating_spent, rows_due, strengthening_refused, unequal_refused, unequal_spent, last_refused, last_spent}
use Rattle.cq_project.proofs.last.last_rows.Goals as goal

pub eliminate-requires-clause-solvable : goal.eliminate-requires-clause-solvable
eliminate-requires-clause-solvable c = solvable_part c.args.inequalities.now (c.args.inequalities.now ++ c.args.disequations.now) (λ d h. has_left d c.args.inequalities.now c.args.disequations.now h) c.requires.stand.solvable

pub returns-in-Err-clause-overflow : goal.returns-in-Err-clause-overflow
returns-in-Err-clause-overflow c = λ targets kept l a pair e.
    eliminating_refused targets kept (numbers_of c.args.rest.now) l c.args.inequalities.now c.args.disequations.now a pair (c.in-Err.ensures.overflow (targets ++ kept) a.over pair (ap Err (one_fault c.in-Err.fault _ e)))

pub returns-in-Err-clause-pivots : goal.returns-in-Err-clause-pivots
returns-in-Err-clause-pivots c = λ targets kept l a n e.
    let spent = c.in-Err.ensures.pivots (targets ++ kept) a.over n (ap Err (one_fault c.in-Err.fault _ e)) in
    (spent.0, eliminating_spent targets kept (numbers_of c.args.rest.now) l c.args.inequalities.now c.args.disequations.now a n spent.1)

pub returns-in-Err-clause-limit : goal.returns-in-Err-clause-limit
returns-in-Err-clause-limit c = λ targets kept l a.
    if_rows c.in-Err.fault (IsRowsDue (targets ++ kept) c.args.inequalities.now c.args.limit) (IsProjectionDue targets l c.args.limit)
    (λ p n rest rows h. rows_due targets kept (numbers_of c.args.rest.now) l c.args.inequalities.now c.args.disequations.now a c.args.limit p n rest rows h) (c.in-Err.ensures.limit (targets ++ kept) a.over)

pub returns-in_err-again-clause-overflow : goal.returns-in_err-again-clause-overflow
returns-in_err-again-clause-overflow c = λ targets kept l a pair e.
    let part = c.in-Ok.ensures.partial (targets ++ kept) a.over in
    strengthening_refused targets kept (numbers_of c.args.rest.now) l c.args.inequalities.now c.args.disequations.now a c.in-Ok.remaining.items part.0 pair
    (λ m rows. c.in_err-again.ensures.overflow pair m (subst (λ w. AreRowsOf m (c.args.disequations.now ++ w)) (sym c.deref.ensures.value) rows)
    (ap Err (refused c.from_residual.result c.in_err-again.field-0.0 pair c.from_residual.ensures.1 e)))

pub passed-requires : goal.passed-requires
passed-requires c =
    let own = c.in-Ok.ensures.partial c.requires.stand.others c.requires.stand.over in
    let strict : Strengthened c.args.disequations.now c.in-Ok.remaining.items c.in_ok-again.again.items = subst (λ m. Strengthened c.args.disequations.now m c.in_ok-again.again.items) c.deref.ensures.value c.in_ok-again.ensures.strict in
    record {
      solvable = subst (λ m. Solvable (m ++ c.args.disequations.now)) (sym c.deref-2.ensures.value)
          (strict_solvable (numbers_of c.args.rest.now) c.args.inequalities.now c.args.disequations.now c.requires.stand c.see_forms.ensures c.in-Ok.remaining.items own.0 c.in_ok-again.again.items strict);
    }

pub returns-in_err-unequal-clause-overflow : goal.returns-in_err-unequal-clause-overflow
returns-in_err-unequal-clause-overflow c = λ targets kept l a pair e.
    let part = c.in-Ok.ensures.partial (targets ++ kept) a.over in
    let strict : Strengthened c.args.disequations.now c.in-Ok.remaining.items c.in_ok-again.again.items = subst (λ m. Strengthened c.args.disequations.now m c.in_ok-again.again.items) c.deref.ensures.value c.in_ok-again.ensures.strict in
    unequal_refused targets kept (numbers_of c.args.rest.now) l c.args.inequalities.now c.args.disequations.now a c.in-Ok.remaining.items part.0 part.1 c.in_ok-again.again.items strict pair
    (subst (λ m. RefusesPass m c.args.disequations.now pair) c.deref-2.ensures.value
    (c.in_err-unequal.ensures.overflow pair (ap Err (store_refused c.from_residual-in_err-unequal.result c.in_err-unequal.field-0.0 pair c.from_residual-in_err-unequal.ensures.1 e))))

pub returns-in_err-unequal-clause-pivots : goal.returns-in_err-unequal-clause-pivots
returns-in_err-unequal-clause-pivots c = λ targets kept l a n e.
    let part = c.in-Ok.ensures.partial (targets ++ kept) a.over in
    let strict : Strengthened c.args.disequations.now c.in-Ok.remaining.items c.in_ok-again.again.items = subst (λ m. Strengthened c.args.disequations.now m c.in_ok-again.again.items) c.deref.ensures.value c.in_ok-again.ensures.strict in
    let spent = c.in_err-unequal.ensures.pivots n (ap Err (store_spent c.from_residual-in_err-unequal.result c.in_err-unequal.field-0.0 n c.from_residual-in_err-unequal.ensures.1 e)) in
    (spent.0, unequal_spent targets kept (numbers_of c.args.rest.now) l c.args.inequalities.now c.args.disequations.now a c.in-Ok.remaining.items part.0 part.1 c.in_ok-again.again.items strict n (subst (λ m. SpendsPass m c.args.disequations.now n) c.deref-2.ensures.value spent.1))

pub passed-requires-2 : goal.passed-requires-2
passed-requires-2 c =
    let own = c.in-Ok.ensures.partial c.requires.stand.others c.requires.stand.over in
    let strict : Strengthened c.args.disequations.now c.in-Ok.remaining.items c.in_ok-again.again.items = subst (λ m. Strengthened c.args.disequations.now m c.in_ok-again.again.items) c.deref.ensures.value c.in_ok-again.ensures.strict in
    let unequal : Sifts c.in_ok-again.again.items [] c.args.disequations.now c.in_ok-unequal.unequal.items = subst (λ m. Sifts m [] c.args.disequations.now c.in_ok-unequal.unequal.items) c.deref-2.ensures.value c.in_ok-unequal.ensures.left in
    record {
      solvable = subst Solvable (sym (ap₂ (λ a b. a ++ b) c.deref-3.ensures.value c.deref-4.ensures.value))
          (unequal_solvable (numbers_of c.args.rest.now) c.args.inequalities.now c.args.disequations.now c.requires.stand c.see_forms.ensures c.in-Ok.remaining.items own.0 c.in_ok-again.again.items strict c.in_ok-unequal.unequal.items unequal);
    }

pub returns-in_err-rows-clause-overflow : goal.returns-in_err-rows-clause-overflow
returns-in_err-rows-clause-overflow c = λ targets kept l a pair e.
    let part = c.in-Ok.ensures.partial (targets ++ kept) a.over in
    let strict : Strengthened c.args.disequations.now c.in-Ok.remaining.items c.in_ok-again.again.items = subst (λ m. Strengthened c.args.disequations.now m c.in_ok-again.again.items) c.deref.ensures.value c.in_ok-again.ensures.strict in
    let unequal : Sifts c.in_ok-again.again.items [] c.args.disequations.now c.in_ok-unequal.unequal.items = subst (λ m. Sifts m [] c.args.disequations.now c.in_ok-unequal.unequal.items) c.deref-2.ensures.value c.in_ok-unequal.ensures.left in
    last_refused targets kept (numbers_of c.args.rest.now) l c.args.inequalities.now c.args.disequations.now a c.in-Ok.remaining.items part.0 part.1 c.in_ok-again.again.items strict c.in_ok-unequal.unequal.items unequal pair
    (subst (λ m. RefusesPass m c.in_ok-again.again.items pair) c.deref-3.ensures.value (subst (λ m. RefusesPass c.deref-3.result.now m pair) c.deref-4.ensures.value
    (c.in_err-rows.ensures.overflow pair (ap Err (store_refused c.from_residual-in_err-rows.result c.in_err-rows.field-0.0 pair c.from_residual-in_err-rows.ensures.1 e)))))

pub returns-in_err-rows-clause-pivots : goal.returns-in_err-rows-clause-pivots
returns-in_err-rows-clause-pivots c = λ targets kept l a n e.
    let part = c.in-Ok.ensures.partial (targets ++ kept) a.over in
    let strict : Strengthened c.args.disequations.now c.in-Ok.remaining.items c.in_ok-again.again.items = subst (λ m. Strengthened c.args.disequations.now m c.in_ok-again.again.items) c.deref.ensures.value c.in_ok-again.ensures.strict in
    let unequal : Sifts c.in_ok-again.again.items [] c.args.disequations.now c.in_ok-unequal.unequal.items = subst (λ m. Sifts m [] c.args.disequations.now c.in_ok-unequal.unequal.items) c.deref-2.ensures.value c.in_ok-unequal.ensures.left in
    let spent = c.in_err-rows.ensures.pivots n (ap Err (store_spent c.from_residual-in_err-rows.result c.in_err-rows.field-0.0 n c.from_residual-in_err-rows.ensures.1 e)) in (
      spent.0,
      last_spent targets kept (numbers_of c.args.rest.now) l c.args.inequalities.now c.args.disequations.now a c.in-Ok.remaining.items part.0 part.1 c.in_ok-again.again.items strict c.in_ok-unequal.unequal.items unequal n
          (subst (λ m. SpendsPass m c.in_ok-again.again.items n) c.deref-3.ensures.value (subst (λ m. SpendsPass c.deref-3.result.now m n) c.deref-4.ensures.value spent.1)),
    )

pub returns-clause-rows : goal.returns-clause-rows
returns-clause-rows c = λ targets kept l a.
    let part = c.in-Ok.ensures.partial (targets ++ kept) a.over in
    record {
      remaining = c.in-Ok.remaining.items;
      partial = part.0;
      over = part.1;
      strict = c.in_ok-again.again.items;
      strengthened = subst (λ m. Strengthened c.args.disequations.now m c.in_ok-again.again.items) c.deref.ensures.value c.in_ok-again.ensures.strict;
      unequal = subst (λ m. Sifts m [] c.args.disequations.now c.in_ok-unequal.unequal.items) c.deref-2.ensures.value c.in_ok-unequal.ensures.left;
      last = subst (λ m. Sifts m [] c.in_ok-again.again.items c.in_ok-rows.rows.items) c.deref-3.ensures.value
          (subst (λ m. Sifts c.deref-3.result.now [] m c.in_ok-rows.rows.items) c.deref-4.ensures.value c.in_ok-rows.ensures.left);
    }
