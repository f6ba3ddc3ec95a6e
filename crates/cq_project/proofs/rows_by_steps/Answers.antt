use Rattle.std.proofs.Common.{◌++◌, map, Err, ap, sym, subst, ◌∙◌}
use Rattle.spec_linear.specs.Solution.{MentionsOnly, Solvable}
use Rattle.spec_linear.specs.Echelon.{AreDistinct}
use Rattle.spec_projection.specs.Irredundant.{IsIrredundant}
use Rattle.spec_projection.specs.Partial.{AreInequalities}
use Rattle.spec_simplex.specs.Answers.{IsProjectionDue}
use Rattle.cq_elimination.specs.Steps.{AreRowsOf}
use Rattle.cq_equations.specs.Told.{numbers_of}
use Rattle.cq_project.proofs.Exits.{refused, never_spent, one_fault, no_rows_refused}
use Rattle.cq_project.proofs.Faults.{store_refused, store_spent, no_rows_told}
use Rattle.cq_elimination.specs.Scaling.{AreDisequations}
use Rattle.cq_elimination.specs.Lines.{lines_of, inequality_of, disequation_of}
use Rattle.cq_elimination.specs.Arranging.{HasNoEquation, AreInequalityRows, AreDisequationRows}
use Rattle.cq_project.proofs.Whole.{stands_lent, left_lent, last_given, order_is, order_distinct, ordered, unequal, ordered_over, unequal_over, ordered_no_equation, unequal_no_equation, ordered_solvable, unequal_solvable, ordered_irredundant, unequal_irredundant, ordered_due, unequal_due, answer_rows, kept_so}
use Rattle.cq_project.proofs.rows_by_steps.Goals as goal

pub returns-in_err-kept-clause-overflow : goal.returns-in_err-kept-clause-overflow
returns-in_err-kept-clause-overflow c = λ pair e.
    c.in_err-kept.ensures.overflow pair (ap Err (store_refused c.from_residual.result c.in_err-kept.field-0.0 pair c.from_residual.ensures.1 e))

pub returns-in_err-kept-clause-pivots : goal.returns-in_err-kept-clause-pivots
returns-in_err-kept-clause-pivots c = λ n e.
    c.in_err-kept.ensures.pivots n (ap Err (store_spent c.from_residual.result c.in_err-kept.field-0.0 n c.from_residual.ensures.1 e))

pub returns-in_err-kept-clause-limit : goal.returns-in_err-kept-clause-limit
returns-in_err-kept-clause-limit c =
    no_rows_told c.from_residual.result c.in_err-kept.field-0.0 (IsProjectionDue (numbers_of c.args.keep.now) c.args.told.now c.args.limit) c.from_residual.ensures.1

pub last_rows-requires : goal.last_rows-requires
last_rows-requires c = record { stand = stands_lent (numbers_of c.args.keep.now) c.args.told.now c.in_ok-kept.kept c.in_ok-kept.ensures.kept c.deref.result.now c.deref-2.result.now c.deref-3.result.now c.deref.ensures.value c.deref-2.ensures.value c.deref-3.ensures.value }

pub returns-in-Err-clause-overflow : goal.returns-in-Err-clause-overflow
returns-in-Err-clause-overflow c = λ pair e.
    c.in-Err.ensures.overflow (numbers_of c.args.keep.now) (numbers_of c.in_ok-kept.kept.variables.items) c.args.told.now (left_lent (numbers_of c.args.keep.now) c.args.told.now c.in_ok-kept.kept c.in_ok-kept.ensures.kept c.deref.result.now c.deref-2.result.now c.deref-3.result.now c.deref.ensures.value c.deref-2.ensures.value c.deref-3.ensures.value) pair (ap Err (one_fault c.in-Err.fault _ e))

pub returns-in-Err-clause-pivots : goal.returns-in-Err-clause-pivots
returns-in-Err-clause-pivots c = λ n e.
    c.in-Err.ensures.pivots (numbers_of c.args.keep.now) (numbers_of c.in_ok-kept.kept.variables.items) c.args.told.now (left_lent (numbers_of c.args.keep.now) c.args.told.now c.in_ok-kept.kept c.in_ok-kept.ensures.kept c.deref.result.now c.deref-2.result.now c.deref-3.result.now c.deref.ensures.value c.deref-2.ensures.value c.deref-3.ensures.value) n (ap Err (one_fault c.in-Err.fault _ e))

pub returns-in-Err-clause-limit : goal.returns-in-Err-clause-limit
returns-in-Err-clause-limit c = c.in-Err.ensures.limit (numbers_of c.args.keep.now) (numbers_of c.in_ok-kept.kept.variables.items) c.args.told.now (left_lent (numbers_of c.args.keep.now) c.args.told.now c.in_ok-kept.kept c.in_ok-kept.ensures.kept c.deref.result.now c.deref-2.result.now c.deref-3.result.now c.deref.ensures.value c.deref-2.ensures.value c.deref-3.ensures.value)

pub arranged-requires : goal.arranged-requires
arranged-requires c =
    let given = c.in-Ok.ensures.rows (numbers_of c.args.keep.now) (numbers_of c.in_ok-kept.kept.variables.items) c.args.told.now (left_lent (numbers_of c.args.keep.now) c.args.told.now c.in_ok-kept.kept c.in_ok-kept.ensures.kept c.deref.result.now c.deref-2.result.now c.deref-3.result.now c.deref.ensures.value c.deref-2.ensures.value c.deref-3.ensures.value) in
    let last = last_given (numbers_of c.args.keep.now) c.args.told.now c.in_ok-kept.kept c.in_ok-kept.ensures.kept c.deref.result.now c.deref-2.result.now c.deref-3.result.now c.deref.ensures.value c.deref-2.ensures.value c.deref-3.ensures.value (numbers_of c.args.keep.now ++ numbers_of c.in_ok-kept.kept.variables.items) c.in-Ok.last given in
    let order = order_is c.args.keep.now c.deref-4.result.now c.in_ok-kept.kept c.deref-6.result.now (c.deref-6.ensures.value ∙ c.in_ok-order.ensures) c.deref-4.ensures.value in
    record {
      distinct = subst AreDistinct (sym order) (order_distinct (numbers_of c.args.keep.now) c.args.told.now c.in_ok-kept.kept c.in_ok-kept.ensures.kept);
      over = subst (λ xs. MentionsOnly xs c.deref-5.result.now) (sym order) (subst (MentionsOnly (numbers_of c.args.keep.now ++ numbers_of c.in_ok-kept.kept.variables.items)) (sym c.deref-5.ensures.value) (ordered_over (numbers_of c.args.keep.now) c.args.told.now c.in_ok-kept.kept c.in_ok-kept.ensures.kept c.in-Ok.last last));
      unequal = subst HasNoEquation (sym c.deref-5.ensures.value) (ordered_no_equation (numbers_of c.args.keep.now) c.args.told.now c.in_ok-kept.kept c.in_ok-kept.ensures.kept c.in-Ok.last last);
      solvable = subst Solvable (sym c.deref-5.ensures.value) (ordered_solvable (numbers_of c.args.keep.now) c.args.told.now c.in_ok-kept.kept c.in_ok-kept.ensures.kept c.in-Ok.last last);
      irredundant = subst IsIrredundant (sym c.deref-5.ensures.value) (ordered_irredundant (numbers_of c.args.keep.now) c.args.told.now c.in_ok-kept.kept c.in_ok-kept.ensures.kept c.in-Ok.last last);
    }

pub returns-in_err-inequalities-clause-overflow : goal.returns-in_err-inequalities-clause-overflow
returns-in_err-inequalities-clause-overflow c = λ pair e.
    let given = c.in-Ok.ensures.rows (numbers_of c.args.keep.now) (numbers_of c.in_ok-kept.kept.variables.items) c.args.told.now (left_lent (numbers_of c.args.keep.now) c.args.told.now c.in_ok-kept.kept c.in_ok-kept.ensures.kept c.deref.result.now c.deref-2.result.now c.deref-3.result.now c.deref.ensures.value c.deref-2.ensures.value c.deref-3.ensures.value) in
    let last = last_given (numbers_of c.args.keep.now) c.args.told.now c.in_ok-kept.kept c.in_ok-kept.ensures.kept c.deref.result.now c.deref-2.result.now c.deref-3.result.now c.deref.ensures.value c.deref-2.ensures.value c.deref-3.ensures.value (numbers_of c.args.keep.now ++ numbers_of c.in_ok-kept.kept.variables.items) c.in-Ok.last given in
    ordered_due (numbers_of c.args.keep.now) c.args.told.now c.in_ok-kept.kept c.in_ok-kept.ensures.kept c.in-Ok.last last pair
    (λ m rows. c.in_err-inequalities.ensures.overflow pair m (subst (AreRowsOf m) (sym c.deref-5.ensures.value) rows)
    (ap Err (refused c.from_residual-in_err-inequalities.result c.in_err-inequalities.field-0.0 pair c.from_residual-in_err-inequalities.ensures.1 e)))

pub returns-in_err-inequalities-clause-pivots : goal.returns-in_err-inequalities-clause-pivots
returns-in_err-inequalities-clause-pivots c = λ n e.
    absurd (never_spent c.from_residual-in_err-inequalities.result c.in_err-inequalities.field-0.0 n c.from_residual-in_err-inequalities.ensures.1 e)

pub returns-in_err-inequalities-clause-limit : goal.returns-in_err-inequalities-clause-limit
returns-in_err-inequalities-clause-limit c =
    no_rows_refused c.from_residual-in_err-inequalities.result c.in_err-inequalities.field-0.0 (IsProjectionDue (numbers_of c.args.keep.now) c.args.told.now c.args.limit)
    c.from_residual-in_err-inequalities.ensures.1

pub arranged-requires-2 : goal.arranged-requires-2
arranged-requires-2 c =
    let given = c.in-Ok.ensures.rows (numbers_of c.args.keep.now) (numbers_of c.in_ok-kept.kept.variables.items) c.args.told.now (left_lent (numbers_of c.args.keep.now) c.args.told.now c.in_ok-kept.kept c.in_ok-kept.ensures.kept c.deref.result.now c.deref-2.result.now c.deref-3.result.now c.deref.ensures.value c.deref-2.ensures.value c.deref-3.ensures.value) in
    let last = last_given (numbers_of c.args.keep.now) c.args.told.now c.in_ok-kept.kept c.in_ok-kept.ensures.kept c.deref.result.now c.deref-2.result.now c.deref-3.result.now c.deref.ensures.value c.deref-2.ensures.value c.deref-3.ensures.value (numbers_of c.args.keep.now ++ numbers_of c.in_ok-kept.kept.variables.items) c.in-Ok.last given in
    let order = order_is c.args.keep.now c.deref-4.result.now c.in_ok-kept.kept c.deref-8.result.now (c.deref-8.ensures.value ∙ c.in_ok-order.ensures) c.deref-4.ensures.value in
    record {
      distinct = subst AreDistinct (sym order) (order_distinct (numbers_of c.args.keep.now) c.args.told.now c.in_ok-kept.kept c.in_ok-kept.ensures.kept);
      over = subst (λ xs. MentionsOnly xs c.deref-7.result.now) (sym order) (subst (MentionsOnly (numbers_of c.args.keep.now ++ numbers_of c.in_ok-kept.kept.variables.items)) (sym c.deref-7.ensures.value) (unequal_over (numbers_of c.args.keep.now) c.args.told.now c.in_ok-kept.kept c.in_ok-kept.ensures.kept c.in-Ok.last last));
      unequal = subst HasNoEquation (sym c.deref-7.ensures.value) (unequal_no_equation (numbers_of c.args.keep.now) c.args.told.now c.in_ok-kept.kept c.in_ok-kept.ensures.kept c.in-Ok.last last);
      solvable = subst Solvable (sym c.deref-7.ensures.value) (unequal_solvable (numbers_of c.args.keep.now) c.args.told.now c.in_ok-kept.kept c.in_ok-kept.ensures.kept c.in-Ok.last last);
      irredundant = subst IsIrredundant (sym c.deref-7.ensures.value) (unequal_irredundant (numbers_of c.args.keep.now) c.args.told.now c.in_ok-kept.kept c.in_ok-kept.ensures.kept c.in-Ok.last last);
    }

pub returns-in_err-disequations-clause-overflow : goal.returns-in_err-disequations-clause-overflow
returns-in_err-disequations-clause-overflow c = λ pair e.
    let given = c.in-Ok.ensures.rows (numbers_of c.args.keep.now) (numbers_of c.in_ok-kept.kept.variables.items) c.args.told.now (left_lent (numbers_of c.args.keep.now) c.args.told.now c.in_ok-kept.kept c.in_ok-kept.ensures.kept c.deref.result.now c.deref-2.result.now c.deref-3.result.now c.deref.ensures.value c.deref-2.ensures.value c.deref-3.ensures.value) in
    let last = last_given (numbers_of c.args.keep.now) c.args.told.now c.in_ok-kept.kept c.in_ok-kept.ensures.kept c.deref.result.now c.deref-2.result.now c.deref-3.result.now c.deref.ensures.value c.deref-2.ensures.value c.deref-3.ensures.value (numbers_of c.args.keep.now ++ numbers_of c.in_ok-kept.kept.variables.items) c.in-Ok.last given in
    unequal_due (numbers_of c.args.keep.now) c.args.told.now c.in_ok-kept.kept c.in_ok-kept.ensures.kept c.in-Ok.last last pair
    (λ m rows. c.in_err-disequations.ensures.overflow pair m (subst (AreRowsOf m) (sym c.deref-7.ensures.value) rows)
    (ap Err (refused c.from_residual-in_err-disequations.result c.in_err-disequations.field-0.0 pair c.from_residual-in_err-disequations.ensures.1 e)))

pub returns-in_err-disequations-clause-pivots : goal.returns-in_err-disequations-clause-pivots
returns-in_err-disequations-clause-pivots c = λ n e.
    absurd (never_spent c.from_residual-in_err-disequations.result c.in_err-disequations.field-0.0 n c.from_residual-in_err-disequations.ensures.1 e)

pub returns-in_err-disequations-clause-limit : goal.returns-in_err-disequations-clause-limit
returns-in_err-disequations-clause-limit c =
    no_rows_refused c.from_residual-in_err-disequations.result c.in_err-disequations.field-0.0 (IsProjectionDue (numbers_of c.args.keep.now) c.args.told.now c.args.limit)
    c.from_residual-in_err-disequations.ensures.1

pub returns-clause-rows : goal.returns-clause-rows
returns-clause-rows c =
    let given = c.in-Ok.ensures.rows (numbers_of c.args.keep.now) (numbers_of c.in_ok-kept.kept.variables.items) c.args.told.now (left_lent (numbers_of c.args.keep.now) c.args.told.now c.in_ok-kept.kept c.in_ok-kept.ensures.kept c.deref.result.now c.deref-2.result.now c.deref-3.result.now c.deref.ensures.value c.deref-2.ensures.value c.deref-3.ensures.value) in
    let last = last_given (numbers_of c.args.keep.now) c.args.told.now c.in_ok-kept.kept c.in_ok-kept.ensures.kept c.deref.result.now c.deref-2.result.now c.deref-3.result.now c.deref.ensures.value c.deref-2.ensures.value c.deref-3.ensures.value (numbers_of c.args.keep.now ++ numbers_of c.in_ok-kept.kept.variables.items) c.in-Ok.last given in
    let first_order = order_is c.args.keep.now c.deref-4.result.now c.in_ok-kept.kept c.deref-6.result.now (c.deref-6.ensures.value ∙ c.in_ok-order.ensures) c.deref-4.ensures.value in
    let second_order = order_is c.args.keep.now c.deref-4.result.now c.in_ok-kept.kept c.deref-8.result.now (c.deref-8.ensures.value ∙ c.in_ok-order.ensures) c.deref-4.ensures.value in
    let printed : AreInequalityRows (numbers_of c.args.keep.now ++ numbers_of c.in_ok-kept.kept.variables.items) c.in-Ok.last.inequalities.items (map inequality_of (lines_of c.in_ok-inequalities.inequalities.items)) =
    subst (λ xs. AreInequalityRows xs c.in-Ok.last.inequalities.items (map inequality_of (lines_of c.in_ok-inequalities.inequalities.items))) first_order
    (subst (λ rows. AreInequalityRows (numbers_of c.deref-6.result.now) rows (map inequality_of (lines_of c.in_ok-inequalities.inequalities.items))) c.deref-5.ensures.value
    (c.in_ok-inequalities.ensures.inequalities (subst AreInequalities (sym c.deref-5.ensures.value) (ordered (numbers_of c.args.keep.now) c.args.told.now c.in_ok-kept.kept c.in_ok-kept.ensures.kept c.in-Ok.last last)))) in
    let others : AreDisequationRows (numbers_of c.args.keep.now ++ numbers_of c.in_ok-kept.kept.variables.items) c.in-Ok.last.disequations.items (map disequation_of (lines_of c.in_ok-disequations.disequations.items)) =
    subst (λ xs. AreDisequationRows xs c.in-Ok.last.disequations.items (map disequation_of (lines_of c.in_ok-disequations.disequations.items))) second_order
    (subst (λ rows. AreDisequationRows (numbers_of c.deref-8.result.now) rows (map disequation_of (lines_of c.in_ok-disequations.disequations.items))) c.deref-7.ensures.value
    (c.in_ok-disequations.ensures.disequations (subst AreDisequations (sym c.deref-7.ensures.value) (unequal (numbers_of c.args.keep.now) c.args.told.now c.in_ok-kept.kept c.in_ok-kept.ensures.kept c.in-Ok.last last)))) in
    let is = c.in_ok-kept.ensures.kept in
    record {
      front = is.leaves.front;
      others = is.leaves.others;
      older_first = is.older_first;
      keeps = kept_so (numbers_of c.args.keep.now) c.args.told.now c.in_ok-kept.kept is;
      form = answer_rows (numbers_of c.args.keep.now) c.args.told.now c.in_ok-kept.kept c.in_ok-kept.ensures.kept c.in-Ok.last last (map inequality_of (lines_of c.in_ok-inequalities.inequalities.items)) (map disequation_of (lines_of c.in_ok-disequations.disequations.items))
          printed others c.requires.solvable;
    }
