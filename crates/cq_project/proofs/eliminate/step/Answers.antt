use Rattle.std.proofs.Common.{◌≡◌, [], ◌++◌, Err, ap, sym, subst, ◌∙◌}
use Rattle.spec_linear.specs.Solution.{Solvable}
use Rattle.spec_projection.specs.Elimination.{lower_rows, upper_rows, other_rows, combinations, eliminated}
use Rattle.spec_projection.specs.Irredundant.{IsIrredundantSublist}
use Rattle.spec_projection.specs.Partial.{AreInequalities}
use Rattle.spec_projection.proofs.Eliminating.{AreInequalities-eliminated}
use Rattle.cq_elimination.specs.Steps.{AreRowsOf}
use Rattle.cq_project.specs.Sifting.{RefusesSifting, SpendsSifting}
use Rattle.cq_project.specs.Eliminating.{IsLeftBeside, while_combining, while_sifting, IsLimitPassed}
use Rattle.cq_project.proofs.Exits.{refused, never_spent, told_pair, told_number, one_fault, no_rows_refused}
use Rattle.cq_project.proofs.Fresh.{old_rows, new_rows, both_parts, old_inequalities, new_inequalities, left_together}
use Rattle.cq_project.proofs.Steps.{solvable_without}
use Rattle.cq_project.proofs.EliminateStops.{whole_refuses, whole_spends}
use Rattle.cq_project.proofs.eliminate.step.Goals as goal

pub returns-in_err-fewer-clause-overflow : goal.returns-in_err-fewer-clause-overflow
returns-in_err-fewer-clause-overflow c = λ pair e.
    while_combining (λ m rows. c.in_err-fewer.ensures.overflow pair m (subst (AreRowsOf m) (sym c.deref.ensures.value) rows) (ap Err (refused c.from_residual.result c.in_err-fewer.field-0.0 pair c.from_residual.ensures.1 e)))

pub returns-in_err-fewer-clause-pivots : goal.returns-in_err-fewer-clause-pivots
returns-in_err-fewer-clause-pivots c = λ n e. absurd (never_spent c.from_residual.result c.in_err-fewer.field-0.0 n c.from_residual.ensures.1 e)

pub returns-in_err-fewer-clause-limit : goal.returns-in_err-fewer-clause-limit
returns-in_err-fewer-clause-limit c =
    no_rows_refused c.from_residual.result c.in_err-fewer.field-0.0 (IsLimitPassed c.args.next.variable.0 c.args.rows.items c.args.limit) c.from_residual.ensures.1

pub left_beside-requires-clause-solvable : goal.left_beside-requires-clause-solvable
left_beside-requires-clause-solvable c =
    let x = c.args.next.variable.0 in
    let rows = c.args.rows.items in
    let fewer : c.in_ok-fewer.fewer.items ≡ eliminated x rows = c.in_ok-fewer.ensures.value ∙ ap (eliminated x) c.deref.ensures.value in
    let old : c.split_off.new.self.items ≡ other_rows x rows =
    old_rows x rows c.in_ok-fewer.fewer.items c.args.next.others fewer c.requires.counts.others_are c.split_off.new.self.items c.in_ok-new.ensures.items in
    let new : c.in_ok-new.new.items ≡ combinations x (lower_rows x rows) (upper_rows x rows) =
    new_rows x rows c.in_ok-fewer.fewer.items c.args.next.others fewer c.requires.counts.others_are c.in_ok-new.new.items c.in_ok-new.ensures.tail in
    subst (λ l. Solvable (l ++ c.in_ok-new.new.items)) (sym c.deref-2.ensures.value)
    (subst Solvable (sym (both_parts x rows c.split_off.new.self.items c.in_ok-new.new.items old new))
    (solvable_without x rows c.requires.inequalities c.requires.solvable))

pub left_beside-requires-clause-inequalities : goal.left_beside-requires-clause-inequalities
left_beside-requires-clause-inequalities c =
    let x = c.args.next.variable.0 in
    let rows = c.args.rows.items in
    let fewer : c.in_ok-fewer.fewer.items ≡ eliminated x rows = c.in_ok-fewer.ensures.value ∙ ap (eliminated x) c.deref.ensures.value in
    let old : c.split_off.new.self.items ≡ other_rows x rows =
    old_rows x rows c.in_ok-fewer.fewer.items c.args.next.others fewer c.requires.counts.others_are c.split_off.new.self.items c.in_ok-new.ensures.items in
    let new : c.in_ok-new.new.items ≡ combinations x (lower_rows x rows) (upper_rows x rows) =
    new_rows x rows c.in_ok-fewer.fewer.items c.args.next.others fewer c.requires.counts.others_are c.in_ok-new.new.items c.in_ok-new.ensures.tail in
    new_inequalities x rows c.split_off.new.self.items c.in_ok-new.new.items old new (AreInequalities-eliminated x rows c.requires.inequalities)

pub left_beside-requires-clause-inequalities_beside : goal.left_beside-requires-clause-inequalities_beside
left_beside-requires-clause-inequalities_beside c =
    let x = c.args.next.variable.0 in
    let rows = c.args.rows.items in
    let fewer : c.in_ok-fewer.fewer.items ≡ eliminated x rows = c.in_ok-fewer.ensures.value ∙ ap (eliminated x) c.deref.ensures.value in
    let old : c.split_off.new.self.items ≡ other_rows x rows =
    old_rows x rows c.in_ok-fewer.fewer.items c.args.next.others fewer c.requires.counts.others_are c.split_off.new.self.items c.in_ok-new.ensures.items in
    let new : c.in_ok-new.new.items ≡ combinations x (lower_rows x rows) (upper_rows x rows) =
    new_rows x rows c.in_ok-fewer.fewer.items c.args.next.others fewer c.requires.counts.others_are c.in_ok-new.new.items c.in_ok-new.ensures.tail in
    subst AreInequalities (sym c.deref-2.ensures.value)
    (old_inequalities x rows c.split_off.new.self.items c.in_ok-new.new.items old new (AreInequalities-eliminated x rows c.requires.inequalities))

pub returns-in-Err-clause-overflow : goal.returns-in-Err-clause-overflow
returns-in-Err-clause-overflow c = λ pair e.
    let x = c.args.next.variable.0 in
    let rows = c.args.rows.items in
    let fewer : c.in_ok-fewer.fewer.items ≡ eliminated x rows = c.in_ok-fewer.ensures.value ∙ ap (eliminated x) c.deref.ensures.value in
    let old : c.split_off.new.self.items ≡ other_rows x rows =
    old_rows x rows c.in_ok-fewer.fewer.items c.args.next.others fewer c.requires.counts.others_are c.split_off.new.self.items c.in_ok-new.ensures.items in
    let new : c.in_ok-new.new.items ≡ combinations x (lower_rows x rows) (upper_rows x rows) =
    new_rows x rows c.in_ok-fewer.fewer.items c.args.next.others fewer c.requires.counts.others_are c.in_ok-new.new.items c.in_ok-new.ensures.tail in
    let told = told_pair c.in-Err.fault pair (sym c.from-in-Err.ensures ∙ one_fault c.from-in-Err.result _ e) in
    while_sifting (subst (λ l. RefusesSifting [] l pair)
    (ap (λ l. l ++ c.in_ok-new.new.items) c.deref-2.ensures.value ∙ both_parts x rows c.split_off.new.self.items c.in_ok-new.new.items old new)
    (whole_refuses c.deref-2.result.now c.in_ok-new.new.items pair (c.in-Err.ensures.overflow pair (ap Err told))))

pub returns-in-Err-clause-pivots : goal.returns-in-Err-clause-pivots
returns-in-Err-clause-pivots c = λ n e.
    let x = c.args.next.variable.0 in
    let rows = c.args.rows.items in
    let fewer : c.in_ok-fewer.fewer.items ≡ eliminated x rows = c.in_ok-fewer.ensures.value ∙ ap (eliminated x) c.deref.ensures.value in
    let old : c.split_off.new.self.items ≡ other_rows x rows =
    old_rows x rows c.in_ok-fewer.fewer.items c.args.next.others fewer c.requires.counts.others_are c.split_off.new.self.items c.in_ok-new.ensures.items in
    let new : c.in_ok-new.new.items ≡ combinations x (lower_rows x rows) (upper_rows x rows) =
    new_rows x rows c.in_ok-fewer.fewer.items c.args.next.others fewer c.requires.counts.others_are c.in_ok-new.new.items c.in_ok-new.ensures.tail in
    let told = told_number c.in-Err.fault n (sym c.from-in-Err.ensures ∙ one_fault c.from-in-Err.result _ e) in
    let spent = c.in-Err.ensures.pivots n (ap Err told) in (
      spent.0,
      subst (λ l. SpendsSifting [] l n)
          (ap (λ l. l ++ c.in_ok-new.new.items) c.deref-2.ensures.value ∙ both_parts x rows c.split_off.new.self.items c.in_ok-new.new.items old new)
          (whole_spends c.deref-2.result.now c.in_ok-new.new.items n spent.1),
    )

pub returns-clause-sublist : goal.returns-clause-sublist
returns-clause-sublist c =
    let x = c.args.next.variable.0 in
    let rows = c.args.rows.items in
    let fewer : c.in_ok-fewer.fewer.items ≡ eliminated x rows = c.in_ok-fewer.ensures.value ∙ ap (eliminated x) c.deref.ensures.value in
    let old : c.split_off.new.self.items ≡ other_rows x rows =
    old_rows x rows c.in_ok-fewer.fewer.items c.args.next.others fewer c.requires.counts.others_are c.split_off.new.self.items c.in_ok-new.ensures.items in
    let new : c.in_ok-new.new.items ≡ combinations x (lower_rows x rows) (upper_rows x rows) =
    new_rows x rows c.in_ok-fewer.fewer.items c.args.next.others fewer c.requires.counts.others_are c.in_ok-new.new.items c.in_ok-new.ensures.tail in
    subst (λ l. IsIrredundantSublist l (eliminated x rows)) (sym c.in_ok-append.ensures)
    (left_together x rows c.split_off.new.self.items c.in_ok-new.new.items old new c.requires.inequalities c.requires.irredundant c.in-Ok.left.items
    (subst (λ k. IsLeftBeside k c.in_ok-new.new.items c.in-Ok.left.items) c.deref-2.ensures.value c.in-Ok.ensures.left))
