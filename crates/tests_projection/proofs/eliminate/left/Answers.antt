use Rattle.std.proofs.Common.{refl, sym, subst, ◌∙◌}
use Rattle.spec_linear.specs.Solution.{Solvable}
use Rattle.spec_projection.specs.Partial.{AreInequalities}
use Rattle.tests_projection.proofs.eliminate.left.Goals as goal

pub eliminate-requires-clause-solvable : goal.eliminate-requires-clause-solvable
eliminate-requires-clause-solvable c = subst Solvable (sym c.deref-2.ensures.value) (rw c.in-Ok-Some.field-0-is at c.in-Ok-Some.ensures)

pub eliminate-requires-clause-inequalities : goal.eliminate-requires-clause-inequalities
eliminate-requires-clause-inequalities c = subst AreInequalities (c.deref.ensures.value ∙ sym c.deref-2.ensures.value) (c.if-not-are_inequalities.ensures refl)
