-- A member that can't hold, since its form is zero at each solution.
use Rattle.std.specs.Prelude.{◌≡◌, ◌⊎◌, ℕ, List, Some, slice_get}
use Rattle.spec_numbers.specs.Rational.{ℚ, 0ℚ}
use Rattle.spec_linear.specs.declared.Relation.TheVariants.{Gt, Ne}
use Rattle.spec_linear.specs.Form.{value_at}
use Rattle.spec_linear.specs.Solution.{Constraint, Satisfies}
use Rattle.spec_linear.specs.Certificate.{member}
use Rattle.spec_linear.specs.Weak.{weak}
use Rattle.cq_tableau.specs.declared.names.Name.{Name}
use Rattle.cq_tableau.specs.declared.names.Name.TheVariants.{Member}

-- the quantity is that of a strict inequality or a disequation of the told list, whose form is zero at the weak solutions of l
pub record FallsAt (told l : List Constraint) (names : List Name) (q : ℕ) : Type 0 where
  pub number : ℕ
  pub named : slice_get names q ≡ Some (Member number)
  pub constraint : Constraint
  pub told_at : member told number ≡ Some constraint
  pub relation_is : (constraint.relation ≡ Gt) ⊎ (constraint.relation ≡ Ne)
  pub flat : (v : ℕ → ℚ) → Satisfies v (weak l) → value_at v constraint.form ≡ 0ℚ
