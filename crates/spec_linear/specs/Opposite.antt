-- The constraint that holds just where another does not.
use Rattle.spec_linear.specs.declared.Relation.{Relation}
use Rattle.spec_linear.specs.declared.Relation.TheVariants.{Eq, Gt, Ge, Ne}
use Rattle.spec_linear.specs.Form.{Linear, negated_form}
use Rattle.spec_linear.specs.Solution.{Constraint, equal_zero}
use Rattle.spec_linear.specs.Weak.{above_zero, at_least_zero, not_zero}

-- that of the constraint of this relation and form
abbrev pub opposite_of : Relation → Linear → Constraint
opposite_of Eq f = not_zero f
opposite_of Gt f = at_least_zero (negated_form f)
opposite_of Ge f = above_zero (negated_form f)
opposite_of Ne f = equal_zero f

-- what holds just where the constraint does not; of an equation this is a disequation
abbrev pub opposite : Constraint → Constraint
opposite c = opposite_of c.relation c.form
