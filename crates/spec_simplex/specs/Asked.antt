-- What may be asked of a list of constraints, and what stands in the list meanwhile.
-- No law takes these relations apart: only code introduces them, so that they can grow by constructors.
use Rattle.std.specs.Prelude.{◌≡◌, ◌⊎◌, ℕ, List, [], ◌∷◌, ◌++◌}
use Rattle.spec_linear.specs.declared.Relation.TheVariants.{Eq, Ne}
use Rattle.spec_linear.specs.Form.{Linear, variable_form, negated_form}
use Rattle.spec_linear.specs.Solution.{Constraint, Has}
use Rattle.spec_linear.specs.Weak.{at_least_zero}
use Rattle.spec_linear.specs.Opposite.{opposite}

-- the form, or its negative
abbrev pub IsEither : Linear → Linear → Type 0
IsEither f g = (g ≡ f) ⊎ (g ≡ negated_form f)

-- the forms that are asked: those of a list's members, of constraints that join it or are asked about, of
-- variables, and their negatives
pub data IsAsked (l : List Constraint) (Joins Questions : Constraint → Type 0) : Linear → Type 0 where
  of_member : (c : Constraint) → Has c l → IsAsked l Joins Questions c.form
  of_joining : (c : Constraint) → Joins c → IsAsked l Joins Questions c.form
  of_question : (c : Constraint) → Questions c → IsAsked l Joins Questions c.form
  of_variable : (x : ℕ) → IsAsked l Joins Questions (variable_form x)
  negated : (f : Linear) → IsAsked l Joins Questions f → IsAsked l Joins Questions (negated_form f)

-- the list in force: it alone, or for a while with one more member
pub data IsInForce (l : List Constraint) (Joins Questions : Constraint → Type 0) : List Constraint → Type 0 where
  alone : IsInForce l Joins Questions l
  -- while an equation joins: its form or its negative is not below zero
  while_joining : (f g : Linear) → Joins (record { relation = Eq; form = f }) → IsEither f g
      → IsInForce l Joins Questions (l ++ at_least_zero g ∷ [])
  -- while it is asked whether the list entails a constraint: the opposite
  while_asked : (c : Constraint) → Questions c → IsInForce l Joins Questions (l ++ opposite c ∷ [])
  -- and where that is an equation, what stands there while an equation joins
  while_asked_unequal : (f g : Linear) → Questions (record { relation = Ne; form = f }) → IsEither f g
      → IsInForce l Joins Questions (l ++ at_least_zero g ∷ [])

-- nothing is asked
abbrev pub NoQuestion : Constraint → Type 0
NoQuestion c = ⊥
