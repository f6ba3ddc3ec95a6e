-- The moments of a goal that asks the linear constraints. No law takes these relations apart: only code introduces
-- them.
use Rattle.std.specs.Prelude.{◌≡◌, ◌⊎◌, ℕ, List, [], flat_map, Option}
use Rattle.std.specs.List.{AllByRecursion}
use Rattle.spec_numbers.specs.Rational.{ℚ}
use Rattle.spec_linear.specs.Form.{Linear, negated_form}
use Rattle.spec_linear.specs.Solution.{Constraint, Fixes, Has}
use Rattle.spec_linear.specs.Weak.{at_least_zero}
use Rattle.spec_simplex.specs.Overflow.{Moment, Operands, settling}
use Rattle.spec_simplex.specs.Asked.{IsAsked, IsInForce}
use Rattle.spec_syntax.specs.Trees.{Tree}
use Rattle.spec_branch.specs.Relations.{Is, lin, lin_expression}
use Rattle.spec_branch.specs.Branch.{State, Branch}
use Rattle.spec_search.specs.Builtins.{Side}
use Rattle.spec_search.specs.Replies.{Reply, IfEntailed, WithExtent}
use Rattle.spec_transcript.specs.Operands.{relation_operands, expression_operands}

-- a question joins nothing
abbrev pub JoinsNothing : Constraint → Type 0
JoinsNothing c = ⊥

-- the constraints of which the goal asks whether they are entailed
pub data AsksAbout (fixed : ℕ → Option ℚ) : Reply → Constraint → Type 0 where
  member : {ms : List Tree} {b : Branch} {c : Constraint} (m : Tree) → Has m ms → lin fixed m ≡ Is c
      → AsksAbout fixed (IfEntailed ms b) c
  -- how far an expression reaches is looked for as if it were asked whether the expression is not below zero
  reaches : {side : Side} {e : Tree} {f : ℚ → Branch} {g : Linear} → lin_expression fixed e ≡ Is g
      → AsksAbout fixed (WithExtent side e f) (at_least_zero g)

-- the form of the expression that the goal asks the extent of, and its negative
pub data AsksExtent (fixed : ℕ → Option ℚ) : Reply → Linear → Type 0 where
  expression : {side : Side} {e : Tree} {f : ℚ → Branch} {g : Linear} → lin_expression fixed e ≡ Is g
      → AsksExtent fixed (WithExtent side e f) g
  negated : {side : Side} {e : Tree} {f : ℚ → Branch} {g : Linear} → lin_expression fixed e ≡ Is g
      → AsksExtent fixed (WithExtent side e f) (negated_form g)

-- the operations of the terms that are asked about
abbrev pub asked_operands : (ℕ → Option ℚ) → Reply → List Operands
asked_operands fixed (IfEntailed ms b) = flat_map (relation_operands fixed) ms
asked_operands fixed (WithExtent side e f) = expression_operands fixed e
asked_operands fixed r = []

-- a moment of a goal in this state that comes to this reply
pub record IsQuestionMoment (st : State) (r : Reply) (m : Moment) : Type 0 where
  pub stage : m.stage ≡ settling
  pub fixed : ℕ → Option ℚ
  pub fixes : Fixes st.linear fixed
  pub in_force : IsInForce st.linear JoinsNothing (AsksAbout fixed r) m.list
  pub asked : AllByRecursion (λ f. IsAsked m.list JoinsNothing (AsksAbout fixed r) f ⊎ AsksExtent fixed r f) m.asked
  pub operations : m.operations ≡ asked_operands fixed r
  -- no row of an answer is divided
  pub rows : m.rows ≡ []
