-- How far an expression reaches on the solutions of a list.
use Rattle.std.specs.Prelude.{◌≡◌, ℕ, List, Option}
use Rattle.spec_numbers.specs.Rational.{ℚ}
use Rattle.spec_linear.specs.Form.{Linear}
use Rattle.spec_linear.specs.Solution.{Constraint}
use Rattle.spec_syntax.specs.Trees.{Tree}
use Rattle.spec_branch.specs.Relations.{Is, Waits, False, lin_expression}
use Rattle.spec_search.specs.Builtins as search
use Rattle.spec_search.specs.Steps.{IsExtent, HasNoExtent}
use Rattle.cq_store.specs.declared.store.Extent.{Extent}
use Rattle.cq_store.specs.declared.store.Extent.TheVariants.{Value, Unbounded}
use Rattle.cq_questions.specs.declared.extents.Side.{Side}
use Rattle.cq_questions.specs.declared.extents.Side.TheVariants as side
use Rattle.cq_questions.specs.declared.extents.Reach.{Reach}
use Rattle.cq_questions.specs.declared.extents.Reach.TheVariants as reach

-- the side that the definitions speak of
abbrev pub side_of : Side → search.Side
side_of side.Least = search.Least
side_of side.Greatest = search.Greatest

-- the form's value at the side, or that there is none
abbrev pub IsExtentAt : search.Side → List Constraint → Linear → Extent → Type 0
IsExtentAt s l form (Value q) = IsExtent s l form q
IsExtentAt s l form Unbounded = HasNoExtent s l form

-- the expression has a form, and this is the form's extent
pub record Reaches (s : search.Side) (l : List Constraint) (fixed : ℕ → Option ℚ) (e : Tree) (extent : Extent) : Type 0 where
  pub form : Linear
  pub is : lin_expression fixed e ≡ Is form
  pub reaches : IsExtentAt s l form extent

-- what is answered holds of the expression
abbrev pub IsReach : search.Side → List Constraint → (ℕ → Option ℚ) → Tree → Reach → Type 0
IsReach s l fixed e (reach.Linear extent) = Reaches s l fixed e extent
IsReach s l fixed e reach.Waits = lin_expression fixed e ≡ Waits
IsReach s l fixed e reach.False = lin_expression fixed e ≡ False
