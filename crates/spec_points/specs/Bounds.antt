-- How far a variable may go on the solutions of a list, and the values that are tried for it, one after another.
use Rattle.std.specs.Prelude.{ℕ, suc, pos, List}
use Rattle.spec_numbers.specs.Rational.{ℚ, int_ℚ, ◌+ℚ◌, ◌-ℚ◌, ◌/ℚ◌}
use Rattle.spec_linear.specs.Form.{variable_form, negated_form}
use Rattle.spec_linear.specs.Solution.{Constraint}
use Rattle.spec_linear.specs.Extremes.{IsSupremum, IsInfimum, IsUnbounded}

-- between two numbers, above one, below one, or anywhere
pub data Bounds : Type 0 where
  Between : ℚ → ℚ → Bounds
  OnlyAbove : ℚ → Bounds
  OnlyBelow : ℚ → Bounds
  Anywhere : Bounds

-- the infimum and the supremum of the variable on the solutions of the list, where it has them
pub data HasBounds (l : List Constraint) (x : ℕ) : Bounds → Type 0 where
  between : {a b : ℚ} → IsInfimum l (variable_form x) a → IsSupremum l (variable_form x) b
      → HasBounds l x (Between a b)
  only_above : {a : ℚ} → IsInfimum l (variable_form x) a → IsUnbounded l (variable_form x)
      → HasBounds l x (OnlyAbove a)
  only_below : {b : ℚ} → IsUnbounded l (negated_form (variable_form x)) → IsSupremum l (variable_form x) b
      → HasBounds l x (OnlyBelow b)
  anywhere : IsUnbounded l (negated_form (variable_form x)) → IsUnbounded l (variable_form x)
      → HasBounds l x Anywhere

-- a natural number as a rational
abbrev pub whole : ℕ → ℚ
whole n = int_ℚ (pos n)

-- The values that are tried, the k-th counted from 0. Between two bounds it is the middle, then a third of the way from
-- the lower bound, then a quarter; with one bound it is 1 away from it, then 2, then 3; with none it is 0, then 1, then 2.
abbrev pub tried : Bounds → ℕ → ℚ
tried (Between a b) k = a +ℚ (b -ℚ a) /ℚ whole (suc (suc k))
tried (OnlyAbove a) k = a +ℚ whole (suc k)
tried (OnlyBelow b) k = b -ℚ whole (suc k)
tried Anywhere k = whole k
