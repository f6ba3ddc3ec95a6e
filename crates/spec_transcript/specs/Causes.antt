-- What a query may spend, and why one stops before its search ends.
use Rattle.std.specs.Prelude.{ℕ, List, codes}
use Rattle.cq_frac.specs.declared.Pair.{Pair}
use Rattle.spec_numbers.specs.Texts.{Text}
use Rattle.spec_linear.specs.Solution.{Constraint}

-- selected goals, exchanges of one maximisation, answers, and rows that eliminating a variable leaves
pub record Budgets : Type 0 where
  pub steps : ℕ
  pub pivots : ℕ
  pub answers : ℕ
  pub rows : ℕ

-- what is kept of a stop: how many goals or exchanges; the pair; the lower, the upper and the other rows, and the rows
pub data Cause : Type 0 where
  Resolutions : ℕ → Cause
  Pivots : ℕ → Cause
  Overflow : Pair → Cause
  Projection : ℕ → ℕ → ℕ → List Constraint → Cause

-- the line of a stop
abbrev pub stop_text : Cause → Text
stop_text (Resolutions n) = codes "stop: resolutions\n"
stop_text (Pivots n) = codes "stop: pivots\n"
stop_text (Overflow pair) = codes "stop: overflow\n"
stop_text (Projection p n rest rows) = codes "stop: projection\n"
