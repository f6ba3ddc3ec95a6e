-- Stops while variables are eliminated one after the other.
use Rattle.std.specs.Prelude.{◌≡◌, ℕ, ◌+◌, ◌*◌, ◌<◌, List, [], ◌++◌, length}
use Rattle.spec_linear.specs.Solution.{Constraint, Equivalent, MentionsOnly}
use Rattle.spec_projection.specs.Elimination.{lower_rows, upper_rows, other_rows, eliminated}
use Rattle.spec_projection.specs.Irredundant.{IsSublist, NoneFollows}
use Rattle.spec_projection.specs.Partial.{IsPartial, IsPartialProjection, RowsDue}
use Rattle.spec_simplex.specs.Overflow.{Moment, OverflowDue}
use Rattle.cq_frac.specs.declared.Pair.{Pair}
use Rattle.cq_elimination.specs.Next.{AreApart}
use Rattle.cq_elimination.specs.Steps.{AreRowsOf}
use Rattle.cq_project.specs.Sifting.{RefusesSifting, SpendsSifting}

-- the rows are of the others and of targets, and none of the others is a target
pub record AreOver (targets others : List ℕ) (l : List Constraint) : Type 0 where
  pub apart : AreApart others targets
  pub all : MentionsOnly (others ++ targets) l

-- ---- one variable

-- some of the new rows, which say beside the others what all of them say there, and of which none follows
pub record IsLeftBeside (beside new left : List Constraint) : Type 0 where
  pub sublist : IsSublist left new
  pub same : Equivalent (left ++ beside) (new ++ beside)
  pub none : NoneFollows left beside

-- the pair is refused while x is eliminated from the rows, or while redundant ones of those that are left are dropped
pub data RefusesStep (x : ℕ) (m : List Constraint) (pair : Pair) : Type 0 where
  while_combining : ((moment : Moment) → AreRowsOf moment m → OverflowDue moment pair) → RefusesStep x m pair
  while_sifting : RefusesSifting [] (eliminated x m) pair → RefusesStep x m pair

-- so many exchanges are made while redundant ones are dropped, and another is due
abbrev pub SpendsStep : ℕ → List Constraint → ℕ → Type 0
SpendsStep x m n = SpendsSifting [] (eliminated x m) n

-- of these rows p bound x from below, n from above, and the rest are without it; eliminating it leaves more than the limit
pub record IsLimitPassed (x : ℕ) (m : List Constraint) (limit p n rest : ℕ) (rows : List Constraint) : Type 0 where
  pub rows_are : rows ≡ m
  pub lower : length (lower_rows x m) ≡ p
  pub upper : length (upper_rows x m) ≡ n
  pub others : length (other_rows x m) ≡ rest
  pub more : limit < rest + p * n

-- ---- one after the other

-- the pair is refused while redundant rows of a partial projection are dropped, or the next variable is eliminated
pub data RefusesEliminating (targets : List ℕ) (start : List Constraint) (pair : Pair) : Type 0 where
  while_sifting : (m : List Constraint) → IsPartialProjection targets start m → RefusesSifting [] m pair → RefusesEliminating targets start pair
  while_combining : (m : List Constraint) → IsPartial targets start m → ((moment : Moment) → AreRowsOf moment m → OverflowDue moment pair)
      → RefusesEliminating targets start pair

-- so many exchanges are made while redundant rows of a partial projection are dropped, and another is due
pub record SpendsEliminating (targets : List ℕ) (start : List Constraint) (n : ℕ) : Type 0 where
  pub rows : List Constraint
  pub partial : IsPartialProjection targets start rows
  pub spends : SpendsSifting [] rows n

-- these are the rows of a partial projection, and eliminating its next variable leaves more than the limit
pub record IsRowsDue (targets : List ℕ) (start : List Constraint) (limit p n rest : ℕ) (rows : List Constraint) : Type 0 where
  pub due : RowsDue targets start limit p n rest
  pub rows_are : due.rows ≡ rows
