-- Slots of variables: entries in ascending order, of which a factor may be zero.
use Rattle.std.specs.Prelude.{◌≢◌, ℕ, suc, ◌≤◌, List, [], ◌∷◌, ⊤}
use Rattle.spec_numbers.specs.Rational.{ℚ, 0ℚ}
use Rattle.spec_numbers.specs.Sums.{unit}
use Rattle.cq_frac.specs.declared.Pair.{Pair}
use Rattle.cq_frac.specs.Refused.{Tells}
use Rattle.cq_frac.specs.declared.row.Entry.{Entry}
use Rattle.cq_frac.specs.declared.row.Joining.{Joining}
use Rattle.cq_frac.specs.Rows.{sum_at, operation_of}

-- each quantity is at least low and above the one before it
abbrev pub IsRisingFrom : ℕ → List Entry → Type 0
IsRisingFrom low [] = ⊤
IsRisingFrom low (m ∷ s) = (low ≤ m.quantity) × IsRisingFrom (suc m.quantity) s

-- the pair is one of a number that is not zero and of another
abbrev pub Meets : Joining → ℚ → ℚ → Pair → Type 0
Meets how own q pair = (own ≢ 0ℚ) × Tells (operation_of how) own q pair

-- the pair is one of what a variable has in two lists
pub record IsMet (how : Joining) (s t : List Entry) (pair : Pair) : Type 0 where
  pub x : ℕ
  pub meets : Meets how (sum_at (unit x) s) (sum_at (unit x) t) pair
