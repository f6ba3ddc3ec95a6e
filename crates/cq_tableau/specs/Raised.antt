-- What became of a quantity that is to be at least zero.
use Rattle.std.specs.Prelude.{◌≡◌, ℕ, List, Bool, true, false, slice_set}
use Rattle.spec_numbers.specs.Rational.{ℚ, 0ℚ, ◌≤ℚ◌}
use Rattle.cq_dict.specs.declared.table.Role.{Role}
use Rattle.cq_dict.specs.Roles.{IsRow, PivotPair, is_live, is_restricted, factor_at}
use Rattle.cq_frac.specs.declared.Pair.{Pair}
use Rattle.cq_frac.specs.Refused.{IsRefused}
use Rattle.cq_frac.specs.declared.row.Entry.{Entry}
use Rattle.cq_simplex.specs.declared.Aim.TheVariants.{Positive}
use Rattle.cq_simplex.specs.Answers.{IsMaximum, AreMultipliers, AreSpent}
use Rattle.cq_tableau.specs.declared.raising.Raised.{Raised}
use Rattle.cq_tableau.specs.declared.raising.Raised.TheVariants.{Rises, Best}
use Rattle.cq_tableau.specs.Keeps.{Joins, StillKeeps, SameDropped}

-- no column of the row is unrestricted
abbrev pub HasNoFreeColumn : List Role → List Bool → ℕ → Type 0
HasNoFreeColumn roles flags q = (c : ℕ) → is_live roles c ≡ true → is_restricted flags c ≡ false → factor_at roles q c ≡ 0ℚ

-- this is its greatest value, which is not above zero, with the columns that hold it down
pub record IsBest (q : ℕ) (old : List Role) (flags : List Bool) (new : List Role) (new_flags : List Bool) (v : ℚ) (multipliers : List Entry) : Type 0 where
  pub same_flags : new_flags ≡ flags
  pub keeps : StillKeeps old new flags
  pub dropped : SameDropped old new
  pub row : IsRow new q
  pub maximum : IsMaximum old flags q new v
  pub entries : AreMultipliers old flags q new v multipliers
  pub short : v ≤ℚ 0ℚ

-- it is above zero somewhere and restricted now, or it has a greatest value
abbrev pub IsRaised : ℕ → List Role → List Bool → List Role → List Bool → Raised → Type 0
IsRaised q old flags new new_flags Rises = (new_flags ≡ slice_set flags q true) × Joins q old flags new new_flags
IsRaised q old flags new new_flags (Best v multipliers) = IsBest q old flags new new_flags v multipliers.items

-- an operation of an exchange refuses the pair, in roles that say what the old ones say, and where the quantity is a row
pub record RefusesRaise (q : ℕ) (old : List Role) (flags : List Bool) (pair : Pair) : Type 0 where
  pub roles : List Role
  pub keeps : StillKeeps old roles flags
  pub is_row : IsRow roles q
  pub row : ℕ
  pub column : ℕ
  pub made : PivotPair roles row column pair.operation pair.left pair.right
  pub refused : IsRefused pair

-- so many exchanges are made for the row in such roles, and another is due
pub record SpendsRaise (q : ℕ) (old : List Role) (flags : List Bool) (n : ℕ) : Type 0 where
  pub roles : List Role
  pub keeps : StillKeeps old roles flags
  pub is_row : IsRow roles q
  pub last : List Role
  pub spent : AreSpent roles flags q Positive n last
