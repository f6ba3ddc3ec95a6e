-- What is found in one dictionary: an answer, or the exchange that is due.
use Rattle.std.specs.Prelude.{◌≡◌, ◌⊎◌, ℕ, ◌≤◌, List, Bool, true, false, Option, Some, None, MatchOption}
use Rattle.spec_numbers.specs.Rational.{ℚ, 0ℚ, IsPositive, ◌<ℚ◌}
use Rattle.spec_simplex.specs.Dictionary.{Dictionary}
use Rattle.spec_simplex.specs.Rule.{Raises, Enters, Limits, Leaves, IsDue, IsOptimal, IsUnlimited, IsFree, ratio}
use Rattle.cq_frac.specs.declared.Pair.{Pair}
use Rattle.cq_frac.specs.Refused.{IsRefused}
use Rattle.cq_frac.specs.Row.{Row}
use Rattle.cq_frac.specs.Rows.{negated}
use Rattle.cq_dict.specs.declared.table.Role.{Role}
use Rattle.cq_dict.specs.declared.table.Role.TheVariants.{Basic}
use Rattle.cq_dict.specs.Roles.{IsAt, PivotPair, is_restricted, constant_at, is_live, factor_at}
use Rattle.cq_simplex.specs.declared.Aim.{Aim}
use Rattle.cq_simplex.specs.declared.Aim.TheVariants as aim_of
use Rattle.cq_simplex.specs.declared.Max.{Max}
use Rattle.cq_simplex.specs.declared.Max.TheVariants as max_of
use Rattle.cq_simplex.specs.declared.turn.Turn.{Turn}
use Rattle.cq_simplex.specs.declared.turn.Turn.TheVariants.{Ends, Exchange}
use Rattle.cq_simplex.specs.declared.leaving.Limit.{Limit}
use Rattle.cq_simplex.specs.Dictionary.{dictionary}
use Rattle.cq_simplex.specs.Answers.{IsShort}

-- what an answer says of the dictionary in which it is found
abbrev pub IsFound : List Role → List Bool → ℕ → Aim → Max → Type 0
IsFound roles flags asked aim (max_of.At v multipliers) =
    IsOptimal (is_restricted flags) (dictionary roles asked) × (v ≡ constant_at roles asked)
    × ((own : Row) → IsAt roles asked (Basic own) → multipliers.items ≡ negated own.live) × IsShort aim v
IsFound roles flags asked aim max_of.Positive = (aim ≡ aim_of.Positive) × IsPositive (constant_at roles asked)
IsFound roles flags asked aim (max_of.Unbounded c) = IsUnlimited (is_restricted flags) (dictionary roles asked) c ⊎ IsFree (is_restricted flags) (dictionary roles asked) c

abbrev pub IsTurn : List Role → List Bool → ℕ → Aim → Turn → Type 0
IsTurn roles flags asked aim (Ends max) = IsFound roles flags asked aim max
IsTurn roles flags asked aim (Exchange row column) = IsDue (is_restricted flags) (dictionary roles asked) column row × IsShort aim (constant_at roles asked)

-- a column of the row that may take any value, or the row has none such
abbrev pub IsFreeColumn : List Role → List Bool → ℕ → Option ℕ → Type 0
IsFreeColumn roles flags asked found = MatchOption found
    ((c : ℕ) → is_live roles c ≡ true → is_restricted flags c ≡ false → factor_at roles asked c ≡ 0ℚ)
    (λ c. IsFree (is_restricted flags) (dictionary roles asked) c)

-- the column that enters, or no restricted column raises the row
abbrev pub IsEntering : List Role → List Bool → ℕ → Option ℕ → Type 0
IsEntering roles flags asked found = MatchOption found
    ((c : ℕ) → Raises (is_restricted flags) (dictionary roles asked) c → ⊥)
    (λ c. Enters (is_restricted flags) (dictionary roles asked) c)

-- the row that leaves where the column enters, or no row limits the column
abbrev pub IsLeaving : List Role → List Bool → ℕ → ℕ → Option ℕ → Type 0
IsLeaving roles flags asked column found = MatchOption found
    ((q : ℕ) → Limits (is_restricted flags) (dictionary roles asked) column q → ⊥)
    (λ r. Leaves (is_restricted flags) (dictionary roles asked) column r)

-- how far the row lets the column rise, or it does not limit it
abbrev pub IsRatio : List Role → List Bool → ℕ → ℕ → ℕ → Option ℚ → Type 0
IsRatio roles flags asked column row found = MatchOption found
    (Limits (is_restricted flags) (dictionary roles asked) column row → ⊥)
    (λ q. Limits (is_restricted flags) (dictionary roles asked) column row × (q ≡ ratio (dictionary roles asked) column row))

-- the column meets the row r before the row q: of two at once the one of the lesser number
abbrev pub Precedes : Dictionary → ℕ → ℕ → ℕ → Type 0
Precedes d c r q = (ratio d c r <ℚ ratio d c q) ⊎ ((ratio d c r ≡ ratio d c q) × (r ≤ q))

-- of the rows that limit the column, but for the rest, this one leaves; its ratio is the number
pub record LeavesOf (Rest : ℕ → Type 0) (restricted : ℕ → Bool) (d : Dictionary) (c r : ℕ) (number : ℚ) : Type 0 where
  pub limits : Limits restricted d c r
  pub ratio_is : number ≡ ratio d c r
  pub first : (q : ℕ) → Limits restricted d c q → Precedes d c r q ⊎ Rest q

-- the ratio of a row that limits the column is a quotient that is refused
pub record IsRefusedRatio (roles : List Role) (flags : List Bool) (asked column row : ℕ) (pair : Pair) : Type 0 where
  pub limits : Limits (is_restricted flags) (dictionary roles asked) column row
  pub made : PivotPair roles row column pair.operation pair.left pair.right
  pub refused : IsRefused pair

-- that of some row is
abbrev pub IsRefusedSome : List Role → List Bool → ℕ → ℕ → Pair → Type 0
IsRefusedSome roles flags asked column pair = (row : ℕ) × IsRefusedRatio roles flags asked column row pair

-- the one limit is met before the other, or at once where its number is not greater
abbrev pub IsNearer : Limit → Limit → Type 0
IsNearer limit other = (limit.ratio <ℚ other.ratio) ⊎ ((limit.ratio ≡ other.ratio) × (limit.row ≤ other.row))

-- the next limit, or the one before where that is nearer
abbrev pub IsFirstOf : Option Limit → Limit → Limit → Type 0
IsFirstOf None next first = first ≡ next
IsFirstOf (Some limit) next first = (IsNearer limit next × (first ≡ limit)) ⊎ (IsNearer next limit × (first ≡ next))

-- no row but those of the rest limits the column
abbrev pub NoneLimits : (ℕ → Type 0) → (ℕ → Bool) → Dictionary → ℕ → Type 0
NoneLimits Rest restricted d c = (q : ℕ) → Limits restricted d c q → Rest q
