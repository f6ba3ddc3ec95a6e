-- What an answer says of the asked row: of the dictionary at the call, and of the one in which it was found.
use Rattle.std.specs.Prelude.{◌≡◌, ◌⊎◌, ℕ, ◌≤◌, List, Bool, true}
use Rattle.spec_numbers.specs.Rational.{ℚ, 0ℚ, ◌-ℚ◌, ◌≤ℚ◌, ◌<ℚ◌, IsPositive}
use Rattle.spec_simplex.specs.Dictionary.{Obeys, basic_solution}
use Rattle.spec_simplex.specs.Rule.{IsDue, Enters, Limits, IsUnlimited, IsFree}
use Rattle.cq_frac.specs.declared.Pair.{Pair}
use Rattle.cq_frac.specs.declared.Refusal.{Refusal}
use Rattle.cq_frac.specs.declared.Refusal.TheVariants as of_refusal
use Rattle.cq_frac.specs.Refused.{IsRefused}
use Rattle.cq_frac.specs.declared.row.Entry.{Entry}
use Rattle.cq_frac.specs.Row.{Row}
use Rattle.cq_frac.specs.Rows.{sum_at, Has, negated}
use Rattle.cq_dict.specs.declared.table.Role.{Role}
use Rattle.cq_dict.specs.declared.table.Role.TheVariants.{Basic}
use Rattle.cq_dict.specs.Roles.{IsAt, IsMet, PivotPair, is_live, is_dropped, is_restricted, constant_at}
use Rattle.cq_simplex.specs.declared.Aim.{Aim}
use Rattle.cq_simplex.specs.declared.Aim.TheVariants as aim_of
use Rattle.cq_simplex.specs.declared.Max.{Max}
use Rattle.cq_simplex.specs.declared.Max.TheVariants as max_of
use Rattle.cq_simplex.specs.declared.SimplexFault.{SimplexFault}
use Rattle.cq_simplex.specs.declared.SimplexFault.TheVariants.{Overflow, NoMemory}
use Rattle.cq_simplex.specs.Dictionary.{dictionary, IsReached}

-- a refusal, as the fault of the search
abbrev pub IsFaultOf : Refusal → SimplexFault → Type 0
IsFaultOf (of_refusal.Overflow pair) fault = fault ≡ Overflow pair
IsFaultOf of_refusal.NoMemory fault = fault ≡ NoMemory

-- an assignment meets the rows, and dropped columns are zero
pub record IsAdmitted (roles : List Role) (x : ℕ → ℚ) : Type 0 where
  pub met : IsMet x roles
  pub dropped : (c : ℕ) → is_dropped roles c ≡ true → x c ≡ 0ℚ

-- and restricted quantities are not below zero
pub record IsSolution (roles : List Role) (flags : List Bool) (x : ℕ → ℚ) : Type 0 where
  pub admitted : IsAdmitted roles x
  pub obeys : Obeys (is_restricted flags) x

-- v is the asked row's greatest value over the solutions, and the basic solution of the new roles has it
pub record IsMaximum (roles : List Role) (flags : List Bool) (asked : ℕ) (new : List Role) (v : ℚ) : Type 0 where
  pub bound : (x : ℕ → ℚ) → IsSolution roles flags x → x asked ≤ℚ v
  pub reached : IsSolution roles flags (basic_solution (dictionary new asked))
  pub value : basic_solution (dictionary new asked) asked ≡ v

-- the asked row is v less the multipliers times their columns, which are live and restricted ones of the new roles;
-- there the row's entries are the multipliers with the other sign
pub record AreMultipliers (roles : List Role) (flags : List Bool) (asked : ℕ) (new : List Role) (v : ℚ) (multipliers : List Entry) : Type 0 where
  pub written : (x : ℕ → ℚ) → IsAdmitted roles x → x asked ≡ v -ℚ sum_at x multipliers
  pub positive : (m : Entry) → Has m multipliers → IsPositive m.factor
  pub live : (m : Entry) → Has m multipliers → is_live new m.quantity ≡ true
  pub restricted : (m : Entry) → Has m multipliers → is_restricted flags m.quantity ≡ true
  pub entries : (own : Row) → IsAt new asked (Basic own) → multipliers ≡ negated own.live

-- above each number some solution has the asked row
abbrev pub RisesWithoutEnd : List Role → List Bool → ℕ → Type 0
RisesWithoutEnd roles flags asked = (r : ℚ) → (x : ℕ → ℚ) × IsSolution roles flags x × (r <ℚ x asked)

-- under the aim Positive the number is not above zero
abbrev pub IsShort : Aim → ℚ → Type 0
IsShort aim v = aim ≡ aim_of.Positive → v ≤ℚ 0ℚ

-- the value is the greatest, or it is above zero where that was the aim, or there is no greatest one, as a column shows
-- that no row limits or that may take any value
abbrev pub IsAnswer : List Role → List Bool → ℕ → Aim → List Role → Max → Type 0
IsAnswer roles flags asked aim new (max_of.At v multipliers) =
    IsMaximum roles flags asked new v × AreMultipliers roles flags asked new v multipliers.items × IsShort aim v
IsAnswer roles flags asked aim new max_of.Positive = (aim ≡ aim_of.Positive) × IsPositive (constant_at new asked)
IsAnswer roles flags asked aim new (max_of.Unbounded c) =
    RisesWithoutEnd roles flags asked × (IsUnlimited (is_restricted flags) (dictionary new asked) c ⊎ IsFree (is_restricted flags) (dictionary new asked) c)

-- the number of the budget of exchanges is made, another is due, and the aim Positive is not reached
pub record AreSpent (roles : List Role) (flags : List Bool) (asked : ℕ) (aim : Aim) (budget : ℕ) (new : List Role) : Type 0 where
  pub reached : IsReached flags asked roles budget new
  pub column : ℕ
  pub row : ℕ
  pub due : IsDue (is_restricted flags) (dictionary new asked) column row
  pub short : IsShort aim (constant_at new asked)

-- the roles are reached by exchanges of the budget or fewer
pub record IsWithin (roles : List Role) (flags : List Bool) (asked : ℕ) (budget : ℕ) (new : List Role) : Type 0 where
  pub exchanges : ℕ
  pub within : exchanges ≤ budget
  pub reached : IsReached flags asked roles exchanges new

-- an operation of an exchange refuses the pair, where the column enters and the row limits it
pub record IsOverflow (flags : List Bool) (asked : ℕ) (new : List Role) (pair : Pair) : Type 0 where
  pub column : ℕ
  pub row : ℕ
  pub enters : Enters (is_restricted flags) (dictionary new asked) column
  pub limits : Limits (is_restricted flags) (dictionary new asked) column row
  pub made : PivotPair new row column pair.operation pair.left pair.right
  pub refused : IsRefused pair
