-- What a climb keeps, and the exchanges that it makes.
use Rattle.std.specs.Prelude.{◌≡◌, ◌⊎◌, ℕ, List, length, Bool, Option, Some, None}
use Rattle.spec_numbers.specs.Rational.{◌*ℚ◌, ◌≤ℚ◌, ◌<ℚ◌}
use Rattle.spec_simplex.specs.Dictionary.{IsFeasible}
use Rattle.spec_simplex.specs.Rule.{Raises, Leaves, ratio}
use Rattle.cq_dict.specs.declared.table.Role.{Role}
use Rattle.cq_dict.specs.Roles.{IsRow, AreOverColumns, is_dropped, is_restricted, factor_at}
use Rattle.cq_dict.specs.Dict.{SameMeaning}
use Rattle.cq_simplex.specs.declared.Aim.{Aim}
use Rattle.cq_simplex.specs.Answers.{AreSpent}
use Rattle.cq_simplex.specs.Dictionary.{dictionary}
use Rattle.cq_simplex.specs.declared.climb.Rise.{Rise}

-- the new roles are a feasible dictionary of the same solutions for the asked row, with the same dropped columns
pub record IsCarried (roles : List Role) (flags : List Bool) (asked : ℕ) (new : List Role) : Type 0 where
  pub table : AreOverColumns new
  pub size : length new ≡ length roles
  pub same : SameMeaning roles new
  pub dropped : (c : ℕ) → is_dropped new c ≡ is_dropped roles c
  pub asked_row : IsRow new asked
  pub feasible : IsFeasible (is_restricted flags) (dictionary new asked)

-- from some such roles the number of the budget of exchanges is made by the rule, and another is due
pub record IsSpentAfter (roles : List Role) (flags : List Bool) (asked : ℕ) (aim : Aim) (budget : ℕ) (new : List Role) : Type 0 where
  pub from : List Role
  pub carried : IsCarried roles flags asked from
  pub spent : AreSpent from flags asked aim budget new

-- the column raises the row, this row limits it first, and the asked row rises by the gain, if it is not zero
pub record IsRise (roles : List Role) (flags : List Bool) (asked : ℕ) (r : Rise) : Type 0 where
  pub raises : Raises (is_restricted flags) (dictionary roles asked) r.entering
  pub leaves : Leaves (is_restricted flags) (dictionary roles asked) r.entering r.leaving
  pub gain : r.gain ≡ factor_at roles asked r.entering *ℚ ratio (dictionary roles asked) r.entering r.leaving

-- the exchange found before, or the next one where the gain is greater
abbrev pub IsHigher : Option Rise → Rise → Rise → Type 0
IsHigher None next result = result ≡ next
IsHigher (Some before) next result = ((before.gain <ℚ next.gain) × (result ≡ next)) ⊎ ((next.gain ≤ℚ before.gain) × (result ≡ before))
