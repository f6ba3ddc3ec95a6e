-- The dictionary of the simplex method that a `Dict` is for an asked row, and how far exchanges have come.
use Rattle.std.specs.Prelude.{◌≡◌, ℕ, List, length, Bool}
use Rattle.spec_simplex.specs.Dictionary.{Dictionary, IsFeasible}
use Rattle.spec_simplex.specs.Rule.{Chain}
use Rattle.cq_dict.specs.declared.table.Role.{Role}
use Rattle.cq_dict.specs.Roles.{IsRow, AreOverColumns, is_row, is_live, is_dropped, is_restricted, constant_at, factor_at}
use Rattle.cq_dict.specs.Dict.{SameMeaning}

-- the rows over the live columns, with one of them asked: dropped columns stand nowhere
abbrev pub dictionary : List Role → ℕ → Dictionary
dictionary roles asked = record {
  is_row = is_row roles;
  is_column = is_live roles;
  constant = constant_at roles;
  entry = factor_at roles;
  value = constant_at roles asked;
  coefficient = factor_at roles asked;
}

-- n exchanges of the rule for the asked row lead from the old roles to the new ones
pub record IsReached (flags : List Bool) (asked : ℕ) (old : List Role) (n : ℕ) (new : List Role) : Type 0 where
  pub table : AreOverColumns new
  pub size : length new ≡ length old
  pub same : SameMeaning old new
  pub dropped : (c : ℕ) → is_dropped new c ≡ is_dropped old c
  pub asked_row : IsRow new asked
  pub feasible : IsFeasible (is_restricted flags) (dictionary new asked)
  pub chain : Chain (length old) (is_restricted flags) (dictionary old asked) n (dictionary new asked)
