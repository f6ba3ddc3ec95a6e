-- An unrestricted column of a row that stands in as few rows as can be.
use Rattle.std.specs.Prelude.{◌≡◌, ◌⊎◌, ℕ, ◌+◌, ◌<◌, ◌≤◌, List, [], ◌∷◌, Bool, true, false, nat_eq, Option, None, Some, MatchOption}
use Rattle.spec_simplex.specs.Rule.{IsFree}
use Rattle.cq_frac.specs.declared.row.Entry.{Entry}
use Rattle.cq_frac.specs.Rows.{choose}
use Rattle.cq_dict.specs.declared.table.Role.{Role}
use Rattle.cq_dict.specs.declared.table.Role.TheVariants.{Live, Dropped, Basic}
use Rattle.cq_dict.specs.Roles.{is_restricted}
use Rattle.cq_simplex.specs.Dictionary.{dictionary}
use Rattle.cq_tableau.specs.Raised.{HasNoFreeColumn}
use Rattle.cq_tableau.specs.declared.level.choosing.Candidate.{Candidate}

-- the entries have one of the column
abbrev pub has_column : ℕ → List Entry → Bool
has_column c [] = false
has_column c (m ∷ s) = choose (nat_eq m.quantity c) true (has_column c s)

-- 1 of a row with an entry in the column, else 0
abbrev pub stands : ℕ → Role → ℕ
stands c Live = 0
stands c Dropped = 0
stands c (Basic r) = choose (has_column c r.live) 1 0

-- in how many rows the column stands
abbrev pub rows_with : ℕ → List Role → ℕ
rows_with c [] = 0
rows_with c (t ∷ roles) = stands c t + rows_with c roles

-- the next candidate where it stands in fewer rows, or else the one before
abbrev pub IsLighter : Option Candidate → Candidate → Candidate → Type 0
IsLighter None next first = first ≡ next
IsLighter (Some k) next first = ((next.rows < k.rows) × (first ≡ next)) ⊎ ((k.rows ≤ next.rows) × (first ≡ k))

-- no unrestricted column of the row stands in fewer rows than this one; None where the row has none
abbrev pub IsLightest : List Role → List Bool → ℕ → Option ℕ → Type 0
IsLightest roles flags q found = MatchOption found (HasNoFreeColumn roles flags q)
    (λ c. IsFree (is_restricted flags) (dictionary roles q) c
    × ((d : ℕ) → IsFree (is_restricted flags) (dictionary roles q) d → rows_with c roles ≤ rows_with d roles))
