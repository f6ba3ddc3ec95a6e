-- A whole clause as it is read.
use Rattle.std.specs.Prelude.{◌≡◌, ℕ, Some}
use Rattle.cq_read.specs.declared.clause.Clause.{Clause}
use Rattle.cq_read.specs.declared.reading.Read.{Read}
use Rattle.cq_read.specs.declared.reading.Read.TheVariants as read
use Rattle.cq_read.specs.Clauses.{whole_term}

-- the clause's term and names, and the place behind it
abbrev pub IsClauseRead : Clause → ℕ → Read → Type 0
IsClauseRead clause place (read.Clause term names next) = (whole_term clause.state ≡ Some term) × (names.items ≡ clause.variables) × (next ≡ place)
IsClauseRead clause place r = ⊥
