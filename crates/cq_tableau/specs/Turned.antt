-- A row with the opposite sign: what the dictionary would be, if the row's quantity were its negative.
use Rattle.std.specs.Prelude.{ℕ, zero, suc, List, [], ◌∷◌, Bool, true, false}
use Rattle.spec_numbers.specs.Rational.{ℚ, neg_ℚ}
use Rattle.cq_frac.specs.Row.{Row}
use Rattle.cq_frac.specs.Rows.{negated}
use Rattle.cq_dict.specs.declared.table.Role.{Role}
use Rattle.cq_dict.specs.declared.table.Role.TheVariants.{Live, Dropped, Basic}

abbrev pub opposite_row : Row → Row
opposite_row r = record { constant = neg_ℚ r.constant; live = negated r.live; dropped = negated r.dropped }

abbrev pub opposite_role : Role → Role
opposite_role Live = Live
opposite_role Dropped = Dropped
opposite_role (Basic r) = Basic (opposite_row r)

-- the roles, where the quantity q is a row with the opposite sign
abbrev pub turned : List Role → ℕ → List Role
turned [] q = []
turned (t ∷ ts) zero = opposite_role t ∷ ts
turned (t ∷ ts) (suc q) = t ∷ turned ts q

-- the roles in which q is to rise: they themselves, or with q turned where it is to fall
abbrev pub towards : Bool → List Role → ℕ → List Role
towards true roles q = roles
towards false roles q = turned roles q

-- the factor by which q then changes along a column
abbrev pub slope_of : Bool → ℚ → ℚ
slope_of true factor = factor
slope_of false factor = neg_ℚ factor
