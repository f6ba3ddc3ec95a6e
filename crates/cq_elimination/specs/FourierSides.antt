-- The rows of a variable by their sides: each is divided by its coefficient, and a lower and an upper one are combined.
use Rattle.std.specs.Prelude.{◌≡◌, ℕ, List, [], ◌∷◌, ◌++◌, map}
use Rattle.spec_numbers.specs.Rational.{ℚ, neg_ℚ, inv_ℚ, IsPositive}
use Rattle.spec_numbers.specs.Sums.{Mentions}
use Rattle.spec_linear.specs.Form.{difference_form, scaled_form}
use Rattle.spec_linear.specs.Solution.{Constraint}
use Rattle.spec_projection.specs.Elimination.{coefficient, stricter}
use Rattle.cq_elimination.specs.declared.fourier.Side.{Side}
use Rattle.cq_elimination.specs.declared.fourier.Side.TheVariants.{Lower, Upper, Other}

-- the row is on this side of x
abbrev pub IsSide : ℕ → Constraint → Side → Type 0
IsSide x c (Lower k) = (k ≡ coefficient x c) × IsPositive k
IsSide x c (Upper k) = (k ≡ coefficient x c) × IsPositive (neg_ℚ k)
IsSide x c Other = Mentions x c.form.products → ⊥

-- the row by a number
abbrev pub over_number : ℚ → Constraint → Constraint
over_number k c = record { relation = c.relation; form = scaled_form (inv_ℚ k) c.form }

-- the row by its coefficient of x
abbrev pub over_coefficient : ℕ → Constraint → Constraint
over_coefficient x c = over_number (coefficient x c) c

-- the first less the second, strict where either is
abbrev pub between : Constraint → Constraint → Constraint
between c d = record { relation = stricter c.relation d.relation; form = difference_form c.form d.form }

-- each of the first with each of the second
abbrev pub crossed : List Constraint → List Constraint → List Constraint
crossed [] upper = []
crossed (c ∷ lower) upper = map (between c) upper ++ crossed lower upper
