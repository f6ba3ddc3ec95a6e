-- One variable eliminated from a list of inequalities (Fourier 1826): each lower row with each upper row, and the
-- others.
use Rattle.std.proofs.Common.{zero}
use Rattle.std.specs.Prelude.{◌≡◌, ◌⊎◌, ℕ, suc, List, [], ◌∷◌, ◌++◌, map, filter, Bool, true, false, ⊤, ℤ, pos, negsuc}
use Rattle.spec_numbers.specs.Rational.{ℚ, 0ℚ, neg_ℚ, inv_ℚ}
use Rattle.spec_numbers.specs.Sums.{factor_of}
use Rattle.spec_linear.specs.declared.Relation.{Relation}
use Rattle.spec_linear.specs.declared.Relation.TheVariants.{Eq, Gt, Ge, Ne}
use Rattle.spec_linear.specs.Form.{is_zero, sum_form, scaled_form}
use Rattle.spec_linear.specs.Solution.{Constraint, Has}

-- > 0 or >= 0
abbrev pub IsInequality : Relation → Type 0
IsInequality Eq = ⊥
IsInequality Gt = ⊤
IsInequality Ge = ⊤
IsInequality Ne = ⊥

-- strict where either is
abbrev pub stricter : Relation → Relation → Relation
stricter Eq r = Gt
stricter Gt r = Gt
stricter Ge r = r
stricter Ne r = Gt

-- the whole number is above zero
abbrev pub is_above_zero : ℤ → Bool
is_above_zero (pos zero) = false
is_above_zero (pos (suc n)) = true
is_above_zero (negsuc n) = false

-- above zero
abbrev pub is_positive : ℚ → Bool
is_positive q = is_above_zero q.numerator

-- the coefficient of x
abbrev pub coefficient : ℕ → Constraint → ℚ
coefficient x c = factor_of x c.form.products

-- those that bound x from below
abbrev pub lower_rows : ℕ → List Constraint → List Constraint
lower_rows x l = filter (λ c. is_positive (coefficient x c)) l

-- those that bound x from above
abbrev pub upper_rows : ℕ → List Constraint → List Constraint
upper_rows x l = filter (λ c. is_positive (neg_ℚ (coefficient x c))) l

-- those in which x does not stand
abbrev pub other_rows : ℕ → List Constraint → List Constraint
other_rows x l = filter (λ c. is_zero (coefficient x c)) l

-- a lower and an upper row together, each divided by the absolute value of its coefficient of x
abbrev pub combination : ℕ → Constraint → Constraint → Constraint
combination x lower upper = record {
  relation = stricter lower.relation upper.relation;
  form = sum_form (scaled_form (inv_ℚ (coefficient x lower)) lower.form) (scaled_form (inv_ℚ (neg_ℚ (coefficient x upper))) upper.form);
}

-- each of the first with each of the second
abbrev pub combinations : ℕ → List Constraint → List Constraint → List Constraint
combinations x [] uppers = []
combinations x (c ∷ lowers) uppers = map (combination x c) uppers ++ combinations x lowers uppers

-- the list without x
abbrev pub eliminated : ℕ → List Constraint → List Constraint
eliminated x l = other_rows x l ++ combinations x (lower_rows x l) (upper_rows x l)

-- x stands in inequalities alone
abbrev pub StandsInInequalities : ℕ → List Constraint → Type 0
StandsInInequalities x l = (c : Constraint) → Has c l → IsInequality c.relation ⊎ (coefficient x c ≡ 0ℚ)
