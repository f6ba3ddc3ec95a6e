-- Forms scaled so that those that are multiples of each other are one.
use Rattle.std.specs.Prelude.{◌≡◌, ◌≢◌, ◌⊎◌, ℕ, List, [], ◌∷◌, cond}
use Rattle.spec_numbers.specs.Rational.{ℚ, 0ℚ, 1ℚ, inv_ℚ}
use Rattle.spec_numbers.specs.Sums.{Monomial, factor_of}
use Rattle.spec_linear.specs.declared.Relation.{Relation}
use Rattle.spec_linear.specs.declared.Relation.TheVariants.{Gt, Ge, Ne}
use Rattle.spec_linear.specs.Form.{Linear, is_zero, scaled_form}
use Rattle.spec_linear.specs.Solution.{Constraint, Has}
use Rattle.cq_frac.specs.declared.Pair.{Pair}
use Rattle.cq_elimination.specs.Steps.{IsQuotientOf}

-- the first coefficient; of a number the number itself, or 1 where that is zero
abbrev pub leading_of : List Monomial → ℚ → ℚ
leading_of [] q = cond (is_zero q) 1ℚ q
leading_of (m ∷ s) q = m.factor

abbrev pub leading : Linear → ℚ
leading f = leading_of f.products f.constant

-- the form by it
abbrev pub canonical : Linear → Linear
canonical f = scaled_form (inv_ℚ (leading f)) f

abbrev pub canonical_of : Constraint → Linear
canonical_of c = canonical c.form

-- ---- refusals

-- a number of the form by one of its coefficients is refused
pub record ScalesForm (f : Linear) (pair : Pair) : Type 0 where
  pub variable : ℕ
  pub stands : factor_of variable f.products ≢ 0ℚ
  pub quotient : IsQuotientOf f (factor_of variable f.products) pair

-- the same of some row
pub record ScalesIn (l : List Constraint) (pair : Pair) : Type 0 where
  pub row : Constraint
  pub member : Has row l
  pub scales : ScalesForm row.form pair

-- ---- beside disequations

abbrev pub AreDisequations : List Constraint → Type 0
AreDisequations l = (c : Constraint) → Has c l → c.relation ≡ Ne

-- strict where the row is weak and its scaled form is one of these, and else its own
abbrev pub IsRelationBeside : List Linear → Constraint → Relation → Type 0
IsRelationBeside forms c r = ((r ≡ Gt) × (c.relation ≡ Ge) × Has (canonical c.form) forms)
    ⊎ ((r ≡ c.relation) × (c.relation ≡ Ge → Has (canonical c.form) forms → ⊥))
