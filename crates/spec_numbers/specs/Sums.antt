-- Sums of products of a factor and a variable, at an assignment of rationals to the variables.
use Rattle.std.specs.Prelude.{◌≡◌, ℕ, List, [], ◌∷◌, ◌⊎◌, Bool, true, false, nat_eq}
use Rattle.spec_numbers.specs.Rational.{ℚ, 0ℚ, 1ℚ, ◌+ℚ◌, ◌*ℚ◌, neg_ℚ}

-- a factor times a variable
pub record Monomial : Type 0 where
  pub variable : ℕ
  pub factor : ℚ

-- the sum of the products where v gives the variables their values
abbrev pub sum_at : (ℕ → ℚ) → List Monomial → ℚ
sum_at v [] = 0ℚ
sum_at v (m ∷ s) = m.factor *ℚ v m.variable +ℚ sum_at v s

-- q, or 0
abbrev pub when : Bool → ℚ → ℚ
when true q = q
when false q = 0ℚ

-- 1 at x, and 0 elsewhere
abbrev pub unit : ℕ → ℕ → ℚ
unit x y = when (nat_eq x y) 1ℚ

-- the coefficient of x: its factors added up
abbrev pub factor_of : ℕ → List Monomial → ℚ
factor_of x [] = 0ℚ
factor_of x (m ∷ s) = when (nat_eq x m.variable) m.factor +ℚ factor_of x s

-- each product with the factor k times as great
abbrev pub scaled_products : ℚ → List Monomial → List Monomial
scaled_products k [] = []
scaled_products k (m ∷ s) = record { variable = m.variable; factor = k *ℚ m.factor } ∷ scaled_products k s

-- each product with the other sign
abbrev pub negated_products : List Monomial → List Monomial
negated_products [] = []
negated_products (m ∷ s) = record { variable = m.variable; factor = neg_ℚ m.factor } ∷ negated_products s

-- x is the variable of a product
abbrev pub Mentions : ℕ → List Monomial → Type 0
Mentions x [] = ⊥
Mentions x (m ∷ s) = (x ≡ m.variable) ⊎ Mentions x s
