-- Linear forms: a sum of products of a factor and a variable, and a constant.
-- A form lists its products by ascending variable, each variable once and no factor zero.
use Rattle.std.specs.Prelude.{◌≢◌, ℕ, suc, ◌≤◌, List, [], ◌∷◌, ⊤, Bool, true, false, cond, not, ◌==◌, nat_eq, nat_lt, nat_abs, filter, map}
use Rattle.spec_numbers.specs.Rational.{ℚ, 0ℚ, 1ℚ, ◌+ℚ◌, ◌*ℚ◌, neg_ℚ}
use Rattle.spec_numbers.specs.Sums.{Monomial, sum_at, factor_of, scaled_products, negated_products}

-- the products, and the constant
pub record Linear : Type 0 where
  pub products : List Monomial
  pub constant : ℚ

-- what the form is where a gives the variables their values
abbrev pub value_at : (ℕ → ℚ) → Linear → ℚ
value_at a f = f.constant +ℚ sum_at a f.products

-- the variables of products
abbrev pub variables : List Monomial → List ℕ
variables s = map (λ m. m.variable) s

-- each variable is at least low and above the one before it, and no factor is zero
abbrev pub IsSumFrom : ℕ → List Monomial → Type 0
IsSumFrom low [] = ⊤
IsSumFrom low (m ∷ s) = (low ≤ m.variable) × (m.factor ≢ 0ℚ) × IsSumFrom (suc m.variable) s

-- variables ascending, each once, no factor zero
abbrev pub IsForm : Linear → Type 0
IsForm f = IsSumFrom 0 f.products

-- ---- forms made of a number, of a variable, and of other forms, like terms collected

-- the number is 0
abbrev pub is_zero : ℚ → Bool
is_zero q = nat_eq (nat_abs q.numerator) 0

-- the product in front, unless its factor is zero
abbrev pub in_front : Monomial → List Monomial → List Monomial
in_front m s = cond (is_zero m.factor) s (m ∷ s)

-- a product added to a sum
abbrev pub with_product : Monomial → List Monomial → List Monomial
with_product p [] = in_front p []
with_product p (m ∷ s) =
    cond (nat_lt p.variable m.variable) (in_front p (m ∷ s)) (
    cond (p.variable == m.variable) (in_front (record { variable = p.variable; factor = p.factor +ℚ m.factor }) s) (m ∷ with_product p s))

-- both sums together
abbrev pub sum_products : List Monomial → List Monomial → List Monomial
sum_products [] t = t
sum_products (p ∷ s) t = with_product p (sum_products s t)

-- the products whose factors are not zero
abbrev pub without_zeros : List Monomial → List Monomial
without_zeros s = filter (λ m. not (is_zero m.factor)) s

-- the products of other variables than x
abbrev pub without : ℕ → List Monomial → List Monomial
without x s = filter (λ m. not (x == m.variable)) s

-- a number, as a form
abbrev pub constant_form : ℚ → Linear
constant_form q = record { products = []; constant = q }

-- a variable, as a form
abbrev pub variable_form : ℕ → Linear
variable_form x = record { products = record { variable = x; factor = 1ℚ } ∷ []; constant = 0ℚ }

-- f + g
abbrev pub sum_form : Linear → Linear → Linear
sum_form f g = record { products = sum_products f.products g.products; constant = f.constant +ℚ g.constant }

-- k times f
abbrev pub scaled_form : ℚ → Linear → Linear
scaled_form k f = record { products = without_zeros (scaled_products k f.products); constant = k *ℚ f.constant }

-- -f
abbrev pub negated_form : Linear → Linear
negated_form f = record { products = negated_products f.products; constant = neg_ℚ f.constant }

-- f - g
abbrev pub difference_form : Linear → Linear → Linear
difference_form f g = sum_form f (negated_form g)

-- f with g in the place of x
abbrev pub substituted_form : ℕ → Linear → Linear → Linear
substituted_form x g f =
    sum_form (record { products = without x f.products; constant = f.constant }) (scaled_form (factor_of x f.products) g)

-- no product stands there
abbrev pub is_empty : List Monomial → Bool
is_empty [] = true
is_empty (m ∷ s) = false

-- no variable stands in the form
abbrev pub is_constant : Linear → Bool
is_constant f = is_empty f.products

-- the values of a, but q at x
abbrev pub changed_at : ℕ → ℚ → (ℕ → ℚ) → ℕ → ℚ
changed_at x q a y = cond (x == y) q (a y)
