-- The pairs of numbers that an operation on forms meets. A number that a form doesn't have makes no pair.
use Rattle.std.specs.Prelude.{ℕ, List}
use Rattle.spec_numbers.specs.Rational.{ℚ}
use Rattle.spec_numbers.specs.Sums.{Monomial, negated_products}
use Rattle.spec_linear.specs.Form.{Linear, without, sum_products, sum_form, difference_form, scaled_form}
use Rattle.spec_linear.specs.Solution.{Has}
use Rattle.cq_frac.specs.declared.Operation.{Operation}
use Rattle.cq_frac.specs.declared.Operation.TheVariants.{Product as Times}
use Rattle.cq_frac.specs.declared.row.Joining.{Joining}
use Rattle.cq_frac.specs.declared.row.Joining.TheVariants.{Plus, Less}
use Rattle.cq_frac.specs.Rows.{operation_of}

-- the sum or the difference, of products and of forms
abbrev pub joined_products : Joining → List Monomial → List Monomial → List Monomial
joined_products Plus s t = sum_products s t
joined_products Less s t = sum_products s (negated_products t)

abbrev pub joined_form : Joining → Linear → Linear → Linear
joined_form Plus f g = sum_form f g
joined_form Less f g = difference_form f g

-- q is the coefficient of x
abbrev pub HasCoefficient : ℕ → ℚ → List Monomial → Type 0
HasCoefficient x q s = Has (record { variable = x; factor = q }) s

-- p and q are the coefficients of one variable
pub data CommonPair (s t : List Monomial) (p q : ℚ) : Type 0 where
  of_variable : (x : ℕ) → HasCoefficient x p s → HasCoefficient x q t → CommonPair s t p q

-- q is a coefficient
pub data MultiplePair (s : List Monomial) (q : ℚ) : Type 0 where
  of_variable : (x : ℕ) → HasCoefficient x q s → MultiplePair s q

-- the sum or the difference of two forms: two coefficients of one variable, or the constants
pub data JoinedPair (how : Joining) (f g : Linear) : Operation → ℚ → ℚ → Type 0 where
  coefficients : (p q : ℚ) → CommonPair f.products g.products p q → JoinedPair how f g (operation_of how) p q
  constants : JoinedPair how f g (operation_of how) f.constant g.constant

abbrev pub SumPair : Linear → Linear → Operation → ℚ → ℚ → Type 0
SumPair f g o p q = JoinedPair Plus f g o p q

abbrev pub DifferencePair : Linear → Linear → Operation → ℚ → ℚ → Type 0
DifferencePair f g o p q = JoinedPair Less f g o p q

-- k times a form: k with a coefficient or the constant
pub data ScalePair (k : ℚ) (f : Linear) : Operation → ℚ → ℚ → Type 0 where
  coefficient : (q : ℚ) → MultiplePair f.products q → ScalePair k f Times k q
  constant : ScalePair k f Times k f.constant

-- f with g in the place of x: the coefficient of x with each number of g, and f's own numbers with those products
pub data SubstPair (x : ℕ) (g f : Linear) : Operation → ℚ → ℚ → Type 0 where
  of_product : (k : ℚ) → HasCoefficient x k f.products → {o : Operation} {p q : ℚ} → ScalePair k g o p q → SubstPair x g f o p q
  of_sum : (k : ℚ) → HasCoefficient x k f.products → {o : Operation} {p q : ℚ}
      → SumPair (record { products = without x f.products; constant = f.constant }) (scaled_form k g) o p q → SubstPair x g f o p q
