-- Inequalities as they are printed: products, a comparison, and a number on the right.
use Rattle.std.specs.Prelude.{List}
use Rattle.spec_numbers.specs.Rational.{ℚ, neg_ℚ}
use Rattle.spec_numbers.specs.Sums.{Monomial, negated_products}
use Rattle.spec_linear.specs.Solution.{Constraint}
use Rattle.spec_linear.specs.Weak.{above_zero, at_least_zero, not_zero}

-- >= > =< <
pub data Comparison : Type 0 where
  AtLeast Above AtMost Below : Comparison

-- the products stand to the number as the comparison says
abbrev pub compared : List Monomial → Comparison → ℚ → Constraint
compared s AtLeast q = at_least_zero (record { products = s; constant = neg_ℚ q })
compared s Above q = above_zero (record { products = s; constant = neg_ℚ q })
compared s AtMost q = at_least_zero (record { products = negated_products s; constant = q })
compared s Below q = above_zero (record { products = negated_products s; constant = q })

-- the products are not the number
abbrev pub unequal_to : List Monomial → ℚ → Constraint
unequal_to s q = not_zero (record { products = s; constant = neg_ℚ q })
