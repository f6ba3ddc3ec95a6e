-- What is left of the parts of a sum and of a product of a / b and c / d when common divisors are cancelled.
use Rattle.std.specs.Prelude.{◌≡◌, ℕ, ◌*◌, ◌/◌, max, Bool, ℤ, pos, nat_abs, int_lt, ◌+ℤ◌}
use Rattle.spec_numbers.specs.Gcd.{gcd}
use Rattle.cq_frac.specs.Fits.{signed}

-- the product's numerator, cancelled crosswise
abbrev pub product_top : ℕ → ℕ → ℕ → ℕ → ℕ
product_top a b c d = (a / gcd a d) * (c / gcd c b)

-- its denominator
abbrev pub product_bottom : ℕ → ℕ → ℕ → ℕ → ℕ
product_bottom a b c d = (b / gcd c b) * (d / gcd a d)

-- the least common denominator
abbrev pub common_bottom : ℕ → ℕ → ℕ
common_bottom b d = (b / gcd b d) * d

-- the sum's numerator over it, where m and n say which of the two numbers are negative
abbrev pub common_top : Bool → ℕ → ℕ → Bool → ℕ → ℕ → ℤ
common_top m a b n c d = signed m (a * (d / gcd b d)) +ℤ signed n (c * (b / gcd b d))

-- the greatest number on the way to the sum
abbrev pub sum_peak : Bool → ℕ → ℕ → Bool → ℕ → ℕ → ℕ
sum_peak m a b n c d = max (max (a * (d / gcd b d)) (c * (b / gcd b d))) (max (nat_abs (common_top m a b n c d)) (common_bottom b d))

-- the sign and the parts of z / y, where only a divisor of g divides both
pub record AreParts (z : ℤ) (y g : ℕ) (negative : Bool) (top bottom : ℕ) : Type 0 where
  pub sign_is : negative ≡ int_lt z (pos 0)
  pub top_is : top ≡ nat_abs z / gcd (nat_abs z) g
  pub bottom_is : bottom ≡ y / gcd (nat_abs z) g
