-- Which rationals fit into 128 bits, and which sums are taken or refused.
use Rattle.std.specs.Prelude.{◌≡◌, ℕ, ◌*◌, ◌<◌, ◌≤◌, ◌^◌, ◌/◌, Bool, true, false, ℤ, pos, nat_abs, neg_ℤ, ◌*ℤ◌, ◌+ℤ◌, ◌⊎◌, ◌<ℤ◌}
use Rattle.spec_numbers.specs.Rational.{ℚ, denominator}
use Rattle.spec_numbers.specs.Gcd.{gcd}

-- one more than the greatest part, 2 ^ 127 - 1
abbrev pub limit : ℕ
limit = 2 ^ 127

-- in lowest terms both parts are below the limit
pub record Fits (q : ℚ) : Type 0 where
  pub num_fits : nat_abs q.numerator < limit
  pub den_fits : denominator q < limit

-- in lowest terms some part reaches the limit
abbrev pub Exceeds : ℚ → Type 0
Exceeds q = (limit ≤ nat_abs q.numerator) ⊎ (limit ≤ denominator q)

-- what the fields of a number are
pub record IsLowest (n d : ℤ) : Type 0 where
  pub num_fits : nat_abs n < limit
  pub den_pos : pos 0 <ℤ d
  pub den_fits : nat_abs d < limit
  pub coprime : gcd (nat_abs n) (nat_abs d) ≡ 1

-- a / b + c / d over the least common denominator, where g is the greatest common divisor of b and d:
-- the first numerator there, a * (d / g)
abbrev pub left_term : ℚ → ℚ → ℤ
left_term p q = p.numerator *ℤ pos (denominator q / gcd (denominator p) (denominator q))

-- the second, c * (b / g)
abbrev pub right_term : ℚ → ℚ → ℤ
right_term p q = q.numerator *ℤ pos (denominator p / gcd (denominator p) (denominator q))

-- the denominator, (b / g) * d
abbrev pub common_den : ℚ → ℚ → ℕ
common_den p q = (denominator p / gcd (denominator p) (denominator q)) * denominator q

-- each of the four numbers that the sum goes through is below the limit
pub record SumAccepted (p q : ℚ) : Type 0 where
  pub left_fits : nat_abs (left_term p q) < limit
  pub right_fits : nat_abs (right_term p q) < limit
  pub sum_fits : nat_abs (left_term p q +ℤ right_term p q) < limit
  pub den_fits : common_den p q < limit

-- one of the four reaches the limit, whether or not the sum itself fits
abbrev pub SumRefused : ℚ → ℚ → Type 0
SumRefused p q =
    (limit ≤ nat_abs (left_term p q)) ⊎ ((limit ≤ nat_abs (right_term p q)) ⊎ ((limit ≤ nat_abs (left_term p q +ℤ right_term p q)) ⊎ (limit ≤ common_den p q)))

-- the number of this sign and size
abbrev pub signed : Bool → ℕ → ℤ
signed true n = neg_ℤ (pos n)
signed false n = pos n
