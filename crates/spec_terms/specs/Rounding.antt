-- Rationals rounded to whole numbers, and quotients of whole numbers.
use Rattle.std.specs.Prelude.{ℕ, suc, ◌/◌, ℤ, pos, negsuc, neg_ℤ, ◌*ℤ◌, ◌-ℤ◌, int_div}
use Rattle.spec_numbers.specs.Rational.{ℚ, denominator}

-- n / d rounded down, where d is not 0
abbrev pub floor_quotient : ℤ → ℕ → ℤ
floor_quotient (pos n) d = pos (n / d)
floor_quotient (negsuc n) d = negsuc (n / d)

-- the greatest whole number that is at most q
abbrev pub floor : ℚ → ℤ
floor q = floor_quotient q.numerator (denominator q)

-- the least whole number that is at least q
abbrev pub ceiling : ℚ → ℤ
ceiling q = neg_ℤ (floor_quotient (neg_ℤ q.numerator) (denominator q))

-- what is left of q without its fraction, which is rounded toward zero
abbrev pub truncate : ℚ → ℤ
truncate q = int_div q.numerator (pos (denominator q))

-- m / n rounded down, where n is not 0
abbrev pub floor_division : ℤ → ℤ → ℤ
floor_division m (pos d) = floor_quotient m d
floor_division m (negsuc d) = floor_quotient (neg_ℤ m) (suc d)

-- m / n rounded toward zero, where n is not 0
abbrev pub whole_quotient : ℤ → ℤ → ℤ
whole_quotient m n = int_div m n

-- what is left of m by the quotient that is rounded toward zero
abbrev pub remainder : ℤ → ℤ → ℤ
remainder m n = m -ℤ whole_quotient m n *ℤ n

-- what is left of m by the quotient that is rounded down
abbrev pub modulo : ℤ → ℤ → ℤ
modulo m n = m -ℤ floor_division m n *ℤ n
