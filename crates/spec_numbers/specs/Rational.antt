-- The rational numbers, each in lowest terms, so that equal ones are `≡`.
use Rattle.std.specs.Prelude.{◌≡◌, ℕ, ◌*◌, ◌/◌, ◌<◌, ℤ, pos, negsuc, ◌+ℤ◌, ◌*ℤ◌, ◌≤ℤ◌, ◌<ℤ◌, nat_abs, neg_ℤ}
use Rattle.std.proofs.Common.{zero, suc, pred, arith, refl}
use Rattle.std.proofs.Math.Nat.{mul-div_cancel'}
use Rattle.spec_numbers.specs.Gcd.{gcd, gcd-quotients, gcd_is}

-- a rational number in lowest terms, with a positive denominator
pub record ℚ : Type 0 where
  pub numerator : ℤ
  -- the denominator less one
  pub below : ℕ
  pub lowest : gcd (nat_abs numerator) (suc below) ≡ 1

-- a rational number in lowest terms, with a positive denominator
abbrev pub denominator : ℚ → ℕ
denominator q = suc q.below

-- n / g, where g divides n
abbrev pub divided : ℤ → ℕ → ℤ
divided (pos a) g = pos (a / g)
divided (negsuc a) g = neg_ℤ (pos (suc a / g))

nat_abs-neg : (n : ℕ) → nat_abs (neg_ℤ (pos n)) ≡ n
nat_abs-neg zero = refl
nat_abs-neg (suc n) = refl

nat_abs-divided : (z : ℤ) (g : ℕ) → nat_abs (divided z g) ≡ nat_abs z / g
nat_abs-divided (pos a) g = refl
nat_abs-divided (negsuc a) g = nat_abs-neg (suc a / g)

-- a quotient by a divisor of a positive number is positive
pub quotient_pos : (g b : ℕ) → 0 < b → g * (b / g) ≡ b → suc (pred (b / g)) ≡ b / g
quotient_pos g b h e = go (b / g) e
  where
    go : (m : ℕ) → g * m ≡ b → suc (pred m) ≡ m
    go zero e = absurd (omega arith)
    go (suc m) e = refl

pub is_lowest : (n : ℤ) (k : ℕ) → gcd (nat_abs (divided n (gcd (nat_abs n) (suc k)))) (suc (pred (suc k / gcd (nat_abs n) (suc k)))) ≡ 1
is_lowest n k =
    let g = gcd (nat_abs n) (suc k) in
    rw (nat_abs-divided n g, quotient_pos g (suc k) (omega arith) (mul-div_cancel' g (gcd_is (nat_abs n) (suc k)).1)) (gcd-quotients (nat_abs n) (suc k) (omega arith))

-- n over d, where d is not 0
unfoldable pub ratio : ℤ → ℕ → ℚ
ratio n d = record {
  numerator = divided n (gcd (nat_abs n) (suc (pred d)));
  below = pred (suc (pred d) / gcd (nat_abs n) (suc (pred d)));
  lowest = is_lowest n (pred d);
}

unfoldable pub int_ℚ : ℤ → ℚ
int_ℚ z = ratio z 1

infixl 6 ◌+ℚ◌ ◌-ℚ◌
infixl 7 ◌*ℚ◌
unfoldable pub ◌+ℚ◌ : ℚ → ℚ → ℚ
p +ℚ q = ratio (p.numerator *ℤ pos (denominator q) +ℤ q.numerator *ℤ pos (denominator p)) (denominator p * denominator q)

unfoldable pub ◌*ℚ◌ : ℚ → ℚ → ℚ
p *ℚ q = ratio (p.numerator *ℤ q.numerator) (denominator p * denominator q)

unfoldable pub neg_ℚ : ℚ → ℚ
neg_ℚ p = ratio (neg_ℤ p.numerator) (denominator p)

-- a rational number in lowest terms, with a positive denominator
abbrev pub ◌-ℚ◌ : ℚ → ℚ → ℚ
p -ℚ q = p +ℚ neg_ℚ q

-- 1 over q, and 0 for 0
abbrev pub inverted : ℤ → ℕ → ℚ
inverted (pos zero) d = ratio (pos 0) 1
inverted (pos (suc n)) d = ratio (pos d) (suc n)
inverted (negsuc n) d = ratio (neg_ℤ (pos d)) (suc n)

unfoldable pub inv_ℚ : ℚ → ℚ
inv_ℚ q = inverted q.numerator (denominator q)

-- signs
pub record IsPositive (q : ℚ) : Type 0 where
  pub positive : pos 0 <ℤ q.numerator

-- zero or more
pub record IsNotNegative (q : ℚ) : Type 0 where
  pub not_negative : pos 0 ≤ℤ q.numerator

-- a rational number in lowest terms, with a positive denominator
abbrev pub 0ℚ : ℚ
0ℚ = int_ℚ (pos 0)

-- a rational number in lowest terms, with a positive denominator
abbrev pub 1ℚ : ℚ
1ℚ = int_ℚ (pos 1)

infix 5 ◌≤ℚ◌ ◌<ℚ◌
-- q - p is not negative
pub record ◌≤ℚ◌ (p q : ℚ) : Type 0 where
  pub gap : IsNotNegative (q -ℚ p)

-- q - p is positive
pub record ◌<ℚ◌ (p q : ℚ) : Type 0 where
  pub gap : IsPositive (q -ℚ p)

-- n over d, for a signed d that is not 0
abbrev pub quotient : ℤ → ℤ → ℚ
quotient n (pos d) = ratio n d
quotient n (negsuc d) = ratio (neg_ℤ n) (suc d)

infixl 7 ◌/ℚ◌
-- a rational number in lowest terms, with a positive denominator
abbrev pub ◌/ℚ◌ : ℚ → ℚ → ℚ
p /ℚ q = p *ℚ inv_ℚ q
