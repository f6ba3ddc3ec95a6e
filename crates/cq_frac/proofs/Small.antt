-- Sums and products of small numbers fit.
use Rattle.std.proofs.Common.{◌≡◌, ℕ, ◌+◌, ◌-◌, ◌*◌, ◌/◌, ◌<◌, ◌≤◌, ◌^◌, Bool, nat_abs, ◌+ℤ◌, arith, refl, ◌⊎◌, inl, inr}
use Rattle.std.proofs.lemmas.Nat.{mul-le}
use Rattle.spec_numbers.specs.Gcd.{gcd}
use Rattle.cq_frac.specs.Cancelled.{sum_peak}
use Rattle.cq_frac.specs.Fits.{signed, limit}
use Rattle.cq_frac.proofs.Parts.{nat_abs-signed}
use Rattle.cq_frac.proofs.Sums.{quotient_below, size_of_sum}

pub small_times : (x y : ℕ) → x < 2 ^ 31 → y < 2 ^ 31 → x * y < 2 ^ 62
small_times x y h k = let l : x * y ≤ (2 ^ 31 - 1) * 2 ^ 31 = mul-le x y (2 ^ 31 - 1) (2 ^ 31) (omega arith) (omega arith) in omega arith

nat_abs-sum : (m n : Bool) (x y : ℕ) → nat_abs (signed m x +ℤ signed n y) ≤ x + y
nat_abs-sum m n x y = go (size_of_sum (signed m x) (signed n y))
  where
    go : (nat_abs (signed m x +ℤ signed n y) ≡ nat_abs (signed m x) + nat_abs (signed n y))
        ⊎ (nat_abs (signed m x +ℤ signed n y) ≡ (nat_abs (signed m x) - nat_abs (signed n y)) + (nat_abs (signed n y) - nat_abs (signed m x))) →
        nat_abs (signed m x +ℤ signed n y) ≤ x + y
    go (inl e) = omega (arith, e, nat_abs-signed m x, nat_abs-signed n y)
    go (inr e) = omega (arith, e, nat_abs-signed m x, nat_abs-signed n y)

-- each number on the way to the sum
pub small_peak : (m : Bool) (a b : ℕ) (n : Bool) (c d : ℕ) → a < 2 ^ 31 → b < 2 ^ 31 → c < 2 ^ 31 → d < 2 ^ 31 → sum_peak m a b n c d < limit
small_peak m a b n c d h i j k =
    let b_rest : b / gcd b d < 2 ^ 31 = quotient_below (b / gcd b d) b (gcd b d) (2 ^ 31) refl i in
    let d_rest : d / gcd b d < 2 ^ 31 = quotient_below (d / gcd b d) d (gcd b d) (2 ^ 31) refl k in
    let left : a * (d / gcd b d) < 2 ^ 62 = small_times a (d / gcd b d) h d_rest in
    let right : c * (b / gcd b d) < 2 ^ 62 = small_times c (b / gcd b d) j b_rest in
    let bottom : (b / gcd b d) * d < 2 ^ 62 = small_times (b / gcd b d) d b_rest k in
    let top : nat_abs (signed m (a * (d / gcd b d)) +ℤ signed n (c * (b / gcd b d))) ≤ a * (d / gcd b d) + c * (b / gcd b d) = nat_abs-sum m n (a * (d / gcd b d)) (c * (b / gcd b d)) in
    omega arith
