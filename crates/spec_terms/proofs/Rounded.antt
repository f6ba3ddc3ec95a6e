-- Quotients of whole numbers between their neighbours, and what they leave.
use Rattle.std.proofs.Common.{◌≡◌, ◌≢◌, ℕ, zero, suc, ◌/◌, ◌%◌, ◌<◌, [], ◌∷◌, ℤ, pos, negsuc, neg_ℤ, nat_abs, ◌+ℤ◌, ◌-ℤ◌, ◌*ℤ◌, ◌≤ℤ◌, ◌<ℤ◌, arith, refl, ap, sym, ◌∙◌, subst, mul_comm, ◌⊎◌, inl, inr}
use Rattle.std.specs.Prelude.{int_div, int_rem}
use Rattle.std.proofs.Math.Nat.{div-add-mod, mod-le, zero-div}
use Rattle.std.proofs.lemmas.Int.{ints, quot-rem, rem_below}
use borrow.Author.Differences.{product_is}
use Rattle.spec_numbers.specs.Rational.{ℚ, denominator, int_ℚ, ◌≤ℚ◌, ◌<ℚ◌}
use Rattle.spec_numbers.proofs.Gcd.{coprime_one}
use Rattle.spec_numbers.proofs.RationalLemmas.{ratio_back}
use Rattle.spec_numbers.proofs.Order.{lt_or_le, lt_to_cross, lt_from_cross}
use Rattle.spec_numbers.proofs.Ring.{var, int, ◌⊕◌, ◌⊗◌, minus}
use Rattle.spec_numbers.proofs.IntRing.{ring_ℤ}
use Rattle.spec_terms.specs.Rounding.{floor, ceiling, floor_quotient, floor_division, whole_quotient, remainder, modulo}

-- times d the quotient is at most n, and n is less than d above it
pub record IsFloor (n : ℤ) (d : ℕ) (z : ℤ) : Type 0 where
  pub below : (z *ℤ pos d) ≤ℤ n
  pub above : n <ℤ (z *ℤ pos d +ℤ pos d)

pub floor_quotient_is : (n : ℤ) (d : ℕ) → 0 < d → IsFloor n d (floor_quotient n d)
floor_quotient_is (pos n) d h =
    let e = div-add-mod n d in
    record {
      below = omega (arith, ints, mul_comm (n / d) d);
      above = omega (arith, ints, mul_comm (n / d) d);
    }
floor_quotient_is (negsuc n) d h =
    let e = div-add-mod n d in
    let p = product_is (negsuc (n / d)) (pos d) in
    record {
      below = omega (arith, ints, mul_comm (n / d) d);
      above = omega (arith, ints, mul_comm (n / d) d);
    }

-- what is left of m
pub divided_back : (m n : ℤ) → whole_quotient m n *ℤ n +ℤ remainder m n ≡ m
divided_back m n = ring_ℤ (whole_quotient m n ∷ n ∷ m ∷ []) ((var 0 ⊗ var 1) ⊕ (var 2 ⊕ minus (var 0 ⊗ var 1))) (var 2) refl

pub remainder_is : (m n : ℤ) → remainder m n ≡ int_rem m n
remainder_is m n = let e = quot-rem m n in let d = divided_back m n in omega (arith, ints)

pub modulo_positive : (m : ℤ) (d : ℕ) → 0 < d → (pos 0 ≤ℤ modulo m (pos d)) × (modulo m (pos d) <ℤ pos d)
modulo_positive m d h =
    let f = floor_quotient_is m d h in
    let b = f.below in
    let a = f.above in
    (omega (arith, ints), omega (arith, ints))

pub modulo_negative : (m : ℤ) (d : ℕ) → (negsuc d <ℤ modulo m (negsuc d)) × (modulo m (negsuc d) ≤ℤ pos 0)
modulo_negative m d =
    let f = floor_quotient_is (neg_ℤ m) (suc d) (omega arith) in
    let b = f.below in
    let a = f.above in
    let e : floor_division m (negsuc d) *ℤ negsuc d ≡ neg_ℤ (floor_division m (negsuc d) *ℤ pos (suc d)) =
    ring_ℤ (floor_division m (negsuc d) ∷ pos (suc d) ∷ []) (var 0 ⊗ minus (var 1)) (minus (var 0 ⊗ var 1)) refl in
    (omega (arith, ints), omega (arith, ints))

remainder_sign : (m n : ℤ) → (pos 0 ≤ℤ m → pos 0 ≤ℤ int_rem m n) × (m ≤ℤ pos 0 → int_rem m n ≤ℤ pos 0)
remainder_sign (pos zero) n = (λ h. omega (arith, ints), λ h. below_zero (nat_abs n))
  where
    below_zero : (d : ℕ) → pos (0 % d) ≤ℤ pos 0
    below_zero d = let k = mod-le 0 d in omega (arith, ints)
remainder_sign (pos (suc m)) n = (λ h. omega (arith, ints), λ h. absurd (omega (arith, ints)))
remainder_sign (negsuc m) n = (λ h. absurd (omega (arith, ints)), λ h. negative (suc m % nat_abs n))
  where
    negative : (k : ℕ) → neg_ℤ (pos k) ≤ℤ pos 0
    negative zero = omega (arith, ints)
    negative (suc k) = omega (arith, ints)

pub remainder_not_negative : (m n : ℤ) → pos 0 ≤ℤ m → pos 0 ≤ℤ remainder m n
remainder_not_negative m n h = subst (λ z. pos 0 ≤ℤ z) (sym (remainder_is m n)) ((remainder_sign m n).0 h)

pub remainder_not_positive : (m n : ℤ) → m ≤ℤ pos 0 → remainder m n ≤ℤ pos 0
remainder_not_positive m n h = subst (λ z. z ≤ℤ pos 0) (sym (remainder_is m n)) ((remainder_sign m n).1 h)

some_size : (n : ℤ) → n ≢ pos 0 → 0 < nat_abs n
some_size (pos zero) h = absurd (h refl)
some_size (pos (suc n)) h = omega arith
some_size (negsuc n) h = omega arith

pub remainder_smaller : (m n : ℤ) → n ≢ pos 0 → nat_abs (remainder m n) < nat_abs n
remainder_smaller m n h = subst (λ z. nat_abs z < nat_abs n) (sym (remainder_is m n)) (rem_below m n (some_size n h))

pub divided_down : (m n : ℤ) → floor_division m n *ℤ n +ℤ modulo m n ≡ m
divided_down m n = ring_ℤ (floor_division m n ∷ n ∷ m ∷ []) ((var 0 ⊗ var 1) ⊕ (var 2 ⊕ minus (var 0 ⊗ var 1))) (var 2) refl

pub over_positive : (m n : ℤ) → pos 0 <ℤ n → (pos 0 ≤ℤ modulo m n) × (modulo m n <ℤ n)
over_positive m (pos d) h = modulo_positive m d (omega (arith, ints))
over_positive m (negsuc d) h = absurd (omega (arith, ints))

pub over_negative : (m n : ℤ) → n <ℤ pos 0 → (n <ℤ modulo m n) × (modulo m n ≤ℤ pos 0)
over_negative m (pos d) h = absurd (omega (arith, ints))
over_negative m (negsuc d) h = modulo_negative m d

-- ---- rationals between whole numbers
-- a whole number by its parts
abbrev pub whole_number : ℤ → ℚ
whole_number z = record { numerator = z; below = 0; lowest = coprime_one (nat_abs z) }

pub int_ℚ-is : (z : ℤ) → int_ℚ z ≡ whole_number z
unfolding int_ℚ
int_ℚ-is z = ratio_back (whole_number z)

times_one : (z : ℤ) → z *ℤ pos 1 ≡ z
times_one z = ring_ℤ (z ∷ []) (var 0 ⊗ int (pos 1)) (var 0) refl

le_by_cross : (p q : ℚ) → (p.numerator *ℤ pos (denominator q)) ≤ℤ (q.numerator *ℤ pos (denominator p)) → p ≤ℚ q
le_by_cross p q h = go (lt_or_le q p)
  where
    go : (q <ℚ p) ⊎ (p ≤ℚ q) → p ≤ℚ q
    go (inl k) = let c = lt_to_cross q p k in absurd (omega (arith, ints))
    go (inr k) = k

module _ (z : ℤ) (q : ℚ) where
  pub at_most : (z *ℤ pos (denominator q)) ≤ℤ q.numerator → int_ℚ z ≤ℚ q
  at_most h = subst (λ p. p ≤ℚ q) (sym (int_ℚ-is z)) (le_by_cross (whole_number z) q (subst (λ n. (z *ℤ pos (denominator q)) ≤ℤ n) (sym (times_one q.numerator)) h))

  pub at_least : q.numerator ≤ℤ (z *ℤ pos (denominator q)) → q ≤ℚ int_ℚ z
  at_least h = subst (λ p. q ≤ℚ p) (sym (int_ℚ-is z)) (le_by_cross q (whole_number z) (subst (λ n. n ≤ℤ (z *ℤ pos (denominator q))) (sym (times_one q.numerator)) h))

  pub less : (z *ℤ pos (denominator q)) <ℤ q.numerator → int_ℚ z <ℚ q
  less h = subst (λ p. p <ℚ q) (sym (int_ℚ-is z)) (lt_from_cross (whole_number z) q (subst (λ n. (z *ℤ pos (denominator q)) <ℤ n) (sym (times_one q.numerator)) h))

  pub greater : q.numerator <ℤ (z *ℤ pos (denominator q)) → q <ℚ int_ℚ z
  greater h = subst (λ p. q <ℚ p) (sym (int_ℚ-is z)) (lt_from_cross q (whole_number z) (subst (λ n. n <ℤ (z *ℤ pos (denominator q))) (sym (times_one q.numerator)) h))

pub floor_between : (q : ℚ) → (int_ℚ (floor q) ≤ℚ q) × (q <ℚ int_ℚ (floor q +ℤ pos 1))
floor_between q =
    let f = floor_quotient_is q.numerator (denominator q) (omega arith) in
    let e : (floor q +ℤ pos 1) *ℤ pos (denominator q) ≡ floor q *ℤ pos (denominator q) +ℤ pos (denominator q) =
    ring_ℤ (floor q ∷ pos (denominator q) ∷ []) ((var 0 ⊕ int (pos 1)) ⊗ var 1) ((var 0 ⊗ var 1) ⊕ var 1) refl in
    (at_most (floor q) q f.below, greater (floor q +ℤ pos 1) q (subst (λ n. q.numerator <ℤ n) (sym e) f.above))

pub ceiling_between : (q : ℚ) → (q ≤ℚ int_ℚ (ceiling q)) × (int_ℚ (ceiling q -ℤ pos 1) <ℚ q)
ceiling_between q =
    let z = floor_quotient (neg_ℤ q.numerator) (denominator q) in
    let f = floor_quotient_is (neg_ℤ q.numerator) (denominator q) (omega arith) in
    let b = f.below in
    let a = f.above in
    let e : ceiling q *ℤ pos (denominator q) ≡ neg_ℤ (floor_quotient (neg_ℤ q.numerator) (denominator q) *ℤ pos (denominator q)) =
    ring_ℤ (floor_quotient (neg_ℤ q.numerator) (denominator q) ∷ pos (denominator q) ∷ []) (minus (var 0) ⊗ var 1) (minus (var 0 ⊗ var 1)) refl in
    let d : (ceiling q -ℤ pos 1) *ℤ pos (denominator q) ≡ neg_ℤ (floor_quotient (neg_ℤ q.numerator) (denominator q) *ℤ pos (denominator q) +ℤ pos (denominator q)) =
    ring_ℤ (floor_quotient (neg_ℤ q.numerator) (denominator q) ∷ pos (denominator q) ∷ []) ((minus (var 0) ⊕ minus (int (pos 1))) ⊗ var 1) (minus ((var 0 ⊗ var 1) ⊕ var 1)) refl in
    (at_least (ceiling q) q (subst (λ n. q.numerator ≤ℤ n) (sym e) (omega (arith, ints))), less (ceiling q -ℤ pos 1) q (subst (λ n. n <ℤ q.numerator) (sym d) (omega (arith, ints))))

-- for a number and its denominator
pub truncated_down : (n : ℤ) (d : ℕ) → pos 0 ≤ℤ n → int_div n (pos d) ≡ floor_quotient n d
truncated_down (pos n) d h = refl
truncated_down (negsuc n) d h = absurd (omega (arith, ints))

pub truncated_up : (n : ℤ) (d : ℕ) → n ≤ℤ pos 0 → int_div n (pos d) ≡ neg_ℤ (floor_quotient (neg_ℤ n) d)
truncated_up (pos zero) d h = up_zero d
  where
    up_zero : (d : ℕ) → pos (0 / d) ≡ neg_ℤ (pos (0 / d))
    up_zero d = ap pos (zero-div d) ∙ sym (ap (λ n. neg_ℤ (pos n)) (zero-div d))
truncated_up (pos (suc n)) d h = absurd (omega (arith, ints))
truncated_up (negsuc n) d h = refl
