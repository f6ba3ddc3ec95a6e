-- Greatest common divisors by halving.
use Rattle.std.proofs.Common.{◌≡◌, ℕ, zero, suc, ◌+◌, ◌-◌, ◌*◌, ◌/◌, ◌%◌, ◌^◌, ◌<◌, ◌≤◌, min, mod-eq_of_lt, arith, refl, ap, ap₂, sym, subst, ◌∙◌, mul_comm, ◌⊎◌, inl, inr}
use Rattle.std.specs.Int.{IsGcd, ◌∣◌, Width, trailing_zeros, bit_at, abs_diff}
use Rattle.std.proofs.Math.Nat.{dvd_refl, eq-one_of_dvd-one, dvd-mul_right_of_dvd, mul-dvd-mul_right, le_of_dvd}
use Rattle.std.proofs.lemmas.Nat.{pow-add, shr_split, mod-pow-add}
use Rattle.std.proofs.lemmas.Nat.Bits.{bit_at-trailing_zeros}
use Rattle.std.proofs.lemmas.Nat.Gcd.{IsGcd-from_sub, same_from_IsGcd}
use Rattle.std.proofs.lemmas.Bool.{cases_lt}
use mir.Val.{bits}
use Rattle.spec_numbers.specs.Gcd.{gcd, gcd_is, gauss, dvd_gcd_within_mul}
use Rattle.spec_numbers.proofs.Gcd.{gcd_comm, gcd-mod, coprime_mul, coprime_parts}

-- ---- the factors 2

-- what has its k lowest bits clear is a multiple of 2 ^ k
low_clear : (n k : ℕ) → ((i : ℕ) → i < k → bit_at n i ≡ 0) → n % 2 ^ k ≡ 0
low_clear n zero h = omega arith
low_clear n (suc k) h =
    let r : n % 2 ^ k ≡ 0 = low_clear n k (λ i l. h i (omega arith)) in
    let b : n / 2 ^ k % 2 ^ 1 ≡ 0 = h k (omega arith) in
    let e : suc k ≡ 1 + k = omega arith in
    ap (λ j. n % 2 ^ j) e ∙ mod-pow-add n 1 k ∙ ap₂ (λ x y. x * 2 ^ k + y) b r ∙ omega arith

pub odd_part-rest : (w : Width) (n : ℕ) → 0 < n → n < 2 ^ bits w → n / 2 ^ trailing_zeros w n * 2 ^ trailing_zeros w n ≡ n
odd_part-rest w n p h =
    let r : n % 2 ^ trailing_zeros w n ≡ 0 = low_clear n (trailing_zeros w n) (bit_at-trailing_zeros w n p h).2 in
    omega (arith, shr_split n (trailing_zeros w n), r)

-- what is shifted to the left and fits
pub shifted : (w : Width) (n k g : ℕ) → n * 2 ^ k ≡ g → g < 2 ^ bits w → n * 2 ^ k % 2 ^ bits w ≡ g
shifted w n k g e h = ap (λ x. x % 2 ^ bits w) e ∙ mod-eq_of_lt h

-- ---- small cases

pub gcd-one : (a b : ℕ) → (a ≡ 1) ⊎ (b ≡ 1) → 1 ≡ gcd a b
gcd-one a b (inl e) = sym (eq-one_of_dvd-one (subst (λ x. gcd a b ∣ x) e (gcd_is a b).0))
gcd-one a b (inr e) = sym (eq-one_of_dvd-one (subst (λ x. gcd a b ∣ x) e (gcd_is a b).1))

pub gcd_same : (x y : ℕ) → x ≡ y → x ≡ gcd x y
gcd_same x y e = sym (same_from_IsGcd x y (gcd x y) x (gcd_is x y) (dvd_refl x, subst (λ z. x ∣ z) e (dvd_refl x), λ d f g. f))

-- ---- odd numbers

odd_two : (m : ℕ) → m % 2 ≡ 1 → gcd 2 m ≡ 1
unfolding gcd
odd_two m h = gcd_comm 2 m ∙ gcd-mod m 2 ∙ ap (λ x. gcd 2 x) h

odd_pow : (k m : ℕ) → m % 2 ≡ 1 → gcd (2 ^ k) m ≡ 1
unfolding gcd
odd_pow zero m h = gcd_comm (2 ^ 0) m ∙ gcd-mod m 1 ∙ ap (λ x. gcd 1 x) (mod_one m)
  where
    mod_one : (m : ℕ) → m % 1 ≡ 0
    mod_one m = omega arith
odd_pow (suc k) m h = let e : 2 ^ suc k ≡ 2 * 2 ^ k = omega arith in ap (λ x. gcd x m) e ∙ coprime_mul 2 (2 ^ k) m (odd_two m h) (odd_pow k m h)

-- a factor 2 of the other number does not change the divisors
pub odd_gcd-twos : (m x k : ℕ) → m % 2 ≡ 1 → gcd m (x * 2 ^ k) ≡ gcd m x
odd_gcd-twos m x k h =
    let u = gcd_is m (x * 2 ^ k) in
    let v = gcd_is m x in
    let p : gcd (2 ^ k) (gcd m (x * 2 ^ k)) ≡ 1 = coprime_parts (2 ^ k) (gcd m (x * 2 ^ k)) (2 ^ k) m (dvd_refl (2 ^ k)) u.0 (odd_pow k m h) in
    let d : gcd m (x * 2 ^ k) ∣ x = gauss (2 ^ k) (gcd m (x * 2 ^ k)) x p (subst (λ y. gcd m (x * 2 ^ k) ∣ y) (mul_comm x (2 ^ k)) u.1) in
    same_from_IsGcd m x (gcd m (x * 2 ^ k)) (gcd m x) (u.0, d, λ e f g. u.2 e f (dvd-mul_right_of_dvd e g (2 ^ k))) v

times : (a b c : ℕ) → IsGcd a b (gcd a b) → IsGcd (a * c) (b * c) (gcd a b * c)
unfolding gcd
times a b c h = (mul-dvd-mul_right (gcd a b) h.0 c, mul-dvd-mul_right (gcd a b) h.1 c, λ d e f. dvd_gcd_within_mul (suc b) a b c d (omega arith) e f)

pub gcd-mul : (a b c : ℕ) → gcd (a * c) (b * c) ≡ gcd a b * c
gcd-mul a b c = same_from_IsGcd (a * c) (b * c) (gcd (a * c) (b * c)) (gcd a b * c) (gcd_is (a * c) (b * c)) (times a b c (gcd_is a b))

one_left : (j k : ℕ) → (j - min j k ≡ 0) ⊎ (k - min j k ≡ 0)
one_left j k = elim (cases_lt j k) [ inl h ↦ inl (omega arith) | inr h ↦ inr (omega arith) ]

-- two numbers by their odd parts
pub gcd-halved : (a b x y j k : ℕ) → x * 2 ^ j ≡ a → y * 2 ^ k ≡ b → x % 2 ≡ 1 → y % 2 ≡ 1 → gcd a b ≡ gcd x y * 2 ^ min j k
gcd-halved a b x y j k e f p q = go (min j k) (j - min j k) (k - min j k) (omega arith) (omega arith) (one_left j k)
  where
    go : (m s t : ℕ) → j ≡ s + m → k ≡ t + m → (s ≡ 0) ⊎ (t ≡ 0) → gcd a b ≡ gcd x y * 2 ^ m
    go m s t u v z =
        ap₂ gcd (sym e ∙ ap (λ i. x * 2 ^ i) u ∙ split x s m) (sym f ∙ ap (λ i. y * 2 ^ i) v ∙ split y t m)
        ∙ gcd-mul (x * 2 ^ s) (y * 2 ^ t) (2 ^ m) ∙ ap (λ g. g * 2 ^ m) (one_odd s t z)
      where
        split : (n i j : ℕ) → n * 2 ^ (i + j) ≡ (n * 2 ^ i) * 2 ^ j
        split n i j = ap (λ w. n * w) (pow-add 2 i j) ∙ omega arith

        one_odd : (s t : ℕ) → (s ≡ 0) ⊎ (t ≡ 0) → gcd (x * 2 ^ s) (y * 2 ^ t) ≡ gcd x y
        one_odd s t (inl z) = ap (λ w. gcd w (y * 2 ^ t)) (ap (λ i. x * 2 ^ i) z ∙ omega arith) ∙ odd_gcd-twos x y t p
        one_odd s t (inr z) = ap (λ w. gcd (x * 2 ^ s) w) (ap (λ i. y * 2 ^ i) z ∙ omega arith) ∙ gcd_comm (x * 2 ^ s) y ∙ odd_gcd-twos y x s q ∙ gcd_comm y x

-- ---- the loop

-- what the loop keeps: x and y are odd and have the divisor of a and b
pub record Halved (x y a b : ℕ) : Type 0 where
  pub x_odd : x % 2 ≡ 1
  pub y_odd : y % 2 ≡ 1
  pub same : gcd x y ≡ gcd a b

sub_left : (a b : ℕ) → b ≤ a → gcd a b ≡ gcd (a - b) b
sub_left a b h = same_from_IsGcd a b (gcd a b) (gcd (a - b) b) (gcd_is a b) (IsGcd-from_sub a b (gcd (a - b) b) h (gcd_is (a - b) b))

gap_same : (x y low gap : ℕ) → low ≡ min x y → gap ≡ abs_diff x y → gcd low gap ≡ gcd x y
gap_same x y low gap e f = go (cases_lt x y)
  where
    go : (x < y) ⊎ (y ≤ x) → gcd low gap ≡ gcd x y
    go (inl h) = let u : low ≡ x = omega arith in let v : gap ≡ y - x = omega arith in let l : x ≤ y = omega arith in ap₂ gcd u v ∙ gcd_comm x (y - x) ∙ sym (sub_left y x l) ∙ gcd_comm y x
    go (inr h) = let u : low ≡ y = omega arith in let v : gap ≡ x - y = omega arith in ap₂ gcd u v ∙ gcd_comm y (x - y) ∙ sym (sub_left x y h)

-- one step: the lesser of the two, and the odd part of their gap
pub halve : (x y a b low gap rest k : ℕ) → Halved x y a b → low ≡ min x y → gap ≡ abs_diff x y → rest % 2 ≡ 1 → rest * 2 ^ k ≡ gap → Halved low rest a b
halve x y a b low gap rest k h e f o r = record {
  x_odd = low_odd (cases_lt x y);
  y_odd = o;
  same = sym (odd_gcd-twos low rest k (low_odd (cases_lt x y))) ∙ ap (λ w. gcd low w) r ∙ gap_same x y low gap e f ∙ h.same;
}
  where
    low_odd : (x < y) ⊎ (y ≤ x) → low % 2 ≡ 1
    low_odd (inl l) = let u : low ≡ x = omega arith in ap (λ w. w % 2) u ∙ h.x_odd
    low_odd (inr l) = let u : low ≡ y = omega arith in ap (λ w. w % 2) u ∙ h.y_odd

pub gcd_fits : (a b m : ℕ) → (a ≡ 0 → ⊥) → a < m → gcd a b < m
gcd_fits a b m n h = let p : 0 < a = pos_of a n in let l : gcd a b ≤ a = le_of_dvd p (gcd_is a b).0 in omega arith
  where
    pos_of : (a : ℕ) → (a ≡ 0 → ⊥) → 0 < a
    pos_of zero n = absurd (n refl)
    pos_of (suc a) n = omega arith
