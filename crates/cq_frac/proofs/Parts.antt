-- A quotient by the parts that a common divisor leaves.
use Rattle.std.proofs.Common.{◌≡◌, ℕ, suc, zero, ◌*◌, ◌-◌, ◌<◌, ◌≤◌, ◌/◌, Bool, true, false, not, ltb, ℤ, pos, negsuc, neg_ℤ, nat_abs, arith, refl, ap, ap₂, sym, ◌∙◌, subst, ◌⊎◌, inl, inr, ◌↔◌}
use Rattle.std.proofs.lemmas.Bool.Decides.{nat_tests}
use Rattle.std.proofs.Math.Nat.{mul-div_cancel'}
use mathlib.Core.Bool.{beq}
use lib.Signed.{lt_z}
use Rattle.spec_numbers.specs.Gcd.{gcd, gcd_is, gcd_pos, gcd-quotients}
use Rattle.spec_numbers.specs.Rational.{ℚ, denominator, ratio, quotient, neg_ℚ}
use Rattle.spec_numbers.proofs.RationalLemmas.{ratio_same, ratio_back, ratio-neg}
use Rattle.cq_frac.specs.Fits.{signed, Exceeds, Fits, limit}

quotient_pos : (g b : ℕ) → 0 < b → g * (b / g) ≡ b → 0 < b / g
quotient_pos g b h e = go (b / g) e
  where
    go : (m : ℕ) → g * m ≡ b → 0 < m
    go zero e = absurd (omega arith)
    go (suc m) e = omega arith

pub bottom_pos : (a b : ℕ) → 0 < b → 0 < b / gcd a b
bottom_pos a b h = quotient_pos (gcd a b) b h (mul-div_cancel' (gcd a b) (gcd_is a b).1)

pub cross : (a b g x y : ℕ) → g * x ≡ a → g * y ≡ b → x * b ≡ a * y
cross a b g x y e f = rw (← e, ← f) (omega arith)

pub cut : (a b : ℕ) → 0 < b → ratio (pos (a / gcd a b)) (b / gcd a b) ≡ ratio (pos a) b
cut a b h =
    let g = gcd a b in
    ratio_same (pos (a / g)) (pos a) (b / g) b (bottom_pos a b h) h
    (ap pos (cross a b g (a / g) (b / g) (mul-div_cancel' g (gcd_is a b).0) (mul-div_cancel' g (gcd_is a b).1)))

pub cut_neg : (a b : ℕ) → 0 < b → ratio (neg_ℤ (pos (a / gcd a b))) (b / gcd a b) ≡ ratio (neg_ℤ (pos a)) b
cut_neg a b h = sym (ratio-neg (pos (a / gcd a b)) (b / gcd a b) (bottom_pos a b h)) ∙ ap neg_ℚ (cut a b h) ∙ ratio-neg (pos a) b h

not_below_zero : (a : ℕ) → ltb a 0 ≡ false
not_below_zero a = grind (arith, nat_tests)

abbrev pub unlike : ℤ → ℤ → Bool
unlike n d = not (beq (lt_z n (pos 0)) (lt_z d (pos 0)))

pub parts_ratio : (n d : ℤ) → 0 < nat_abs d → ratio (signed (unlike n d) (nat_abs n / gcd (nat_abs n) (nat_abs d))) (nat_abs d / gcd (nat_abs n) (nat_abs d)) ≡ quotient n d
parts_ratio (pos a) (pos b) h = rw (not_below_zero a, not_below_zero b) (cut a b h)
parts_ratio (pos a) (negsuc b) h = rw (not_below_zero a) (cut_neg a (suc b) h)
parts_ratio (negsuc a) (pos b) h = rw (not_below_zero b) (cut_neg (suc a) b h)
parts_ratio (negsuc a) (negsuc b) h = cut (suc a) (suc b) h

pub nat_abs-signed : (s : Bool) (a : ℕ) → nat_abs (signed s a) ≡ a
nat_abs-signed true zero = refl
nat_abs-signed true (suc a) = refl
nat_abs-signed false a = refl

pub lowest_parts : (s : Bool) (a b : ℕ) → 0 < b → gcd a b ≡ 1 → (nat_abs (ratio (signed s a) b).numerator ≡ a) × (denominator (ratio (signed s a) b) ≡ b)
lowest_parts s a zero h e = absurd (omega arith)
lowest_parts s a (suc b) h e =
    let q : ratio (signed s a) (suc b) ≡ record { numerator = signed s a; below = b; lowest = ap (λ x. gcd x (suc b)) (nat_abs-signed s a) ∙ e } =
    ratio_back (record { numerator = signed s a; below = b; lowest = ap (λ x. gcd x (suc b)) (nat_abs-signed s a) ∙ e }) in
    (ap (λ (x : ℚ). nat_abs x.numerator) q ∙ nat_abs-signed s a, ap denominator q)

pub exceeds_parts : (q : ℚ) (s : Bool) (a b : ℕ) → 0 < b → gcd a b ≡ 1 → ratio (signed s a) b ≡ q → ((limit ≤ a) ⊎ (limit ≤ b)) ↔ Exceeds q
exceeds_parts q s a b h e w =
    let l = lowest_parts s a b h e in
    let m : nat_abs q.numerator ≡ a = ap (λ (x : ℚ). nat_abs x.numerator) (sym w) ∙ l.0 in
    let k : denominator q ≡ b = ap denominator (sym w) ∙ l.1 in (
      (λ z. elim z [ inl x ↦ inl (subst (λ y. limit ≤ y) (sym m) x) | inr x ↦ inr (subst (λ y. limit ≤ y) (sym k) x) ]),
      (λ z. elim z [ inl x ↦ inl (subst (λ y. limit ≤ y) m x) | inr x ↦ inr (subst (λ y. limit ≤ y) k x) ]),
    )

pub fits_parts : (q : ℚ) (s : Bool) (a b : ℕ) → 0 < b → gcd a b ≡ 1 → ratio (signed s a) b ≡ q → a < limit → b < limit → Fits q
fits_parts q s a b h e w m n =
    let l = lowest_parts s a b h e in record {
      num_fits = subst (λ x. x < limit) (sym l.0 ∙ ap (λ (x : ℚ). nat_abs x.numerator) w) m;
      den_fits = subst (λ x. x < limit) (sym l.1 ∙ ap denominator w) n;
    }

pub fits_not_exceeds : (q : ℚ) → Fits q → Exceeds q → ⊥
fits_not_exceeds q f (inl x) = let y = f.num_fits in omega arith
fits_not_exceeds q f (inr x) = let y = f.den_fits in omega arith

pub abs_pos : (d : ℤ) → (d ≡ pos 0 → ⊥) → 0 < nat_abs d
abs_pos (pos zero) h = absurd (h refl)
abs_pos (pos (suc d)) h = omega arith
abs_pos (negsuc d) h = omega arith

-- the same, of what the code computes: n' and d' are n and d read from their bits
pub record Read (n d n' d' : ℤ) (t b g : ℕ) : Type 0 where
  pub top_read : n' ≡ n
  pub bottom_read : d' ≡ d
  pub top_is : t ≡ nat_abs n'
  pub bottom_is : b ≡ nat_abs d'
  pub gcd_is : g ≡ gcd t b
  pub nonzero : d ≡ pos 0 → ⊥

module _ {n d n' d' : ℤ} {t b g : ℕ} (c : Read n d n' d' t b g) where
  d_pos : 0 < nat_abs d
  d_pos = abs_pos d c.nonzero

  b_pos : 0 < b
  b_pos = rw (c.bottom_is, c.bottom_read) d_pos

  pub g_pos : 0 < g
  g_pos = rw c.gcd_is (gcd_pos t b b_pos)

  coprime : gcd (t / g) (b / g) ≡ 1
  coprime = rw c.gcd_is (gcd-quotients t b b_pos)

  left_pos : 0 < b / g
  left_pos = rw c.gcd_is (bottom_pos t b b_pos)

  value : ratio (signed (unlike n' d') (t / g)) (b / g) ≡ quotient n d
  value =
      let te : t ≡ nat_abs n = c.top_is ∙ ap nat_abs c.top_read in
      let be : b ≡ nat_abs d = c.bottom_is ∙ ap nat_abs c.bottom_read in
      rw (c.gcd_is, te, be, c.top_read, c.bottom_read) (parts_ratio n d d_pos)

-- what the code's test of two parts says
pub past : {x y : ℕ} → (limit - 1 < x) ⊎ ((x ≤ limit - 1) × (limit - 1 < y)) → (limit ≤ x) ⊎ (limit ≤ y)
past (inl h) = inl (omega arith)
past (inr h) = inr (omega (arith, h.1))

-- x and y are the parts that are left
pub record Cut (n d n' d' : ℤ) (t b g x y : ℕ) : Type 0 where
  pub read : Read n d n' d' t b g
  pub x_is : x ≡ t / g
  pub y_is : y ≡ b / g

module _ {n d n' d' : ℤ} {t b g x y : ℕ} (c : Cut n d n' d' t b g x y) where
  pub cut-coprime : gcd x y ≡ 1
  cut-coprime = ap₂ gcd c.x_is c.y_is ∙ coprime c.read

  pub cut-pos : 0 < y
  cut-pos = rw c.y_is (left_pos c.read)

  pub cut-value : ratio (signed (unlike n' d') x) y ≡ quotient n d
  cut-value = ap₂ (λ v w. ratio (signed (unlike n' d') v) w) c.x_is c.y_is ∙ value c.read

  pub cut-exceeds : (limit ≤ x) ⊎ (limit ≤ y) → Exceeds (quotient n d)
  cut-exceeds h = (exceeds_parts (quotient n d) (unlike n' d') x y cut-pos cut-coprime cut-value).0 h

  pub cut-fits : x < limit → y < limit → Fits (quotient n d)
  cut-fits h k = fits_parts (quotient n d) (unlike n' d') x y cut-pos cut-coprime cut-value h k
