-- A product by parts that are cancelled crosswise.
use Rattle.std.proofs.Common.{◌≡◌, ℕ, [], ◌∷◌, ◌*◌, ◌<◌, ◌≤◌, ◌/◌, Bool, true, false, not, ℤ, pos, negsuc, ◌*ℤ◌, nat_abs, arith, refl, ap, ap₂, sym, ◌∙◌, subst, ◌⊎◌, int_lt, mul-pos, zero-lt-suc}
use Rattle.std.proofs.Math.Nat.{mul-div_cancel', dvd-mul_right, div-mul_cancel}
use Rattle.std.specs.Int.{◌∣◌}
use Rattle.spec_numbers.proofs.Ring.{var, ◌⊗◌, minus}
use Rattle.spec_numbers.proofs.IntRing.{ring_ℤ}
use mathlib.Core.Bool.{beq}
use Rattle.spec_numbers.specs.Gcd.{gcd, gcd_is, gcd-quotients}
use Rattle.spec_numbers.specs.Rational.{ℚ, denominator, ratio, neg_ℚ, ◌*ℚ◌}
use Rattle.spec_numbers.proofs.Gcd.{coprime_products, coprime_parts}
use Rattle.spec_numbers.proofs.RationalLemmas.{ratio_same, ratio-neg, ratio-mul, ratio_back}
use Rattle.cq_frac.specs.Cancelled.{product_top, product_bottom}
use Rattle.cq_frac.specs.Fits.{signed, Exceeds, Fits, limit}
use Rattle.cq_frac.proofs.Parts.{exceeds_parts, fits_parts, bottom_pos}

abbrev pub unlike : Bool → Bool → Bool
unlike s t = not (beq s t)

pub signed_back : (z : ℤ) → signed (int_lt z (pos 0)) (nat_abs z) ≡ z
signed_back (pos n) = go (int_lt (pos n) (pos 0)) (grind arith)
  where
    go : (b : Bool) → b ≡ false → signed b n ≡ pos n
    go false e = refl
    go true e = cc
signed_back (negsuc n) = refl

pub signed-mul : (s t : Bool) (a c : ℕ) → signed s a *ℤ signed t c ≡ signed (unlike s t) (a * c)
signed-mul false false a c = refl
signed-mul false true a c = ring_ℤ (pos a ∷ pos c ∷ []) (var 0 ⊗ minus (var 1)) (minus (var 0 ⊗ var 1)) refl
signed-mul true false a c = ring_ℤ (pos a ∷ pos c ∷ []) (minus (var 0) ⊗ var 1) (minus (var 0 ⊗ var 1)) refl
signed-mul true true a c = ring_ℤ (pos a ∷ pos c ∷ []) (minus (var 0) ⊗ minus (var 1)) (var 0 ⊗ var 1) refl

pub signed_same : (s : Bool) (a c b d : ℕ) → 0 < b → 0 < d → a * d ≡ c * b → ratio (signed s a) b ≡ ratio (signed s c) d
signed_same false a c b d h k e = ratio_same (pos a) (pos c) b d h k (ap pos e)
signed_same true a c b d h k e = sym (ratio-neg (pos a) b h) ∙ ap neg_ℚ (ratio_same (pos a) (pos c) b d h k (ap pos e)) ∙ ratio-neg (pos c) d k

pub part_dvd : (a g : ℕ) → g ∣ a → a / g ∣ a
part_dvd a g h = subst (λ x. a / g ∣ x) (div-mul_cancel g h) (dvd-mul_right (a / g) g)

regroup : (a b c d g h w x y z : ℕ) → g * w ≡ a → g * z ≡ d → h * x ≡ c → h * y ≡ b → (w * x) * (b * d) ≡ (a * c) * (y * z)
regroup a b c d g h w x y z e f i j = rw (← e, ← f, ← i, ← j) (omega arith)

-- the numbers of the code are the parts of p and q
pub record Crossed (p q : ℚ) (a b c d : ℕ) : Type 0 where
  pub a_is : a ≡ nat_abs p.numerator
  pub b_is : b ≡ denominator p
  pub c_is : c ≡ nat_abs q.numerator
  pub d_is : d ≡ denominator q

module _ {p q : ℚ} {a b c d : ℕ} (r : Crossed p q a b c d) where
  b_pos : 0 < b
  b_pos = rw r.b_is (zero-lt-suc p.below)

  d_pos : 0 < d
  d_pos = rw r.d_is (zero-lt-suc q.below)

  coprime : gcd (product_top a b c d) (product_bottom a b c d) ≡ 1
  coprime =
      let u = gcd_is a d in
      let v = gcd_is c b in
      coprime_products (a / gcd a d) (c / gcd c b) (b / gcd c b) (d / gcd a d)
      (coprime_parts (a / gcd a d) (b / gcd c b) a b (part_dvd a (gcd a d) u.0) (part_dvd b (gcd c b) v.1) (rw (r.a_is, r.b_is) p.lowest))
      (gcd-quotients a d d_pos)
      (gcd-quotients c b b_pos)
      (coprime_parts (c / gcd c b) (d / gcd a d) c d (part_dvd c (gcd c b) v.0) (part_dvd d (gcd a d) u.1) (rw (r.c_is, r.d_is) q.lowest))

  bottom_above : 0 < product_bottom a b c d
  bottom_above = mul-pos (bottom_pos c b b_pos) (bottom_pos a d d_pos)

  abbrev negative : Bool
  negative = unlike (int_lt p.numerator (pos 0)) (int_lt q.numerator (pos 0))

  value : ratio (signed negative (product_top a b c d)) (product_bottom a b c d) ≡ p *ℚ q
  value =
      let u = gcd_is a d in
      let v = gcd_is c b in
      signed_same negative (product_top a b c d) (a * c) (product_bottom a b c d) (b * d) bottom_above (mul-pos b_pos d_pos)
      (regroup a b c d (gcd a d) (gcd c b) (a / gcd a d) (c / gcd c b) (b / gcd c b) (d / gcd a d) (mul-div_cancel' (gcd a d) u.0) (mul-div_cancel' (gcd a d) u.1) (mul-div_cancel' (gcd c b) v.0) (mul-div_cancel' (gcd c b) v.1))
      ∙ ap₂ ratio
      (sym (signed-mul (int_lt p.numerator (pos 0)) (int_lt q.numerator (pos 0)) a c)
      ∙ ap₂ (λ x y. x *ℤ y)
      (ap (signed (int_lt p.numerator (pos 0))) r.a_is ∙ signed_back p.numerator)
      (ap (signed (int_lt q.numerator (pos 0))) r.c_is ∙ signed_back q.numerator))
      (ap₂ (λ x y. x * y) r.b_is r.d_is)
      ∙ sym (ratio-mul p.numerator q.numerator (denominator p) (denominator q) (zero-lt-suc p.below) (zero-lt-suc q.below))
      ∙ ap₂ (λ x y. x *ℚ y) (ratio_back p) (ratio_back q)

  pub exceeds : (limit ≤ product_top a b c d) ⊎ (limit ≤ product_bottom a b c d) → Exceeds (p *ℚ q)
  exceeds e = (exceeds_parts (p *ℚ q) negative (product_top a b c d) (product_bottom a b c d) bottom_above coprime value).0 e

  pub fits : product_top a b c d < limit → product_bottom a b c d < limit → Fits (p *ℚ q)
  fits h k = fits_parts (p *ℚ q) negative (product_top a b c d) (product_bottom a b c d) bottom_above coprime value h k

  -- m and n are the parts that are left
  module _ {m n : ℕ} (e : m ≡ product_top a b c d) (f : n ≡ product_bottom a b c d) where
    pub made-coprime : gcd m n ≡ 1
    made-coprime = ap₂ gcd e f ∙ coprime

    pub made-pos : 0 < n
    made-pos = rw f bottom_above

    pub made-value : (s t : Bool) → s ≡ int_lt p.numerator (pos 0) → t ≡ int_lt q.numerator (pos 0) → ratio (signed (unlike s t) m) n ≡ p *ℚ q
    made-value s t i j = ap₂ (λ k l. ratio (signed k l) n) (ap₂ unlike i j) e ∙ ap (λ l. ratio (signed negative (product_top a b c d)) l) f ∙ value
