-- Zero, and the number upside down.
use Rattle.std.proofs.Common.{◌≡◌, ℕ, zero, suc, true, false, ℤ, pos, negsuc, neg_ℤ, nat_abs, ◌*ℤ◌, ◌-ℤ◌, int_lt, arith, refl, ap, sym, subst, ◌∙◌, to_z, of_z}
use Rattle.std.proofs.lemmas.Int.{ints}
use Rattle.std.proofs.Math.Nat.{eq-one_of_dvd-one}
use Rattle.std.specs.Int.{◌∣◌}
use mir.Syntax.{w128}
use Rattle.spec_numbers.specs.Gcd.{gcd, gcd_is}
use Rattle.spec_numbers.specs.Rational.{ℚ, 0ℚ, denominator, ratio, int_ℚ, inv_ℚ, inverted}
use Rattle.spec_numbers.proofs.RationalLemmas.{cross_same}
use Rattle.cq_frac.specs.Fits.{IsLowest}
use Rattle.cq_frac.proofs.View.{num_is, den_is, back, minus_back}

pub zero_num : (q : ℚ) → q ≡ 0ℚ → q.numerator ≡ pos 0
unfolding int_ℚ ratio gcd
zero_num q e = ap (λ (r : ℚ). r.numerator) e

pub num_zero : (q : ℚ) → q.numerator ≡ pos 0 → q ≡ 0ℚ
num_zero q e = cross_same q 0ℚ (ap (λ z. z *ℤ pos (denominator 0ℚ)) e ∙ sym (ap (λ z. z *ℤ pos (denominator q)) (zero_num 0ℚ refl) ∙ zero_both (denominator q) (denominator 0ℚ)))
  where
    zero_both : (a b : ℕ) → pos 0 *ℤ pos a ≡ pos 0 *ℤ pos b
    zero_both a b = ap pos (omega arith)

gcd_swap : (a b : ℕ) → gcd a b ≡ 1 → gcd b a ≡ 1
gcd_swap a b e = eq-one_of_dvd-one (subst (λ x. gcd b a ∣ x) e ((gcd_is a b).2 (gcd b a) (gcd_is b a).1 (gcd_is b a).0))

-- what the code makes of the fields of a number that is not zero
pub record Flipped (n d : ℤ) (q : ℚ) : Type 0 where
  pub lowest : IsLowest n d
  pub value : ratio n (nat_abs d) ≡ inv_ℚ q

flip : (n d : ℤ) (q : ℚ) → IsLowest n d → n ≡ q.numerator → d ≡ pos (denominator q) → (q ≡ 0ℚ → ⊥) → int_lt n (pos 0) ≡ false → Flipped d n q
unfolding inv_ℚ
flip (pos zero) d q h e f z s = absurd (z (num_zero q (sym e)))
flip (pos (suc k)) (pos b) q h e f z s = record {
  lowest = record { num_fits = h.den_fits; den_pos = omega (arith, ints); den_fits = h.num_fits; coprime = gcd_swap (suc k) b h.coprime };
  value = ap (λ x. ratio x (suc k)) f ∙ ap (λ x. inverted x (denominator q)) e;
}
flip (pos (suc k)) (negsuc b) q h e f z s = let p = h.den_pos in absurd (omega (arith, ints))
flip (negsuc k) d q h e f z s = cc

flip_negative : (n d : ℤ) (q : ℚ) → IsLowest n d → n ≡ q.numerator → d ≡ pos (denominator q) → int_lt n (pos 0) ≡ true → Flipped (neg_ℤ d) (neg_ℤ n) q
unfolding inv_ℚ
flip_negative (pos a) d q h e f s = absurd (no a s)
  where
    no : (a : ℕ) → int_lt (pos a) (pos 0) ≡ true → ⊥
    no a s = let t : int_lt (pos a) (pos 0) ≡ false = grind arith in cc
flip_negative (negsuc k) (pos b) q h e f s = record {
  lowest = record { num_fits = omega (arith, abs_neg b, h.den_fits); den_pos = omega (arith, ints); den_fits = h.num_fits; coprime = ap (λ x. gcd x (suc k)) (abs_neg b) ∙ gcd_swap (suc k) b h.coprime };
  value = ap (λ x. ratio (neg_ℤ x) (suc k)) f ∙ ap (λ x. inverted x (denominator q)) e;
}
  where
    abs_neg : (b : ℕ) → nat_abs (neg_ℤ (pos b)) ≡ b
    abs_neg b = omega (arith, ints)
flip_negative (negsuc k) (negsuc b) q h e f s = let p = h.den_pos in absurd (omega (arith, ints))

pub flipped : (n d : ℤ) (q : ℚ) → IsLowest n d → ratio n (nat_abs d) ≡ q → (q ≡ 0ℚ → ⊥) → int_lt q.numerator (pos 0) ≡ false → Flipped (to_z w128 (of_z w128 d)) (to_z w128 (of_z w128 n)) q
flipped n d q h v z s =
    let e = num_is n d q h v in
    rw (back d h.den_fits, back n h.num_fits) (flip n d q h e (den_is n d q h v) z (ap (λ x. int_lt x (pos 0)) e ∙ s))

pub flipped_negative : (n d : ℤ) (q : ℚ) → IsLowest n d → ratio n (nat_abs d) ≡ q → int_lt q.numerator (pos 0) ≡ true →
    Flipped (to_z w128 (of_z w128 (pos 0 -ℤ to_z w128 (of_z w128 d)))) (to_z w128 (of_z w128 (pos 0 -ℤ to_z w128 (of_z w128 n)))) q
flipped_negative n d q h v s =
    let e = num_is n d q h v in
    rw (minus_back d h.den_fits, minus_back n h.num_fits) (flip_negative n d q h e (den_is n d q h v) (ap (λ x. int_lt x (pos 0)) e ∙ s))
