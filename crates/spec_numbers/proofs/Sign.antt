-- Signs of rationals.
use Rattle.std.proofs.Common.{◌≡◌, ℕ, zero, suc, ◌*◌, ◌<◌, [], ◌∷◌, ℤ, pos, negsuc, ◌+ℤ◌, ◌*ℤ◌, neg_ℤ, ◌≤ℤ◌, ◌<ℤ◌, arith, refl, ap, sym, subst, ◌∙◌, mul-pos, zero-lt-suc, ◌⊎◌, inl, inr}
use Rattle.std.proofs.lemmas.Int.{ints}
use borrow.Author.Differences.{product_is}
use Rattle.spec_numbers.specs.Rational.{ℚ, 0ℚ, 1ℚ, denominator, ratio, int_ℚ, ◌+ℚ◌, ◌*ℚ◌, neg_ℚ, inv_ℚ, inverted, IsPositive, IsNotNegative}
use Rattle.spec_numbers.proofs.Ring.{var, int, ◌⊕◌, ◌⊗◌, minus}
use Rattle.spec_numbers.proofs.IntRing.{ring_ℤ}
use Rattle.spec_numbers.proofs.RationalLemmas.{ratio_scaled, ratio_back, by_ratio, ratio-mul, ratio_same, ring, suc_pos, suc_mul_pos}

z_mul_pos : (a b : ℤ) → pos 0 <ℤ a → pos 0 <ℤ b → pos 0 <ℤ (a *ℤ b)
z_mul_pos (pos (suc a)) (pos (suc b)) h k = omega (arith, ints, mul-pos (zero-lt-suc a) (zero-lt-suc b))
z_mul_pos (pos (suc a)) (pos zero) h k = absurd (omega (arith, ints))
z_mul_pos (pos (suc a)) (negsuc b) h k = absurd (omega (arith, ints))
z_mul_pos (pos zero) b h k = absurd (omega (arith, ints))
z_mul_pos (negsuc a) b h k = absurd (omega (arith, ints))

z_mul_nonneg : (a b : ℤ) → pos 0 ≤ℤ a → pos 0 ≤ℤ b → pos 0 ≤ℤ (a *ℤ b)
z_mul_nonneg (pos a) (pos b) h k = omega (arith, ints)
z_mul_nonneg (pos a) (negsuc b) h k = absurd (omega (arith, ints))
z_mul_nonneg (negsuc a) b h k = absurd (omega (arith, ints))

z_pos_back : (z : ℤ) (g : ℕ) → pos 0 <ℤ (z *ℤ pos g) → pos 0 <ℤ z
z_pos_back (pos zero) g h = absurd (omega (arith, ints, product_is (pos 0) (pos g)))
z_pos_back (pos (suc n)) g h = omega (arith, ints)
z_pos_back (negsuc n) g h = absurd (omega (arith, ints, product_is (negsuc n) (pos g)))

z_nonneg_back : (z : ℤ) (g : ℕ) → 0 < g → pos 0 ≤ℤ (z *ℤ pos g) → pos 0 ≤ℤ z
z_nonneg_back (pos n) g k h = omega (arith, ints)
z_nonneg_back (negsuc n) g k h = absurd (omega (arith, ints, product_is (negsuc n) (pos g)))

p_is : (n : ℕ) → 0 < n → pos 0 <ℤ pos n
p_is n h = omega (arith, ints)

pub ratio_pos : (n : ℤ) (d : ℕ) → 0 < d → pos 0 <ℤ n → IsPositive (ratio n d)
ratio_pos n d h k = let s = ratio_scaled n d h in record { positive = z_pos_back (ratio n d).numerator s.by (subst (λ x. pos 0 <ℤ x) s.num_is k) }

pub pos_ratio : (n : ℤ) (d : ℕ) → 0 < d → IsPositive (ratio n d) → pos 0 <ℤ n
pos_ratio n d h k = let s = ratio_scaled n d h in subst (λ x. pos 0 <ℤ x) (sym s.num_is) (z_mul_pos (ratio n d).numerator (pos s.by) k.positive (p_is s.by s.by_pos))

pub ratio_nonneg : (n : ℤ) (d : ℕ) → 0 < d → pos 0 ≤ℤ n → IsNotNegative (ratio n d)
ratio_nonneg n d h k = let s = ratio_scaled n d h in record { not_negative = z_nonneg_back (ratio n d).numerator s.by s.by_pos (subst (λ x. pos 0 ≤ℤ x) s.num_is k) }

z_sum_pos : (a b : ℤ) → pos 0 <ℤ a → pos 0 ≤ℤ b → pos 0 <ℤ (a +ℤ b)
z_sum_pos a b h k = omega (arith, ints)

z_sum_nonneg : (a b : ℤ) → pos 0 ≤ℤ a → pos 0 ≤ℤ b → pos 0 ≤ℤ (a +ℤ b)
z_sum_nonneg a b h k = omega (arith, ints)

pub pos_add : {p q : ℚ} → IsPositive p → IsNotNegative q → IsPositive (p +ℚ q)
unfolding ◌+ℚ◌
pos_add {p} {q} h k =
    ratio_pos _ (denominator p * denominator q) (suc_mul_pos p.below q.below)
    (z_sum_pos _ _ (z_mul_pos p.numerator (pos (denominator q)) h.positive (p_is (denominator q) (suc_pos q.below)))
    (z_mul_nonneg q.numerator (pos (denominator p)) k.not_negative (omega (arith, ints))))

pub nonneg_add : {p q : ℚ} → IsNotNegative p → IsNotNegative q → IsNotNegative (p +ℚ q)
unfolding ◌+ℚ◌
nonneg_add {p} {q} h k =
    ratio_nonneg _ (denominator p * denominator q) (suc_mul_pos p.below q.below)
    (z_sum_nonneg _ _ (z_mul_nonneg p.numerator (pos (denominator q)) h.not_negative (omega (arith, ints)))
    (z_mul_nonneg q.numerator (pos (denominator p)) k.not_negative (omega (arith, ints))))

pub pos_mul : {p q : ℚ} → IsPositive p → IsPositive q → IsPositive (p *ℚ q)
unfolding ◌*ℚ◌
pos_mul {p} {q} h k = ratio_pos _ (denominator p * denominator q) (suc_mul_pos p.below q.below) (z_mul_pos p.numerator q.numerator h.positive k.positive)

pub nonneg_mul : {p q : ℚ} → IsNotNegative p → IsNotNegative q → IsNotNegative (p *ℚ q)
unfolding ◌*ℚ◌
nonneg_mul {p} {q} h k = ratio_nonneg _ (denominator p * denominator q) (suc_mul_pos p.below q.below) (z_mul_nonneg p.numerator q.numerator h.not_negative k.not_negative)

pub pos_nonneg : {q : ℚ} → IsPositive q → IsNotNegative q
pos_nonneg {q} h = let k = h.positive in record { not_negative = omega (arith, ints) }

pub not_pos_zero : IsPositive 0ℚ → ⊥
unfolding int_ℚ
not_pos_zero h = let k = pos_ratio (pos 0) 1 (omega arith) h in omega (arith, ints)

pub nonneg_zero : IsNotNegative 0ℚ
unfolding int_ℚ
nonneg_zero = ratio_nonneg (pos 0) 1 (omega arith) (omega (arith, ints))

pub pos_one : IsPositive 1ℚ
unfolding int_ℚ
pos_one = ratio_pos (pos 1) 1 (omega arith) (omega (arith, ints))

-- one of three
pub data Sign (q : ℚ) : Type 0 where
  is_zero : q ≡ 0ℚ → Sign q
  is_pos : IsPositive q → Sign q
  is_neg : IsPositive (neg_ℚ q) → Sign q

neg_pos : (n d : ℕ) → 0 < d → IsPositive (neg_ℚ (ratio (negsuc n) d))
unfolding int_ℚ
neg_pos n d h =
    subst IsPositive (ring (ratio (negsuc n) d ∷ []) (int (negsuc 0) ⊗ var 0) (minus (var 0)) refl)
    (subst IsPositive (sym (ap (λ w. w *ℚ ratio (negsuc n) d) (int_is) ∙ ratio-mul (negsuc 0) (negsuc n) 1 d (omega arith) h))
    (ratio_pos _ (1 * d) (omega arith) (omega (arith, ints))))
  where
    int_is : int_ℚ (negsuc 0) ≡ ratio (negsuc 0) 1
    int_is = refl

pub sign : (q : ℚ) → Sign q
unfolding int_ℚ
sign = by_ratio Sign go
  where
    go : (n : ℤ) (k : ℕ) → Sign (ratio n (suc k))
    go (pos zero) k = is_zero (ratio_same (pos 0) (pos 0) (suc k) 1 (suc_pos k) (omega arith) (omega (arith, ints)))
    go (pos (suc n)) k = is_pos (ratio_pos (pos (suc n)) (suc k) (suc_pos k) (omega (arith, ints)))
    go (negsuc n) k = is_neg (neg_pos n (suc k) (suc_pos k))

-- a number and its negative are not both positive
pub not_both : {q : ℚ} → IsPositive q → IsNotNegative (neg_ℚ q) → ⊥
not_both {q} h k = not_pos_zero (subst IsPositive (ring (q ∷ []) (var 0 ⊕ minus (var 0)) (int (pos 0)) refl) (pos_add h k))

pub nonneg_cases : (q : ℚ) → IsNotNegative q → (q ≡ 0ℚ) ⊎ IsPositive q
nonneg_cases q h = go (sign q)
  where
    go : Sign q → (q ≡ 0ℚ) ⊎ IsPositive q
    go (is_zero e) = inl e
    go (is_pos p) = inr p
    go (is_neg p) = absurd (not_both p (subst IsNotNegative (ring (q ∷ []) (var 0) (minus (minus (var 0))) refl) h))

-- the inverse
pub inv_mul : {q : ℚ} → IsPositive q → q *ℚ inv_ℚ q ≡ 1ℚ
unfolding inv_ℚ int_ℚ
inv_mul {q} h = go q.numerator refl h.positive
  where
    go : (n : ℤ) → q.numerator ≡ n → pos 0 <ℤ n → q *ℚ inverted n (denominator q) ≡ 1ℚ
    go (pos zero) e k = absurd (omega (arith, ints))
    go (pos (suc n)) e k =
        ap (λ w. w *ℚ ratio (pos (denominator q)) (suc n)) (sym (ratio_back q) ∙ ap (λ w. ratio w (denominator q)) e)
        ∙ ratio-mul (pos (suc n)) (pos (denominator q)) (denominator q) (suc n) (suc_pos q.below) (suc_pos n)
        ∙ ratio_same _ (pos 1) _ 1 (suc_mul_pos q.below n) (omega arith) (omega (arith, ints))
    go (negsuc n) e k = absurd (omega (arith, ints))

pub inv_pos : {q : ℚ} → IsPositive q → IsPositive (inv_ℚ q)
inv_pos {q} h = go (sign (inv_ℚ q))
  where
    go : Sign (inv_ℚ q) → IsPositive (inv_ℚ q)
    go (is_pos p) = p
    go (is_zero e) = absurd (not_pos_zero (subst IsPositive (sym (inv_mul h) ∙ ap (λ w. q *ℚ w) e ∙ ring (q ∷ []) (var 0 ⊗ int (pos 0)) (int (pos 0)) refl) pos_one))
    go (is_neg p) = absurd (not_both pos_one (pos_nonneg (subst IsPositive (ring (q ∷ inv_ℚ q ∷ []) (var 0 ⊗ minus (var 1)) (minus (var 0 ⊗ var 1)) refl ∙ ap neg_ℚ (inv_mul h)) (pos_mul h p))))

pub product_zero : (a b : ℚ) → (a ≡ 0ℚ → ⊥) → a *ℚ b ≡ 0ℚ → b ≡ 0ℚ
product_zero a b h e = go (sign a)
  where
    by_pos : (c : ℚ) → IsPositive c → c *ℚ b ≡ 0ℚ → b ≡ 0ℚ
    by_pos c p z =
        ring (b ∷ []) (var 0) (int (pos 1) ⊗ var 0) refl ∙ ap (λ w. w *ℚ b) (sym (inv_mul p))
        ∙ ring (c ∷ b ∷ inv_ℚ c ∷ []) ((var 0 ⊗ var 2) ⊗ var 1) (var 2 ⊗ (var 0 ⊗ var 1)) refl
        ∙ ap (λ w. inv_ℚ c *ℚ w) z ∙ ring (inv_ℚ c ∷ []) (var 0 ⊗ int (pos 0)) (int (pos 0)) refl

    go : Sign a → b ≡ 0ℚ
    go (is_zero z) = absurd (h z)
    go (is_pos p) = by_pos a p e
    go (is_neg p) = by_pos (neg_ℚ a) p (ring (a ∷ b ∷ []) (minus (var 0) ⊗ var 1) (minus (var 0 ⊗ var 1)) refl ∙ ap neg_ℚ e ∙ ring [] (minus (int (pos 0))) (int (pos 0)) refl)

-- ---- numbers that are not zero

pub one_not_zero : 1ℚ ≡ 0ℚ → ⊥
one_not_zero e = not_pos_zero (subst IsPositive e pos_one)

pub zero_or_not : (q : ℚ) → (q ≡ 0ℚ) ⊎ (q ≡ 0ℚ → ⊥)
zero_or_not q = go (sign q)
  where
    go : Sign q → (q ≡ 0ℚ) ⊎ (q ≡ 0ℚ → ⊥)
    go (is_zero e) = inl e
    go (is_pos p) = inr (λ e. not_pos_zero (subst IsPositive e p))
    go (is_neg p) = inr (λ e. not_pos_zero (subst IsPositive (ap neg_ℚ e ∙ ring [] (minus (int (pos 0))) (int (pos 0)) refl) p))

zero_num : (p : ℚ) → p.numerator ≡ pos 0 → p ≡ 0ℚ
unfolding int_ℚ
zero_num p e =
    sym (ratio_back p)
    ∙ ratio_same p.numerator (pos 0) (denominator p) 1 (suc_pos p.below) (omega arith)
    (ap (λ z. z *ℤ pos 1) e ∙ ring_ℤ (pos (denominator p) ∷ []) (int (pos 0) ⊗ int (pos 1)) (int (pos 0) ⊗ var 0) refl)

pub num_not_zero : (p : ℚ) → (p ≡ 0ℚ → ⊥) → p.numerator ≡ pos 0 → ⊥
num_not_zero p n e = n (zero_num p e)

own_inverse : (n : ℤ) (b : ℕ) → (n ≡ pos 0 → ⊥) → ratio n (suc b) *ℚ inverted n (suc b) ≡ 1ℚ
unfolding int_ℚ
own_inverse (pos zero) b n = absurd (n refl)
own_inverse (pos (suc k)) b n =
    ratio-mul (pos (suc k)) (pos (suc b)) (suc b) (suc k) (suc_pos b) (suc_pos k)
    ∙ ratio_same _ (pos 1) _ 1 (suc_mul_pos b k) (omega arith)
    (ring_ℤ (pos (suc k) ∷ pos (suc b) ∷ []) ((var 0 ⊗ var 1) ⊗ int (pos 1)) (int (pos 1) ⊗ (var 1 ⊗ var 0)) refl)
own_inverse (negsuc k) b n =
    ratio-mul (negsuc k) (neg_ℤ (pos (suc b))) (suc b) (suc k) (suc_pos b) (suc_pos k)
    ∙ ratio_same _ (pos 1) _ 1 (suc_mul_pos b k) (omega arith)
    (ring_ℤ (pos (suc k) ∷ pos (suc b) ∷ []) ((minus (var 0) ⊗ minus (var 1)) ⊗ int (pos 1)) (int (pos 1) ⊗ (var 1 ⊗ var 0)) refl)

pub times_inverse : (p : ℚ) → (p ≡ 0ℚ → ⊥) → p *ℚ inv_ℚ p ≡ 1ℚ
unfolding inv_ℚ
times_inverse p n = ap (λ q. q *ℚ inverted p.numerator (denominator p)) (sym (ratio_back p)) ∙ own_inverse p.numerator p.below (num_not_zero p n)

pub inverse_not_zero : (p : ℚ) → (p ≡ 0ℚ → ⊥) → inv_ℚ p ≡ 0ℚ → ⊥
inverse_not_zero p n e = one_not_zero (sym (times_inverse p n) ∙ ap (λ q. p *ℚ q) e ∙ ring (p ∷ []) (var 0 ⊗ int (pos 0)) (int (pos 0)) refl)
