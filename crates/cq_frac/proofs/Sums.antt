-- A sum over the least common denominator.
use Rattle.std.proofs.Common.{◌≡◌, ℕ, [], ◌∷◌, ◌+◌, ◌-◌, ◌*◌, ◌<◌, ◌/◌, max, ◌≤◌, Bool, true, false, ℤ, pos, negsuc, neg_ℤ, ◌+ℤ◌, ◌*ℤ◌, nat_abs, arith, refl, ap, ap₂, sym, ◌∙◌, subst, ◌⊎◌, inl, inr, int_lt, mul-pos, mul_comm, zero-lt-suc}
use Rattle.std.proofs.lemmas.Bool.{cases_lt}
use Rattle.std.proofs.lemmas.Int.{ints, unsigned_abs-mul}
use Rattle.std.proofs.lemmas.Nat.Gcd.{same_from_IsGcd}
use lib.IntN.{+ℤ_comm}
use Rattle.std.proofs.Math.Nat.{mul-div_cancel', div-le_self, dvd-add, dvd-sub, dvd_refl, dvd_trans, dvd-mul_left, dvd-mul_right_of_dvd, eq-one_of_dvd-one}
use Rattle.std.specs.Int.{◌∣◌}
use Rattle.spec_numbers.specs.Gcd.{gcd, gcd_is, gauss, gcd-quotients}
use Rattle.spec_numbers.specs.Rational.{ℚ, denominator, ratio, ◌+ℚ◌}
use Rattle.spec_numbers.proofs.Ring.{Poly, var, ◌⊕◌, ◌⊗◌}
use Rattle.spec_numbers.proofs.IntRing.{ring_ℤ}
use Rattle.spec_numbers.proofs.RationalLemmas.{ratio_same, ratio-add, ratio_back}
use Rattle.spec_numbers.proofs.Gcd.{gcd_comm, coprime_mul, coprime_parts}
use Rattle.cq_frac.specs.Cancelled.{AreParts, common_top, common_bottom, sum_peak}
use Rattle.cq_frac.specs.Fits.{signed, SumAccepted, SumRefused, left_term, right_term, common_den, limit}
use Rattle.cq_frac.proofs.View.{nat_abs-neg}
use Rattle.cq_frac.proofs.Parts.{bottom_pos, cross}
use Rattle.cq_frac.proofs.Products.{unlike, signed_back, signed-mul, signed_same, part_dvd}

abbrev x0 : Poly
x0 = var 0

abbrev x1 : Poly
x1 = var 1

abbrev x2 : Poly
x2 = var 2

abbrev x3 : Poly
x3 = var 3

abbrev x4 : Poly
x4 = var 4

-- ---- the greatest of four numbers

abbrev peak_of : ℕ → ℕ → ℕ → ℕ → ℕ
peak_of w x y z = max (max w x) (max y z)

below_peak : (w x y z k : ℕ) → peak_of w x y z < k → (w < k) × (x < k) × (y < k) × (z < k)
below_peak w x y z k h = (omega arith, omega arith, omega arith, omega arith)

past_peak : (w x y z k : ℕ) → k ≤ peak_of w x y z → (k ≤ w) ⊎ ((k ≤ x) ⊎ ((k ≤ y) ⊎ (k ≤ z)))
past_peak w x y z k h = go (cases_lt w k) (cases_lt x k) (cases_lt y k)
  where
    go : (w < k) ⊎ (k ≤ w) → (x < k) ⊎ (k ≤ x) → (y < k) ⊎ (k ≤ y) → (k ≤ w) ⊎ ((k ≤ x) ⊎ ((k ≤ y) ⊎ (k ≤ z)))
    go (inr i) f g = inl i
    go (inl e) (inr i) g = inr (inl i)
    go (inl e) (inl f) (inr i) = inr (inr (inl i))
    go (inl e) (inl f) (inl g) = inr (inr (inr (omega arith)))

pub quotient_below : (v n h k : ℕ) → v ≡ n / h → n < k → v < k
quotient_below v n h k e l = let i : n / h ≤ n = div-le_self n h in omega arith

-- ---- divisors of a signed sum

-- how far the sizes are apart, or their sum
pub size_of_sum : (x y : ℤ) → (nat_abs (x +ℤ y) ≡ nat_abs x + nat_abs y) ⊎ (nat_abs (x +ℤ y) ≡ (nat_abs x - nat_abs y) + (nat_abs y - nat_abs x))
size_of_sum (pos a) (pos b) = inl (omega (arith, ints))
size_of_sum (pos a) (negsuc b) = inr (omega (arith, ints))
size_of_sum (negsuc a) (pos b) = inr (omega (arith, ints))
size_of_sum (negsuc a) (negsuc b) = inl (omega (arith, ints))

dvd_sum : (t : ℕ) (x y : ℤ) → t ∣ nat_abs x → t ∣ nat_abs y → t ∣ nat_abs (x +ℤ y)
dvd_sum t x y h k = go (size_of_sum x y)
  where
    go : (nat_abs (x +ℤ y) ≡ nat_abs x + nat_abs y) ⊎ (nat_abs (x +ℤ y) ≡ (nat_abs x - nat_abs y) + (nat_abs y - nat_abs x)) → t ∣ nat_abs (x +ℤ y)
    go (inl e) = subst (λ w. t ∣ w) (sym e) (dvd-add t h k)
    go (inr e) = subst (λ w. t ∣ w) (sym e) (dvd-add t (dvd-sub t h k) (dvd-sub t k h))

sum_back : (x y : ℤ) → (x +ℤ y) +ℤ neg_ℤ y ≡ x
sum_back x y = omega (arith, ints)

-- a sum is prime to what divides one of its numbers and is prime to the other
prime_sum : (x y : ℤ) (m : ℕ) → m ∣ nat_abs y → gcd (nat_abs x) m ≡ 1 → gcd (nat_abs (x +ℤ y)) m ≡ 1
prime_sum x y m h e =
    let t = gcd (nat_abs (x +ℤ y)) m in
    let u = gcd_is (nat_abs (x +ℤ y)) m in
    let ty : t ∣ nat_abs (neg_ℤ y) = subst (λ w. gcd (nat_abs (x +ℤ y)) m ∣ w) (sym (nat_abs-neg y)) (dvd_trans (gcd (nat_abs (x +ℤ y)) m) u.1 h) in
    let tx : t ∣ nat_abs x = subst (λ w. gcd (nat_abs (x +ℤ y)) m ∣ nat_abs w) (sum_back x y) (dvd_sum t (x +ℤ y) (neg_ℤ y) u.0 ty) in
    eq-one_of_dvd-one (subst (λ w. gcd (nat_abs (x +ℤ y)) m ∣ w) e ((gcd_is (nat_abs x) m).2 t tx u.1))

-- a factor that is prime to the other number has none of its divisors
drop_prime : (n u v : ℕ) → gcd n u ≡ 1 → gcd n (u * v) ≡ gcd n v
drop_prime n u v e =
    let t = gcd n (u * v) in
    let w = gcd_is n (u * v) in
    let x = gcd_is n v in
    let p : gcd u t ≡ 1 = coprime_parts u t u n (dvd_refl u) w.0 (gcd_comm u n ∙ e) in
    same_from_IsGcd n v t (gcd n v) (w.0, gauss u t v p w.1, λ d i j. w.2 d i (subst (λ y. d ∣ y) (mul_comm v u) (dvd-mul_right_of_dvd d j u))) x

-- ---- signs

signed_cut : (s : Bool) (n y : ℕ) → 0 < y → ratio (signed s (n / gcd n y)) (y / gcd n y) ≡ ratio (signed s n) y
signed_cut s n y h =
    let g = gcd n y in
    signed_same s (n / g) n (y / g) y (bottom_pos n y h) h
    (cross n y g (n / g) (y / g) (mul-div_cancel' g (gcd_is n y).0) (mul-div_cancel' g (gcd_is n y).1))

signed-times : (s : Bool) (z : ℤ) (a k : ℕ) → s ≡ int_lt z (pos 0) → a ≡ nat_abs z → signed s (a * k) ≡ z *ℤ pos k
signed-times s z a k e f =
    sym (signed-mul s false a k ∙ ap (λ b. signed b (a * k)) (same s)) ∙ ap (λ w. w *ℤ pos k) (ap₂ signed e f ∙ signed_back z)
  where
    same : (b : Bool) → unlike b false ≡ b
    same true = refl
    same false = refl

-- ---- the least common denominator

-- m, a and b are the sign and the parts of p, and n, c and d those of q
pub record Read (p q : ℚ) (m : Bool) (a b : ℕ) (n : Bool) (c d : ℕ) : Type 0 where
  pub m_is : m ≡ int_lt p.numerator (pos 0)
  pub a_is : a ≡ nat_abs p.numerator
  pub b_is : b ≡ denominator p
  pub n_is : n ≡ int_lt q.numerator (pos 0)
  pub c_is : c ≡ nat_abs q.numerator
  pub d_is : d ≡ denominator q

module _ {p q : ℚ} {m n : Bool} {a b c d : ℕ} (r : Read p q m a b n c d) where
  -- the parts that are left of the denominators
  abbrev b_rest : ℕ
  b_rest = b / gcd b d

  abbrev d_rest : ℕ
  d_rest = d / gcd b d

  abbrev first : ℤ
  first = p.numerator *ℤ pos d_rest

  abbrev second : ℤ
  second = q.numerator *ℤ pos b_rest

  b_pos : 0 < b
  b_pos = rw r.b_is (zero-lt-suc p.below)

  d_pos : 0 < d
  d_pos = rw r.d_is (zero-lt-suc q.below)

  bottom_above : 0 < common_bottom b d
  bottom_above = mul-pos (subst (λ g. 0 < b / g) (gcd_comm d b) (bottom_pos d b b_pos)) d_pos

  top_is : common_top m a b n c d ≡ first +ℤ second
  top_is = ap₂ (λ x y. x +ℤ y) (signed-times m p.numerator a d_rest r.m_is r.a_is) (signed-times n q.numerator c b_rest r.n_is r.c_is)

  sum_value : ratio (first +ℤ second) (common_bottom b d) ≡ p +ℚ q
  sum_value =
      let g = gcd b d in
      let e = mul-div_cancel' (gcd b d) (gcd_is b d).0 in
      let f = mul-div_cancel' (gcd b d) (gcd_is b d).1 in
      ratio_same _ (p.numerator *ℤ pos d +ℤ q.numerator *ℤ pos b) (common_bottom b d) (b * d) bottom_above (mul-pos b_pos d_pos)
      (ap₂ (λ x y. (first +ℤ second) *ℤ pos (x * y)) (sym e) (sym f)
      ∙ ring_ℤ (p.numerator ∷ q.numerator ∷ pos d_rest ∷ pos b_rest ∷ pos g ∷ [])
      ((x0 ⊗ x2 ⊕ x1 ⊗ x3) ⊗ ((x4 ⊗ x3) ⊗ (x4 ⊗ x2))) ((x0 ⊗ (x4 ⊗ x2) ⊕ x1 ⊗ (x4 ⊗ x3)) ⊗ (x3 ⊗ (x4 ⊗ x2))) refl
      ∙ ap₂ (λ x y. (p.numerator *ℤ pos y +ℤ q.numerator *ℤ pos x) *ℤ pos (b_rest * y)) e f)
      ∙ ap₂ (λ x y. ratio (p.numerator *ℤ pos y +ℤ q.numerator *ℤ pos x) (x * y)) r.b_is r.d_is
      ∙ sym (ratio-add p.numerator q.numerator (denominator p) (denominator q) (zero-lt-suc p.below) (zero-lt-suc q.below))
      ∙ ap₂ (λ x y. x +ℚ y) (ratio_back p) (ratio_back q)

  -- ---- the numbers on the way

  left_is : left_term p q ≡ first
  left_is = ap₂ (λ x y. p.numerator *ℤ pos (y / gcd x y)) (sym r.b_is) (sym r.d_is)

  right_is : right_term p q ≡ second
  right_is = ap₂ (λ x y. q.numerator *ℤ pos (x / gcd x y)) (sym r.b_is) (sym r.d_is)

  peak_is : sum_peak m a b n c d ≡ peak_of (nat_abs (left_term p q)) (nat_abs (right_term p q)) (nat_abs (left_term p q +ℤ right_term p q)) (common_den p q)
  peak_is =
      ap₂ max
      (ap₂ max
      (ap (λ x. x * d_rest) r.a_is ∙ sym (ap nat_abs left_is ∙ unsigned_abs-mul p.numerator (pos d_rest)))
      (ap (λ x. x * b_rest) r.c_is ∙ sym (ap nat_abs right_is ∙ unsigned_abs-mul q.numerator (pos b_rest))))
      (ap₂ max
      (ap nat_abs (top_is ∙ sym (ap₂ (λ x y. x +ℤ y) left_is right_is)))
      (ap₂ (λ x y. (x / gcd x y) * y) r.b_is r.d_is))

  pub accepted : sum_peak m a b n c d < limit → SumAccepted p q
  accepted h =
      let k = below_peak _ _ _ _ limit (subst (λ x. x < limit) peak_is h) in
      record { left_fits = k.0; right_fits = k.1; sum_fits = k.2; den_fits = k.3 }

  pub refused : limit ≤ sum_peak m a b n c d → SumRefused p q
  refused h = past_peak _ _ _ _ limit (subst (λ x. limit ≤ x) peak_is h)

  -- ---- its divisors

  -- the numerator of the sum is prime to both parts that are left of the denominators
  num_prime_b : gcd (nat_abs p.numerator * d_rest) b_rest ≡ 1
  num_prime_b =
      coprime_mul (nat_abs p.numerator) d_rest b_rest
      (coprime_parts (nat_abs p.numerator) b_rest (nat_abs p.numerator) (denominator p) (dvd_refl (nat_abs p.numerator)) (subst (λ x. b_rest ∣ x) r.b_is (part_dvd b (gcd b d) (gcd_is b d).0)) p.lowest)
      (gcd_comm d_rest b_rest ∙ gcd-quotients b d d_pos)

  num_prime_d : gcd (nat_abs q.numerator * b_rest) d_rest ≡ 1
  num_prime_d =
      coprime_mul (nat_abs q.numerator) b_rest d_rest
      (coprime_parts (nat_abs q.numerator) d_rest (nat_abs q.numerator) (denominator q) (dvd_refl (nat_abs q.numerator)) (subst (λ x. d_rest ∣ x) r.d_is (part_dvd d (gcd b d) (gcd_is b d).1)) q.lowest)
      (gcd-quotients b d d_pos)

  sum_prime_b : gcd (nat_abs (first +ℤ second)) b_rest ≡ 1
  sum_prime_b =
      prime_sum first second b_rest
      (subst (λ x. b_rest ∣ x) (sym (unsigned_abs-mul q.numerator (pos b_rest))) (dvd-mul_left b_rest (nat_abs q.numerator)))
      (ap (λ x. gcd x b_rest) (unsigned_abs-mul p.numerator (pos d_rest)) ∙ num_prime_b)

  sum_prime_d : gcd (nat_abs (first +ℤ second)) d_rest ≡ 1
  sum_prime_d =
      ap (λ x. gcd (nat_abs x) d_rest) (+ℤ_comm first second)
      ∙ prime_sum second first d_rest
      (subst (λ x. d_rest ∣ x) (sym (unsigned_abs-mul p.numerator (pos d_rest))) (dvd-mul_left d_rest (nat_abs p.numerator)))
      (ap (λ x. gcd x d_rest) (unsigned_abs-mul q.numerator (pos b_rest)) ∙ num_prime_d)

  abbrev top : ℕ
  top = nat_abs (common_top m a b n c d)

  -- so its divisors in the common denominator are those in g (Knuth)
  divisor_is : gcd top (gcd b d) ≡ gcd top (common_bottom b d)
  divisor_is =
      ap (λ x. gcd (nat_abs x) (gcd b d)) top_is
      ∙ sym (drop_prime _ b_rest d sum_prime_b
      ∙ ap (gcd (nat_abs (first +ℤ second))) (sym (mul-div_cancel' (gcd b d) (gcd_is b d).1) ∙ mul_comm (gcd b d) d_rest)
      ∙ drop_prime _ d_rest (gcd b d) sum_prime_d)
      ∙ ap (λ x. gcd (nat_abs x) (common_bottom b d)) (sym top_is)

  -- ---- the parts that the code makes

  module _ {s : Bool} {v w : ℕ} (k : AreParts (common_top m a b n c d) (common_bottom b d) (gcd b d) s v w) where
    v_is : v ≡ top / gcd top (common_bottom b d)
    v_is = k.top_is ∙ ap (λ x. top / x) divisor_is

    w_is : w ≡ common_bottom b d / gcd top (common_bottom b d)
    w_is = k.bottom_is ∙ ap (λ x. common_bottom b d / x) divisor_is

    pub made-coprime : gcd v w ≡ 1
    made-coprime = ap₂ gcd v_is w_is ∙ gcd-quotients top (common_bottom b d) bottom_above

    pub made-pos : 0 < w
    made-pos = rw w_is (bottom_pos top (common_bottom b d) bottom_above)

    pub made-value : ratio (signed s v) w ≡ p +ℚ q
    made-value =
        ap₂ (λ x y. ratio (signed s x) y) v_is w_is
        ∙ signed_cut s top (common_bottom b d) bottom_above
        ∙ ap (λ x. ratio x (common_bottom b d)) (ap (λ t. signed t top) k.sign_is ∙ signed_back (common_top m a b n c d) ∙ top_is)
        ∙ sum_value

    pub made-fit : sum_peak m a b n c d < limit → (v < limit) × (w < limit)
    made-fit h =
        let x = below_peak _ _ _ _ limit h in
        (quotient_below _ _ _ limit k.top_is x.2, quotient_below _ _ _ limit k.bottom_is x.3)

pub accepted_not_refused : (p q : ℚ) → SumAccepted p q → SumRefused p q → ⊥
accepted_not_refused p q a (inl x) = let y = a.left_fits in omega arith
accepted_not_refused p q a (inr (inl x)) = let y = a.right_fits in omega arith
accepted_not_refused p q a (inr (inr (inl x))) = let y = a.sum_fits in omega arith
accepted_not_refused p q a (inr (inr (inr x))) = let y = a.den_fits in omega arith
