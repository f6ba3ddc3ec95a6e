-- The laws of the rationals: a commutative ring, with signs.
use Rattle.std.proofs.Common.{◌≡◌, ℕ, zero, suc, ◌*◌, ◌/◌, ◌<◌, List, [], ◌∷◌, ℤ, pos, negsuc, ◌+ℤ◌, ◌*ℤ◌, neg_ℤ, nat_abs, arith, refl, ap, ap₂, sym, subst, ◌∙◌, mul-pos, zero-lt-suc}
use Rattle.std.proofs.lemmas.Int.{ints, unsigned_abs-mul}
use borrow.Author.Differences.{up, down, product_is, same_in, same_out}
use native.Mathlib.Nat.{mul-div_cancel}
use native.Mathlib.Decide.{ℕ_discrete}
use mathlib.Core.HLevel.{is_prop→PathP, hedberg}
use Rattle.std.specs.Int.{◌∣◌}
use Rattle.std.proofs.Math.Nat.{mul-div_cancel', dvd_antisymm, dvd-mul_left}
use Rattle.spec_numbers.specs.Gcd.{gcd, gcd_is, gcd_pos, gauss}
use Rattle.spec_numbers.specs.Rational.{ℚ, denominator, divided, ratio, int_ℚ, ◌+ℚ◌, ◌*ℚ◌, neg_ℚ, quotient_pos}
use Rattle.spec_numbers.proofs.Ring.{IsRing, Poly, var, int, ◌⊕◌, ◌⊗◌, minus, solve, value, normal}
use Rattle.spec_numbers.proofs.IntRing.{ring_ℤ}

ℕ_is_set : IsSet ℕ
ℕ_is_set = hedberg ℕ_discrete

pub ℚ_same : (p q : ℚ) → p.numerator ≡ q.numerator → p.below ≡ q.below → p ≡ q
ℚ_same p q e f = λ i. record {
  numerator = e i;
  below = f i;
  lowest = is_prop→PathP (λ j. gcd (nat_abs (e j)) (suc (f j)) ≡ 1) (λ j. ℕ_is_set (gcd (nat_abs (e j)) (suc (f j))) 1) p.lowest q.lowest i;
}

cancel_ℕ : (a b g : ℕ) → 0 < g → a * g ≡ b * g → a ≡ b
cancel_ℕ a b g h e = sym (mul-div_cancel a h) ∙ ap (λ x. x / g) e ∙ mul-div_cancel b h

pub cancel_ℤ : (a b : ℤ) (g : ℕ) → 0 < g → a *ℤ pos g ≡ b *ℤ pos g → a ≡ b
cancel_ℤ a b g h e =
    let u : up a * g ≡ up b * g = omega (arith, product_is a (pos g), product_is b (pos g), same_out (a *ℤ pos g) (b *ℤ pos g) e) in
    let d : down a * g ≡ down b * g = omega (arith, product_is a (pos g), product_is b (pos g), same_out (a *ℤ pos g) (b *ℤ pos g) e) in
    same_in a b (omega (arith, cancel_ℕ (up a) (up b) g h u, cancel_ℕ (down a) (down b) g h d))

pub cross_same : (p q : ℚ) → p.numerator *ℤ pos (denominator q) ≡ q.numerator *ℤ pos (denominator p) → p ≡ q
cross_same p q e =
    let a : nat_abs p.numerator * denominator q ≡ nat_abs q.numerator * denominator p = sym (unsigned_abs-mul p.numerator (pos (denominator q))) ∙ ap nat_abs e ∙ unsigned_abs-mul q.numerator (pos (denominator p)) in
    let pq : denominator p ∣ denominator q = gauss (nat_abs p.numerator) (denominator p) (denominator q) p.lowest (subst (λ x. denominator p ∣ x) (sym a) (dvd-mul_left (denominator p) (nat_abs q.numerator))) in
    let qp : denominator q ∣ denominator p = gauss (nat_abs q.numerator) (denominator q) (denominator p) q.lowest (subst (λ x. denominator q ∣ x) a (dvd-mul_left (denominator q) (nat_abs p.numerator))) in
    let same : denominator p ≡ denominator q = dvd_antisymm pq qp in
    ℚ_same p q (cancel_ℤ p.numerator q.numerator (denominator q) (omega arith) (e ∙ ap (λ d. q.numerator *ℤ pos d) same)) (omega arith)

-- a ratio's parts times what was cancelled
pub record Scaled (n : ℤ) (d : ℕ) (q : ℚ) : Type 0 where
  pub by : ℕ
  pub by_pos : 0 < by
  pub num_is : n ≡ q.numerator *ℤ pos by
  pub den_is : d ≡ denominator q * by

divided_back : (n : ℤ) (g : ℕ) → g * (nat_abs n / g) ≡ nat_abs n → n ≡ divided n g *ℤ pos g
divided_back (pos a) g e = ap pos (omega (arith, e))
divided_back (negsuc a) g e = go (suc a / g) (omega (arith, e))
  where
    go : (m : ℕ) → m * g ≡ suc a → negsuc a ≡ neg_ℤ (pos m) *ℤ pos g
    go zero e = absurd (omega arith)
    go (suc m) e = omega (arith, ints, product_is (negsuc m) (pos g))

pub ratio_scaled : (n : ℤ) (d : ℕ) → 0 < d → Scaled n d (ratio n d)
unfolding ratio
ratio_scaled n zero h = absurd (omega arith)
ratio_scaled n (suc k) h =
    let g = gcd (nat_abs n) (suc k) in
    record {
      by = g;
      by_pos = gcd_pos (nat_abs n) (suc k) h;
      num_is = divided_back n g (mul-div_cancel' g (gcd_is (nat_abs n) (suc k)).0);
      den_is =
          let e : g * (suc k / g) ≡ suc k = mul-div_cancel' g (gcd_is (nat_abs n) (suc k)).1 in
          rw (quotient_pos g (suc k) h e) (omega (arith, e));
    }

abbrev x0 : Poly
x0 = var 0

abbrev x1 : Poly
x1 = var 1

abbrev x2 : Poly
x2 = var 2

abbrev x3 : Poly
x3 = var 3

abbrev x4 : Poly
x4 = var 4

abbrev x5 : Poly
x5 = var 5

-- a g = n, b g = d, c h = m, f h = e: where n e = m d, a f = c b
scaled_cross : (n m : ℤ) (d e : ℕ) (p q : ℚ) → Scaled n d p → Scaled m e q → n *ℤ pos e ≡ m *ℤ pos d → p ≡ q
scaled_cross n m d e p q s t h =
    let w : (p.numerator *ℤ pos s.by) *ℤ (pos (denominator q) *ℤ pos t.by) ≡ (q.numerator *ℤ pos t.by) *ℤ (pos (denominator p) *ℤ pos s.by) =
    ap₂ (λ x y. x *ℤ pos y) (sym s.num_is) (sym t.den_is) ∙ h ∙ ap₂ (λ x y. x *ℤ pos y) t.num_is s.den_is in
    cross_same p q (cancel_ℤ _ _ (s.by * t.by) (mul-pos s.by_pos t.by_pos)
    (ring_ℤ (p.numerator ∷ pos s.by ∷ pos (denominator q) ∷ pos t.by ∷ []) (x0 ⊗ x2 ⊗ (x1 ⊗ x3)) (x0 ⊗ x1 ⊗ (x2 ⊗ x3)) refl
    ∙ w ∙ ring_ℤ (q.numerator ∷ pos t.by ∷ pos (denominator p) ∷ pos s.by ∷ []) (x0 ⊗ x1 ⊗ (x2 ⊗ x3)) (x0 ⊗ x2 ⊗ (x3 ⊗ x1)) refl))

pub ratio_same : (n m : ℤ) (d e : ℕ) → 0 < d → 0 < e → n *ℤ pos e ≡ m *ℤ pos d → ratio n d ≡ ratio m e
ratio_same n m d e h k w = scaled_cross n m d e (ratio n d) (ratio m e) (ratio_scaled n d h) (ratio_scaled m e k) w

self_scaled : (q : ℚ) → Scaled q.numerator (denominator q) q
self_scaled q = record { by = 1; by_pos = omega arith; num_is = omega (arith, ints); den_is = omega arith }

pub ratio_back : (q : ℚ) → ratio q.numerator (denominator q) ≡ q
ratio_back q = scaled_cross q.numerator q.numerator (denominator q) (denominator q) (ratio q.numerator (denominator q)) q (ratio_scaled q.numerator (denominator q) (omega arith)) (self_scaled q) refl

-- what holds of every ratio holds of every rational
pub by_ratio : (P : ℚ → Type 0) → ((n : ℤ) (k : ℕ) → P (ratio n (suc k))) → (q : ℚ) → P q
by_ratio P h q = subst P (ratio_back q) (h q.numerator q.below)

sum_scaled : (a c : ℤ) (b d : ℕ) (p q : ℚ) → Scaled a b p → Scaled c d q → 0 < b * d → p +ℚ q ≡ ratio (a *ℤ pos d +ℤ c *ℤ pos b) (b * d)
unfolding ◌+ℚ◌
sum_scaled a c b d p q s t h =
    let w : ((p.numerator *ℤ pos s.by) *ℤ (pos (denominator q) *ℤ pos t.by) +ℤ (q.numerator *ℤ pos t.by) *ℤ (pos (denominator p) *ℤ pos s.by)) *ℤ (pos (denominator p) *ℤ pos (denominator q)) ≡ (a *ℤ pos d +ℤ c *ℤ pos b) *ℤ pos (denominator p * denominator q) =
    ap (λ x. x *ℤ pos (denominator p * denominator q)) (ap₂ (λ x y. x +ℤ y) (ap₂ (λ x y. x *ℤ pos y) (sym s.num_is) (sym t.den_is)) (ap₂ (λ x y. x *ℤ pos y) (sym t.num_is) (sym s.den_is))) in
    ratio_same _ _ (denominator p * denominator q) (b * d) (mul-pos (zero-lt-suc _) (zero-lt-suc _)) h
    (ap₂ (λ x y. (p.numerator *ℤ pos (denominator q) +ℤ q.numerator *ℤ pos (denominator p)) *ℤ pos (x * y)) s.den_is t.den_is
    ∙ ring_ℤ (p.numerator ∷ pos (denominator p) ∷ q.numerator ∷ pos (denominator q) ∷ pos s.by ∷ pos t.by ∷ [])
    ((x0 ⊗ x3 ⊕ x2 ⊗ x1) ⊗ ((x1 ⊗ x4) ⊗ (x3 ⊗ x5)))
    (((x0 ⊗ x4) ⊗ (x3 ⊗ x5) ⊕ (x2 ⊗ x5) ⊗ (x1 ⊗ x4)) ⊗ (x1 ⊗ x3)) refl
    ∙ w)

pub ratio-add : (a c : ℤ) (b d : ℕ) → 0 < b → 0 < d → ratio a b +ℚ ratio c d ≡ ratio (a *ℤ pos d +ℤ c *ℤ pos b) (b * d)
ratio-add a c b d h k = sum_scaled a c b d (ratio a b) (ratio c d) (ratio_scaled a b h) (ratio_scaled c d k) (mul-pos h k)

product_scaled : (a c : ℤ) (b d : ℕ) (p q : ℚ) → Scaled a b p → Scaled c d q → 0 < b * d → p *ℚ q ≡ ratio (a *ℤ c) (b * d)
unfolding ◌*ℚ◌
product_scaled a c b d p q s t h =
    let w : ((p.numerator *ℤ pos s.by) *ℤ (q.numerator *ℤ pos t.by)) *ℤ (pos (denominator p) *ℤ pos (denominator q)) ≡ (a *ℤ c) *ℤ pos (denominator p * denominator q) =
    ap (λ x. x *ℤ pos (denominator p * denominator q)) (ap₂ (λ x y. x *ℤ y) (sym s.num_is) (sym t.num_is)) in
    ratio_same _ _ (denominator p * denominator q) (b * d) (mul-pos (zero-lt-suc _) (zero-lt-suc _)) h
    (ap₂ (λ x y. (p.numerator *ℤ q.numerator) *ℤ pos (x * y)) s.den_is t.den_is
    ∙ ring_ℤ (p.numerator ∷ pos (denominator p) ∷ q.numerator ∷ pos (denominator q) ∷ pos s.by ∷ pos t.by ∷ [])
    ((x0 ⊗ x2) ⊗ ((x1 ⊗ x4) ⊗ (x3 ⊗ x5)))
    (((x0 ⊗ x4) ⊗ (x2 ⊗ x5)) ⊗ (x1 ⊗ x3)) refl
    ∙ w)

pub ratio-mul : (a c : ℤ) (b d : ℕ) → 0 < b → 0 < d → ratio a b *ℚ ratio c d ≡ ratio (a *ℤ c) (b * d)
ratio-mul a c b d h k = product_scaled a c b d (ratio a b) (ratio c d) (ratio_scaled a b h) (ratio_scaled c d k) (mul-pos h k)

pub suc_pos : (k : ℕ) → 0 < suc k
suc_pos k = zero-lt-suc k

pub suc_mul_pos : (j k : ℕ) → 0 < suc j * suc k
suc_mul_pos j k = mul-pos (zero-lt-suc _) (zero-lt-suc _)

pub add_comm : (p q : ℚ) → p +ℚ q ≡ q +ℚ p
add_comm =
    by_ratio (λ p. (q : ℚ) → p +ℚ q ≡ q +ℚ p) (λ a b. by_ratio (λ q. ratio a (suc b) +ℚ q ≡ q +ℚ ratio a (suc b)) (λ c d.
    ratio-add a c (suc b) (suc d) (suc_pos b) (suc_pos d)
    ∙ ratio_same _ _ _ _ (suc_mul_pos b d) (suc_mul_pos d b)
    (ring_ℤ (a ∷ pos (suc b) ∷ c ∷ pos (suc d) ∷ []) ((x0 ⊗ x3 ⊕ x2 ⊗ x1) ⊗ (x3 ⊗ x1)) ((x2 ⊗ x1 ⊕ x0 ⊗ x3) ⊗ (x1 ⊗ x3)) refl)
    ∙ sym (ratio-add c a (suc d) (suc b) (suc_pos d) (suc_pos b))))

pub mul_comm : (p q : ℚ) → p *ℚ q ≡ q *ℚ p
mul_comm =
    by_ratio (λ p. (q : ℚ) → p *ℚ q ≡ q *ℚ p) (λ a b. by_ratio (λ q. ratio a (suc b) *ℚ q ≡ q *ℚ ratio a (suc b)) (λ c d.
    ratio-mul a c (suc b) (suc d) (suc_pos b) (suc_pos d)
    ∙ ratio_same _ _ _ _ (suc_mul_pos b d) (suc_mul_pos d b)
    (ring_ℤ (a ∷ pos (suc b) ∷ c ∷ pos (suc d) ∷ []) ((x0 ⊗ x2) ⊗ (x3 ⊗ x1)) ((x2 ⊗ x0) ⊗ (x1 ⊗ x3)) refl)
    ∙ sym (ratio-mul c a (suc d) (suc b) (suc_pos d) (suc_pos b))))

add_assoc : (p q r : ℚ) → (p +ℚ q) +ℚ r ≡ p +ℚ (q +ℚ r)
add_assoc =
    by_ratio (λ p. (q r : ℚ) → (p +ℚ q) +ℚ r ≡ p +ℚ (q +ℚ r)) (λ a b.
    by_ratio (λ q. (r : ℚ) → (ratio a (suc b) +ℚ q) +ℚ r ≡ ratio a (suc b) +ℚ (q +ℚ r)) (λ c d.
    by_ratio (λ r. (ratio a (suc b) +ℚ ratio c (suc d)) +ℚ r ≡ ratio a (suc b) +ℚ (ratio c (suc d) +ℚ r)) (λ e f.
    ap (λ w. w +ℚ ratio e (suc f)) (ratio-add a c (suc b) (suc d) (suc_pos b) (suc_pos d))
    ∙ ratio-add _ e (suc b * suc d) (suc f) (suc_mul_pos b d) (suc_pos f)
    ∙ ratio_same _ _ _ _ (mul-pos (suc_mul_pos b d) (suc_pos f)) (mul-pos (suc_pos b) (suc_mul_pos d f))
    (ring_ℤ (a ∷ pos (suc b) ∷ c ∷ pos (suc d) ∷ e ∷ pos (suc f) ∷ [])
    (((x0 ⊗ x3 ⊕ x2 ⊗ x1) ⊗ x5 ⊕ x4 ⊗ (x1 ⊗ x3)) ⊗ (x1 ⊗ (x3 ⊗ x5)))
    ((x0 ⊗ (x3 ⊗ x5) ⊕ (x2 ⊗ x5 ⊕ x4 ⊗ x3) ⊗ x1) ⊗ ((x1 ⊗ x3) ⊗ x5)) refl)
    ∙ sym (ap (λ w. ratio a (suc b) +ℚ w) (ratio-add c e (suc d) (suc f) (suc_pos d) (suc_pos f)) ∙ ratio-add a _ (suc b) (suc d * suc f) (suc_pos b) (suc_mul_pos d f)))))

mul_assoc : (p q r : ℚ) → (p *ℚ q) *ℚ r ≡ p *ℚ (q *ℚ r)
mul_assoc =
    by_ratio (λ p. (q r : ℚ) → (p *ℚ q) *ℚ r ≡ p *ℚ (q *ℚ r)) (λ a b.
    by_ratio (λ q. (r : ℚ) → (ratio a (suc b) *ℚ q) *ℚ r ≡ ratio a (suc b) *ℚ (q *ℚ r)) (λ c d.
    by_ratio (λ r. (ratio a (suc b) *ℚ ratio c (suc d)) *ℚ r ≡ ratio a (suc b) *ℚ (ratio c (suc d) *ℚ r)) (λ e f.
    ap (λ w. w *ℚ ratio e (suc f)) (ratio-mul a c (suc b) (suc d) (suc_pos b) (suc_pos d))
    ∙ ratio-mul _ e (suc b * suc d) (suc f) (suc_mul_pos b d) (suc_pos f)
    ∙ ratio_same _ _ _ _ (mul-pos (suc_mul_pos b d) (suc_pos f)) (mul-pos (suc_pos b) (suc_mul_pos d f))
    (ring_ℤ (a ∷ pos (suc b) ∷ c ∷ pos (suc d) ∷ e ∷ pos (suc f) ∷ [])
    (((x0 ⊗ x2) ⊗ x4) ⊗ (x1 ⊗ (x3 ⊗ x5)))
    ((x0 ⊗ (x2 ⊗ x4)) ⊗ ((x1 ⊗ x3) ⊗ x5)) refl)
    ∙ sym (ap (λ w. ratio a (suc b) *ℚ w) (ratio-mul c e (suc d) (suc f) (suc_pos d) (suc_pos f)) ∙ ratio-mul a _ (suc b) (suc d * suc f) (suc_pos b) (suc_mul_pos d f)))))

mul_add : (p q r : ℚ) → p *ℚ (q +ℚ r) ≡ p *ℚ q +ℚ p *ℚ r
mul_add =
    by_ratio (λ p. (q r : ℚ) → p *ℚ (q +ℚ r) ≡ p *ℚ q +ℚ p *ℚ r) (λ a b.
    by_ratio (λ q. (r : ℚ) → ratio a (suc b) *ℚ (q +ℚ r) ≡ ratio a (suc b) *ℚ q +ℚ ratio a (suc b) *ℚ r) (λ c d.
    by_ratio (λ r. ratio a (suc b) *ℚ (ratio c (suc d) +ℚ r) ≡ ratio a (suc b) *ℚ ratio c (suc d) +ℚ ratio a (suc b) *ℚ r) (λ e f.
    ap (λ w. ratio a (suc b) *ℚ w) (ratio-add c e (suc d) (suc f) (suc_pos d) (suc_pos f))
    ∙ ratio-mul a _ (suc b) (suc d * suc f) (suc_pos b) (suc_mul_pos d f)
    ∙ ratio_same _ _ _ _ (mul-pos (suc_pos b) (suc_mul_pos d f)) (mul-pos (suc_mul_pos b d) (suc_mul_pos b f))
    (ring_ℤ (a ∷ pos (suc b) ∷ c ∷ pos (suc d) ∷ e ∷ pos (suc f) ∷ [])
    ((x0 ⊗ (x2 ⊗ x5 ⊕ x4 ⊗ x3)) ⊗ ((x1 ⊗ x3) ⊗ (x1 ⊗ x5)))
    (((x0 ⊗ x2) ⊗ (x1 ⊗ x5) ⊕ (x0 ⊗ x4) ⊗ (x1 ⊗ x3)) ⊗ (x1 ⊗ (x3 ⊗ x5))) refl)
    ∙ sym (ap₂ (λ v w. v +ℚ w) (ratio-mul a c (suc b) (suc d) (suc_pos b) (suc_pos d)) (ratio-mul a e (suc b) (suc f) (suc_pos b) (suc_pos f))
    ∙ ratio-add _ _ (suc b * suc d) (suc b * suc f) (suc_mul_pos b d) (suc_mul_pos b f)))))

one : 0 < 1
one = omega arith

zero_add : (p : ℚ) → int_ℚ (pos 0) +ℚ p ≡ p
unfolding int_ℚ
zero_add =
    by_ratio (λ p. ratio (pos 0) 1 +ℚ p ≡ p) (λ a b.
    ratio-add (pos 0) a 1 (suc b) one (suc_pos b)
    ∙ ratio_same _ a _ (suc b) (mul-pos one (suc_pos b)) (suc_pos b)
    (ring_ℤ (a ∷ pos (suc b) ∷ []) ((int (pos 0) ⊗ x1 ⊕ x0 ⊗ int (pos 1)) ⊗ x1) (x0 ⊗ (int (pos 1) ⊗ x1)) refl))

one_mul : (p : ℚ) → int_ℚ (pos 1) *ℚ p ≡ p
unfolding int_ℚ
one_mul =
    by_ratio (λ p. ratio (pos 1) 1 *ℚ p ≡ p) (λ a b.
    ratio-mul (pos 1) a 1 (suc b) one (suc_pos b)
    ∙ ratio_same _ a _ (suc b) (mul-pos one (suc_pos b)) (suc_pos b)
    (ring_ℤ (a ∷ pos (suc b) ∷ []) ((int (pos 1) ⊗ x0) ⊗ x1) (x0 ⊗ (int (pos 1) ⊗ x1)) refl))

zero_mul : (p : ℚ) → int_ℚ (pos 0) *ℚ p ≡ int_ℚ (pos 0)
unfolding int_ℚ
zero_mul =
    by_ratio (λ p. ratio (pos 0) 1 *ℚ p ≡ ratio (pos 0) 1) (λ a b.
    ratio-mul (pos 0) a 1 (suc b) one (suc_pos b)
    ∙ ratio_same _ (pos 0) _ 1 (mul-pos one (suc_pos b)) one
    (ring_ℤ (a ∷ pos (suc b) ∷ []) ((int (pos 0) ⊗ x0) ⊗ int (pos 1)) (int (pos 0) ⊗ (int (pos 1) ⊗ x1)) refl))

neg_is : (p : ℚ) → neg_ℚ p ≡ int_ℚ (negsuc 0) *ℚ p
unfolding int_ℚ neg_ℚ
neg_is p =
    sym (ap (λ w. ratio (negsuc 0) 1 *ℚ w) (sym (ratio_back p))
    ∙ ratio-mul (negsuc 0) p.numerator 1 (denominator p) one (suc_pos p.below)
    ∙ ratio_same _ (neg_ℤ p.numerator) _ (denominator p) (mul-pos one (suc_pos p.below)) (suc_pos p.below)
    (ring_ℤ (p.numerator ∷ pos (denominator p) ∷ []) ((int (negsuc 0) ⊗ x0) ⊗ x1) (minus x0 ⊗ (int (pos 1) ⊗ x1)) refl))

of_add : (a b : ℤ) → int_ℚ (a +ℤ b) ≡ int_ℚ a +ℚ int_ℚ b
unfolding int_ℚ
of_add a b =
    sym (ratio-add a b 1 1 one one
    ∙ ratio_same _ (a +ℤ b) 1 1 one one (ring_ℤ (a ∷ b ∷ []) ((x0 ⊗ int (pos 1) ⊕ x1 ⊗ int (pos 1)) ⊗ int (pos 1)) ((x0 ⊕ x1) ⊗ int (pos 1)) refl))

of_mul : (a b : ℤ) → int_ℚ (a *ℤ b) ≡ int_ℚ a *ℚ int_ℚ b
unfolding int_ℚ
of_mul a b = sym (ratio-mul a b 1 1 one one)

pub ℚ_ring : IsRing ℚ ◌+ℚ◌ ◌*ℚ◌ neg_ℚ int_ℚ
ℚ_ring = record {
  add_comm = add_comm;
  add_assoc = add_assoc;
  zero_add = zero_add;
  mul_comm = mul_comm;
  mul_assoc = mul_assoc;
  one_mul = one_mul;
  zero_mul = zero_mul;
  mul_add = mul_add;
  neg_is = neg_is;
  of_add = of_add;
  of_mul = of_mul;
}

abbrev pub value_ℚ : List ℚ → Poly → ℚ
value_ℚ ρ e = value ℚ ◌+ℚ◌ ◌*ℚ◌ neg_ℚ int_ℚ ρ e

-- an equation of ℚ that holds in every commutative ring
pub ring : (ρ : List ℚ) (e f : Poly) → normal e ≡ normal f → value_ℚ ρ e ≡ value_ℚ ρ f
ring ρ e f h = solve ℚ ◌+ℚ◌ ◌*ℚ◌ neg_ℚ int_ℚ ℚ_ring ρ e f h

pub int_is : int_ℚ (negsuc 0) ≡ ratio (negsuc 0) 1
unfolding int_ℚ
int_is = refl

pub ratio-neg : (n : ℤ) (d : ℕ) → 0 < d → neg_ℚ (ratio n d) ≡ ratio (neg_ℤ n) d
ratio-neg n d h =
    neg_is (ratio n d) ∙ minus_one
    ∙ ratio-mul (negsuc 0) n 1 d one h
    ∙ ratio_same _ (neg_ℤ n) _ d (mul-pos one h) h (ring_ℤ (n ∷ pos d ∷ []) ((int (negsuc 0) ⊗ x0) ⊗ x1) (minus x0 ⊗ (int (pos 1) ⊗ x1)) refl)
  where
    minus_one : int_ℚ (negsuc 0) *ℚ ratio n d ≡ ratio (negsuc 0) 1 *ℚ ratio n d
    minus_one = ap (λ w. w *ℚ ratio n d) int_is

-- equal ratios have equal cross products
pub cross_back : (n m : ℤ) (d e : ℕ) → 0 < d → 0 < e → ratio n d ≡ ratio m e → n *ℤ pos e ≡ m *ℤ pos d
cross_back n m d e h k w =
    let s = ratio_scaled n d h in
    let t = ratio_scaled m e k in
    let p = ratio n d in
    let q = ratio m e in
    ap₂ (λ x y. x *ℤ pos y) s.num_is t.den_is
    ∙ ap₂ (λ x y. (x *ℤ pos s.by) *ℤ (y *ℤ pos t.by)) (ap (λ (r : ℚ). r.numerator) w) (ap (λ (r : ℚ). pos (denominator r)) (sym w))
    ∙ ring_ℤ (q.numerator ∷ pos s.by ∷ pos (denominator p) ∷ pos t.by ∷ []) ((x0 ⊗ x1) ⊗ (x2 ⊗ x3)) ((x0 ⊗ x3) ⊗ (x2 ⊗ x1)) refl
    ∙ sym (ap₂ (λ x y. x *ℤ pos y) t.num_is s.den_is)
