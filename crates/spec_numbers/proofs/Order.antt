-- The order of the rationals: a total order that sums and products by numbers not below zero keep.
use Rattle.std.proofs.Common.{◌≡◌, ℕ, ◌*◌, [], ◌∷◌, ℤ, pos, ◌+ℤ◌, ◌*ℤ◌, ◌<ℤ◌, neg_ℤ, arith, refl, ap, ap₂, sym, subst, ◌∙◌, ◌⊎◌, inl, inr}
use Rattle.std.proofs.lemmas.Int.{ints}
use Rattle.std.proofs.lemmas.Cmp.{int_ranked}
use Rattle.std.specs.Cmp.{IsTotalOrder}
use Rattle.std.specs.declared.cmp.Ordering.{Ordering}
use Rattle.std.specs.declared.cmp.Ordering.TheVariants.{Less, Equal, Greater}
use Rattle.std.specs.Ordering.{MatchOrdering, ordering_reverse}
use Rattle.spec_numbers.specs.Rational.{ℚ, 0ℚ, denominator, ratio, ◌+ℚ◌, ◌-ℚ◌, ◌*ℚ◌, neg_ℚ, IsPositive, IsNotNegative, ◌≤ℚ◌, ◌<ℚ◌}
use Rattle.spec_numbers.specs.Order.{cmp_ℚ}
use Rattle.spec_numbers.proofs.Ring.{var, int, ◌⊕◌, ◌⊗◌, minus}
use Rattle.spec_numbers.proofs.IntRing.{ring_ℤ}
use Rattle.spec_numbers.proofs.RationalLemmas.{ring, ratio_back, ratio-add, ratio-neg, cross_same, suc_pos, suc_mul_pos}
use Rattle.spec_numbers.proofs.Sign.{ratio_pos, pos_ratio, pos_add, nonneg_add, nonneg_mul, pos_mul, pos_nonneg, nonneg_zero, not_pos_zero}

-- ---- gaps

gap_is : (p q : ℚ) → q -ℚ p ≡ ratio (q.numerator *ℤ pos (denominator p) +ℤ neg_ℤ p.numerator *ℤ pos (denominator q)) (denominator q * denominator p)
gap_is p q =
    ap₂ (λ x y. x +ℚ neg_ℚ y) (sym (ratio_back q)) (sym (ratio_back p))
    ∙ ap (λ y. ratio q.numerator (denominator q) +ℚ y) (ratio-neg p.numerator (denominator p) (suc_pos p.below))
    ∙ ratio-add q.numerator (neg_ℤ p.numerator) (denominator q) (denominator p) (suc_pos q.below) (suc_pos p.below)

neg_mul : (a : ℤ) (d : ℕ) → neg_ℤ a *ℤ pos d ≡ neg_ℤ (a *ℤ pos d)
neg_mul a d = ring_ℤ (a ∷ pos d ∷ []) (minus (var 0) ⊗ var 1) (minus (var 0 ⊗ var 1)) refl

pub lt_from_cross : (p q : ℚ) → (p.numerator *ℤ pos (denominator q)) <ℤ (q.numerator *ℤ pos (denominator p)) → p <ℚ q
lt_from_cross p q h = record {
  gap =
      let n = neg_mul p.numerator (denominator q) in
      let above : pos 0 <ℤ (q.numerator *ℤ pos (denominator p) +ℤ neg_ℤ p.numerator *ℤ pos (denominator q)) =
      subst (λ x. pos 0 <ℤ (q.numerator *ℤ pos (denominator p) +ℤ x)) (sym n) (omega (arith, ints, h)) in
      subst IsPositive (sym (gap_is p q)) (ratio_pos _ _ (suc_mul_pos q.below p.below) above);
}

pub lt_to_cross : (p q : ℚ) → p <ℚ q → (p.numerator *ℤ pos (denominator q)) <ℤ (q.numerator *ℤ pos (denominator p))
lt_to_cross p q h =
    let k = pos_ratio _ _ (suc_mul_pos q.below p.below) (subst IsPositive (gap_is p q) h.gap) in
    let m : pos 0 <ℤ (q.numerator *ℤ pos (denominator p) +ℤ neg_ℤ (p.numerator *ℤ pos (denominator q))) =
    subst (λ x. pos 0 <ℤ (q.numerator *ℤ pos (denominator p) +ℤ x)) (neg_mul p.numerator (denominator q)) k in
    omega (arith, ints, m)

-- what the comparison by cross products says
pub cmp_ℚ-matches : (p q : ℚ) → MatchOrdering (cmp_ℚ p q) (p <ℚ q) (p ≡ q) (q <ℚ p)
cmp_ℚ-matches p q = go (cmp_ℚ p q) (int_ranked _ _ (cmp_ℚ p q) refl)
  where
    go : (o : Ordering) → MatchOrdering o ((p.numerator *ℤ pos (denominator q)) <ℤ (q.numerator *ℤ pos (denominator p))) (p.numerator *ℤ pos (denominator q) ≡ q.numerator *ℤ pos (denominator p)) ((q.numerator *ℤ pos (denominator p)) <ℤ (p.numerator *ℤ pos (denominator q))) → MatchOrdering o (p <ℚ q) (p ≡ q) (q <ℚ p)
    go Less h = lt_from_cross p q h
    go Equal h = cross_same p q h
    go Greater h = lt_from_cross q p h

-- ---- laws

pub le_refl : (p : ℚ) → p ≤ℚ p
le_refl p = record { gap = subst IsNotNegative (ring (p ∷ []) (int (pos 0)) (var 0 ⊕ minus (var 0)) refl) nonneg_zero }

pub lt_irrefl : {p : ℚ} → p <ℚ p → ⊥
lt_irrefl {p} h = not_pos_zero (subst IsPositive (ring (p ∷ []) (var 0 ⊕ minus (var 0)) (int (pos 0)) refl) h.gap)

pub lt_to_le : {p q : ℚ} → p <ℚ q → p ≤ℚ q
lt_to_le {p} {q} h = record { gap = pos_nonneg h.gap }

gaps_add : (p q r : ℚ) → (r -ℚ q) +ℚ (q -ℚ p) ≡ r -ℚ p
gaps_add p q r = ring (p ∷ q ∷ r ∷ []) ((var 2 ⊕ minus (var 1)) ⊕ (var 1 ⊕ minus (var 0))) (var 2 ⊕ minus (var 0)) refl

gaps_add_back : (p q r : ℚ) → (q -ℚ p) +ℚ (r -ℚ q) ≡ r -ℚ p
gaps_add_back p q r = ring (p ∷ q ∷ r ∷ []) ((var 1 ⊕ minus (var 0)) ⊕ (var 2 ⊕ minus (var 1))) (var 2 ⊕ minus (var 0)) refl

pub le_trans : {p q r : ℚ} → p ≤ℚ q → q ≤ℚ r → p ≤ℚ r
le_trans {p} {q} {r} h k = record { gap = subst IsNotNegative (gaps_add p q r) (nonneg_add k.gap h.gap) }

pub lt_le_trans : {p q r : ℚ} → p <ℚ q → q ≤ℚ r → p <ℚ r
lt_le_trans {p} {q} {r} h k = record { gap = subst IsPositive (gaps_add_back p q r) (pos_add h.gap k.gap) }

pub lt_trans : {p q r : ℚ} → p <ℚ q → q <ℚ r → p <ℚ r
lt_trans {p} {q} {r} h k = lt_le_trans h (lt_to_le k)

pub lt_le_false : {p q : ℚ} → p <ℚ q → q ≤ℚ p → ⊥
lt_le_false {p} {q} h k = lt_irrefl (lt_le_trans h k)

pub le_antisym : {p q : ℚ} → p ≤ℚ q → q ≤ℚ p → p ≡ q
le_antisym {p} {q} h k = go (cmp_ℚ p q) (cmp_ℚ-matches p q)
  where
    go : (o : Ordering) → MatchOrdering o (p <ℚ q) (p ≡ q) (q <ℚ p) → p ≡ q
    go Less m = absurd (lt_le_false m k)
    go Equal m = m
    go Greater m = absurd (lt_le_false m h)

-- of two numbers one is below the other, or else it is not above it
pub lt_or_le : (p q : ℚ) → (p <ℚ q) ⊎ (q ≤ℚ p)
lt_or_le p q = go (cmp_ℚ p q) (cmp_ℚ-matches p q)
  where
    go : (o : Ordering) → MatchOrdering o (p <ℚ q) (p ≡ q) (q <ℚ p) → (p <ℚ q) ⊎ (q ≤ℚ p)
    go Less m = inl m
    go Equal m = inr (subst (λ x. x ≤ℚ p) m (le_refl p))
    go Greater m = inr (lt_to_le m)

pub add_lt_le : {p q r s : ℚ} → p <ℚ q → r ≤ℚ s → (p +ℚ r) <ℚ (q +ℚ s)
add_lt_le {p} {q} {r} {s} h k = record {
  gap =
      subst IsPositive
      (ring (p ∷ q ∷ r ∷ s ∷ []) ((var 1 ⊕ minus (var 0)) ⊕ (var 3 ⊕ minus (var 2))) ((var 1 ⊕ var 3) ⊕ minus (var 0 ⊕ var 2)) refl)
      (pos_add h.gap k.gap);
}

product_gap : (p q t : ℚ) → t *ℚ (q -ℚ p) ≡ t *ℚ q -ℚ t *ℚ p
product_gap p q t = ring (p ∷ q ∷ t ∷ []) (var 2 ⊗ (var 1 ⊕ minus (var 0))) (var 2 ⊗ var 1 ⊕ minus (var 2 ⊗ var 0)) refl

pub mul_lt : {p q : ℚ} (t : ℚ) → IsPositive t → p <ℚ q → (t *ℚ p) <ℚ (t *ℚ q)
mul_lt {p} {q} t n h = record { gap = subst IsPositive (product_gap p q t) (pos_mul n h.gap) }

negated_gap : (p q : ℚ) → q -ℚ p ≡ neg_ℚ p -ℚ neg_ℚ q
negated_gap p q = ring (p ∷ q ∷ []) (var 1 ⊕ minus (var 0)) (minus (var 0) ⊕ minus (minus (var 1))) refl

pub neg_le : {p q : ℚ} → p ≤ℚ q → neg_ℚ q ≤ℚ neg_ℚ p
neg_le {p} {q} h = record { gap = subst IsNotNegative (negated_gap p q) h.gap }

pub neg_lt : {p q : ℚ} → p <ℚ q → neg_ℚ q <ℚ neg_ℚ p
neg_lt {p} {q} h = record { gap = subst IsPositive (negated_gap p q) h.gap }

-- ---- signs as comparisons with zero

less_zero : (p : ℚ) → p ≡ p -ℚ 0ℚ
less_zero p = ring (p ∷ []) (var 0) (var 0 ⊕ minus (int (pos 0))) refl

pub pos_to_lt : {p : ℚ} → IsPositive p → 0ℚ <ℚ p
pos_to_lt {p} h = record { gap = subst IsPositive (less_zero p) h }

pub lt_to_pos : {p : ℚ} → 0ℚ <ℚ p → IsPositive p
lt_to_pos {p} h = subst IsPositive (sym (less_zero p)) h.gap

pub nonneg_to_le : {p : ℚ} → IsNotNegative p → 0ℚ ≤ℚ p
nonneg_to_le {p} h = record { gap = subst IsNotNegative (less_zero p) h }

pub le_to_nonneg : {p : ℚ} → 0ℚ ≤ℚ p → IsNotNegative p
le_to_nonneg {p} h = subst IsNotNegative (sym (less_zero p)) h.gap

-- ---- the comparison is a total order

is_less : (p q : ℚ) → p <ℚ q → cmp_ℚ p q ≡ Less
is_less p q h = go (cmp_ℚ p q) (cmp_ℚ-matches p q)
  where
    go : (o : Ordering) → MatchOrdering o (p <ℚ q) (p ≡ q) (q <ℚ p) → o ≡ Less
    go Less m = refl
    go Equal m = absurd (lt_irrefl (subst (λ x. p <ℚ x) (sym m) h))
    go Greater m = absurd (lt_irrefl (lt_trans h m))

pub is_less_back : (p q : ℚ) → cmp_ℚ p q ≡ Less → p <ℚ q
is_less_back p q e = subst (λ o. MatchOrdering o (p <ℚ q) (p ≡ q) (q <ℚ p)) e (cmp_ℚ-matches p q)

is_equal : (p q : ℚ) → p ≡ q → cmp_ℚ p q ≡ Equal
is_equal p q e = go (cmp_ℚ p q) (cmp_ℚ-matches p q)
  where
    go : (o : Ordering) → MatchOrdering o (p <ℚ q) (p ≡ q) (q <ℚ p) → o ≡ Equal
    go Less m = absurd (lt_irrefl (subst (λ x. p <ℚ x) (sym e) m))
    go Equal m = refl
    go Greater m = absurd (lt_irrefl (subst (λ x. x <ℚ p) (sym e) m))

pub cmp_ℚ-equal : (p q : ℚ) → cmp_ℚ p q ≡ Equal → p ≡ q
cmp_ℚ-equal p q e = subst (λ o. MatchOrdering o (p <ℚ q) (p ≡ q) (q <ℚ p)) e (cmp_ℚ-matches p q)

is_greater : (p q : ℚ) → q <ℚ p → cmp_ℚ p q ≡ Greater
is_greater p q h = go (cmp_ℚ p q) (cmp_ℚ-matches p q)
  where
    go : (o : Ordering) → MatchOrdering o (p <ℚ q) (p ≡ q) (q <ℚ p) → o ≡ Greater
    go Less m = absurd (lt_irrefl (lt_trans h m))
    go Equal m = absurd (lt_irrefl (subst (λ x. q <ℚ x) m h))
    go Greater m = refl

reversed : (p q : ℚ) → cmp_ℚ p q ≡ ordering_reverse (cmp_ℚ q p)
reversed p q = go (cmp_ℚ p q) refl (cmp_ℚ-matches p q)
  where
    go : (o : Ordering) → cmp_ℚ p q ≡ o → MatchOrdering o (p <ℚ q) (p ≡ q) (q <ℚ p) → cmp_ℚ p q ≡ ordering_reverse (cmp_ℚ q p)
    go Less e m = e ∙ ap ordering_reverse (sym (is_greater q p m))
    go Equal e m = e ∙ ap ordering_reverse (sym (is_equal q p (sym m)))
    go Greater e m = e ∙ ap ordering_reverse (sym (is_less q p m))

pub cmp_ℚ-total : IsTotalOrder cmp_ℚ
cmp_ℚ-total = record {
  antisymm = reversed;
  trans = λ p q r e f. is_less p r (lt_trans (is_less_back p q e) (is_less_back q r f));
  congr = λ p q r e. ap (λ x. cmp_ℚ x r) (cmp_ℚ-equal p q e);
}
