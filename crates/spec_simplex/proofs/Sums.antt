-- Sums over the numbers below a size.
use Rattle.std.proofs.Common.{◌≡◌, ℕ, zero, suc, ◌<◌, [], ◌∷◌, pos, arith, refl, ap, ap₂, subst, ◌∙◌, ◌⊎◌, inl, inr}
use Rattle.spec_numbers.specs.Rational.{ℚ, 0ℚ, ◌+ℚ◌, ◌*ℚ◌, neg_ℚ, ◌-ℚ◌, IsPositive, IsNotNegative}
use Rattle.spec_numbers.proofs.Ring.{var, int, ◌⊕◌, ◌⊗◌, minus}
use Rattle.spec_numbers.proofs.RationalLemmas.{ring}
use Rattle.spec_numbers.proofs.Sign.{pos_add, nonneg_add, pos_nonneg, not_pos_zero, nonneg_zero, Sign, is_zero, is_pos, is_neg, sign}
use Rattle.spec_simplex.specs.Dictionary.{sum_below}

pub equal_or_not : (x y : ℕ) → (x ≡ y) ⊎ (x ≡ y → ⊥)
equal_or_not x y = grind arith

pub sum_none : (n : ℕ) (f : ℕ → ℚ) → ((q : ℕ) → q < n → f q ≡ 0ℚ) → sum_below n f ≡ 0ℚ
sum_none zero f h = refl
sum_none (suc n) f h = ap₂ (λ x y. x +ℚ y) (h n (omega arith)) (sum_none n f (λ q l. h q (omega (arith, l)))) ∙ ring [] (int (pos 0) ⊕ int (pos 0)) (int (pos 0)) refl

-- where f is 0 but at s
pub sum_only : (n : ℕ) (f : ℕ → ℚ) (s : ℕ) → s < n → ((q : ℕ) → (q ≡ s → ⊥) → f q ≡ 0ℚ) → sum_below n f ≡ f s
sum_only zero f s l h = absurd (omega arith)
sum_only (suc n) f s l h = elim (equal_or_not n s) [
  | inl e ↦
      ap₂ (λ x y. x +ℚ y) (ap f e) (sum_none n f (λ q k. h q (λ z. omega (arith, k, z, e))))
      ∙ ring (f s ∷ []) (var 0 ⊕ int (pos 0)) (var 0) refl
  | inr e ↦ ap₂ (λ x y. x +ℚ y) (h n e) (sum_only n f s (omega (arith, l, e)) h) ∙ ring (f s ∷ []) (int (pos 0) ⊕ var 0) (var 0) refl
]

pub sum_difference : (n : ℕ) (c f g : ℕ → ℚ) → sum_below n (λ q. c q *ℚ f q) -ℚ sum_below n (λ q. c q *ℚ g q) ≡ sum_below n (λ q. c q *ℚ (f q -ℚ g q))
sum_difference zero c f g = ring [] (int (pos 0) ⊕ minus (int (pos 0))) (int (pos 0)) refl
sum_difference (suc n) c f g =
    ring (c n ∷ f n ∷ g n ∷ sum_below n (λ q. c q *ℚ f q) ∷ sum_below n (λ q. c q *ℚ g q) ∷ [])
    (var 0 ⊗ var 1 ⊕ var 3 ⊕ minus (var 0 ⊗ var 2 ⊕ var 4)) (var 0 ⊗ (var 1 ⊕ minus (var 2)) ⊕ (var 3 ⊕ minus (var 4))) refl
    ∙ ap (λ w. c n *ℚ (f n -ℚ g n) +ℚ w) (sum_difference n c f g)

-- a positive sum has a positive member
pub some_positive : (n : ℕ) (f : ℕ → ℚ) → IsPositive (sum_below n f) → (q : ℕ) × IsPositive (f q)
some_positive zero f h = absurd (not_pos_zero h)
some_positive (suc n) f h = go (sign (f n)) (some_positive n f)
  where
    go : Sign (f n) → (IsPositive (sum_below n f) → (q : ℕ) × IsPositive (f q)) → (q : ℕ) × IsPositive (f q)
    go (is_pos p) rec = (n, p)
    go (is_zero e) rec = rec (subst IsPositive (ap (λ w. w +ℚ sum_below n f) e ∙ ring (sum_below n f ∷ []) (int (pos 0) ⊕ var 0) (var 0) refl) h)
    go (is_neg p) rec = rec (subst IsPositive (ring (f n ∷ sum_below n f ∷ []) (var 0 ⊕ var 1 ⊕ minus (var 0)) (var 1) refl) (pos_add h (pos_nonneg p)))

-- a sum of members not above zero is not above zero
pub sum_falls : (n : ℕ) (f : ℕ → ℚ) → ((q : ℕ) → IsNotNegative (neg_ℚ (f q))) → IsNotNegative (neg_ℚ (sum_below n f))
sum_falls zero f h = subst IsNotNegative (ring [] (int (pos 0)) (minus (int (pos 0))) refl) nonneg_zero
sum_falls (suc n) f h = subst IsNotNegative (ring (f n ∷ sum_below n f ∷ []) (minus (var 0) ⊕ minus (var 1)) (minus (var 0 ⊕ var 1)) refl) (nonneg_add (h n) (sum_falls n f h))
