-- The values that are tried stand between the bounds, and are different.
use Rattle.std.proofs.Common.{◌≡◌, ◌⊎◌, inl, inr, ℕ, zero, suc, ◌+◌, ◌-◌, ◌<◌, List, [], ◌∷◌, pos, refl, sym, ap, subst, ◌∙◌, arith}
use Rattle.spec_numbers.specs.Rational.{ℚ, 0ℚ, 1ℚ, int_ℚ, ◌+ℚ◌, ◌-ℚ◌, ◌*ℚ◌, ◌/ℚ◌, inv_ℚ, IsPositive, ◌<ℚ◌}
use Rattle.spec_numbers.proofs.Ring.{var, int, ◌⊕◌, ◌⊗◌, minus}
use Rattle.spec_numbers.proofs.RationalLemmas.{ring, ℚ_ring}
use Rattle.spec_numbers.proofs.Sign.{pos_add, pos_mul, pos_nonneg, pos_one, inv_mul, inv_pos}
use Rattle.spec_points.specs.Bounds.{Between, OnlyAbove, OnlyBelow, Anywhere, tried, whole}

-- ---- whole numbers

whole_next : (k : ℕ) → whole (suc k) ≡ whole k +ℚ 1ℚ
whole_next k = let e : suc k ≡ k + 1 = omega arith in ap whole e ∙ ℚ_ring.of_add (pos k) (pos 1)

whole_positive : (k : ℕ) → IsPositive (whole (suc k))
whole_positive zero = pos_one
whole_positive (suc k) = subst IsPositive (sym (whole_next (suc k))) (pos_add (whole_positive k) (pos_nonneg pos_one))

whole_gap : (j k : ℕ) → j < k → IsPositive (whole k -ℚ whole j)
whole_gap j k h =
    let d : ℕ = k - suc j in
    let e : k ≡ j + suc d = omega (arith, h) in
    subst IsPositive
    (sym (ap (λ (n : ℕ). whole n -ℚ whole j) e ∙ ap (λ (z : ℚ). z -ℚ whole j) (ℚ_ring.of_add (pos j) (pos (suc d)))
    ∙ ring (whole j ∷ whole (suc d) ∷ []) ((var 0 ⊕ var 1) ⊕ minus (var 0)) (var 1) refl))
    (whole_positive d)

suc_gap : (j k : ℕ) → j < k → IsPositive (whole (suc k) -ℚ whole (suc j))
suc_gap j k h = whole_gap (suc j) (suc k) (omega (arith, h))

-- one value is less than the other
abbrev pub AreApart : ℚ → ℚ → Type 0
AreApart p q = (p <ℚ q) ⊎ (q <ℚ p)

-- ---- between two bounds

module _ (a b : ℚ) (less : a <ℚ b) where
  abbrev inverse : ℕ → ℚ
  inverse k = inv_ℚ (whole (suc (suc k)))

  divided_positive : (k : ℕ) → IsPositive ((b -ℚ a) *ℚ inverse k)
  divided_positive k = pos_mul less.gap (inv_pos (whole_positive (suc k)))

  pub between_low : (k : ℕ) → a <ℚ tried (Between a b) k
  between_low k = record {
    gap = subst IsPositive (ring (a ∷ b ∷ inverse k ∷ []) ((var 1 ⊕ minus (var 0)) ⊗ var 2) ((var 0 ⊕ (var 1 ⊕ minus (var 0)) ⊗ var 2) ⊕ minus (var 0)) refl)
        (divided_positive k);
  }

  -- what is left above the value is as many parts less one
  left_above : (k : ℕ) → ((b -ℚ a) *ℚ inverse k) *ℚ whole (suc k) ≡ b -ℚ tried (Between a b) k
  left_above k =
      ring (a ∷ b ∷ inverse k ∷ whole (suc k) ∷ [])
      (((var 1 ⊕ minus (var 0)) ⊗ var 2) ⊗ var 3)
      ((var 1 ⊕ minus (var 0)) ⊗ ((var 3 ⊕ int (pos 1)) ⊗ var 2) ⊕ minus ((var 1 ⊕ minus (var 0)) ⊗ var 2)) refl
      ∙ ap (λ (n : ℚ). (b -ℚ a) *ℚ (n *ℚ inverse k) -ℚ (b -ℚ a) *ℚ inverse k) (sym (whole_next (suc k)))
      ∙ ap (λ (w : ℚ). (b -ℚ a) *ℚ w -ℚ (b -ℚ a) *ℚ inverse k) (inv_mul (whole_positive (suc k)))
      ∙ ring (a ∷ b ∷ inverse k ∷ [])
      ((var 1 ⊕ minus (var 0)) ⊗ int (pos 1) ⊕ minus ((var 1 ⊕ minus (var 0)) ⊗ var 2))
      (var 1 ⊕ minus (var 0 ⊕ (var 1 ⊕ minus (var 0)) ⊗ var 2)) refl

  pub between_high : (k : ℕ) → tried (Between a b) k <ℚ b
  between_high k = record { gap = subst IsPositive (left_above k) (pos_mul (divided_positive k) (whole_positive k)) }

  -- the later value is less
  fall : (j k : ℕ) → (((b -ℚ a) *ℚ inverse j) *ℚ inverse k) *ℚ (whole (suc (suc k)) -ℚ whole (suc (suc j)))
      ≡ tried (Between a b) j -ℚ tried (Between a b) k
  fall j k =
      ring (a ∷ b ∷ inverse j ∷ inverse k ∷ whole (suc (suc j)) ∷ whole (suc (suc k)) ∷ [])
      ((((var 1 ⊕ minus (var 0)) ⊗ var 2) ⊗ var 3) ⊗ (var 5 ⊕ minus (var 4)))
      ((var 1 ⊕ minus (var 0)) ⊗ (var 2 ⊗ (var 5 ⊗ var 3)) ⊕ minus ((var 1 ⊕ minus (var 0)) ⊗ (var 3 ⊗ (var 4 ⊗ var 2)))) refl
      ∙ ap (λ (w : ℚ). (b -ℚ a) *ℚ (inverse j *ℚ w) -ℚ (b -ℚ a) *ℚ (inverse k *ℚ (whole (suc (suc j)) *ℚ inverse j))) (inv_mul (whole_positive (suc k)))
      ∙ ap (λ (w : ℚ). (b -ℚ a) *ℚ (inverse j *ℚ 1ℚ) -ℚ (b -ℚ a) *ℚ (inverse k *ℚ w)) (inv_mul (whole_positive (suc j)))
      ∙ ring (a ∷ b ∷ inverse j ∷ inverse k ∷ [])
      ((var 1 ⊕ minus (var 0)) ⊗ (var 2 ⊗ int (pos 1)) ⊕ minus ((var 1 ⊕ minus (var 0)) ⊗ (var 3 ⊗ int (pos 1))))
      ((var 0 ⊕ (var 1 ⊕ minus (var 0)) ⊗ var 2) ⊕ minus (var 0 ⊕ (var 1 ⊕ minus (var 0)) ⊗ var 3)) refl

  pub between_apart : (j k : ℕ) → j < k → AreApart (tried (Between a b) j) (tried (Between a b) k)
  between_apart j k h = inr (record {
    gap = subst IsPositive (fall j k) (pos_mul (pos_mul (divided_positive j) (inv_pos (whole_positive (suc k)))) (suc_gap (suc j) (suc k) (omega (arith, h))));
  })

-- two equal bounds
pub between_none : (a b : ℚ) → a ≡ b → (k : ℕ) → tried (Between a b) k ≡ a
between_none a b e k =
    ap (λ (z : ℚ). a +ℚ (z -ℚ a) *ℚ inv_ℚ (whole (suc (suc k)))) (sym e)
    ∙ ring (a ∷ inv_ℚ (whole (suc (suc k))) ∷ []) (var 0 ⊕ (var 0 ⊕ minus (var 0)) ⊗ var 1) (var 0) refl

-- ---- with one bound, and with none

pub above_low : (a : ℚ) (k : ℕ) → a <ℚ tried (OnlyAbove a) k
above_low a k = record { gap = subst IsPositive (ring (a ∷ whole (suc k) ∷ []) (var 1) ((var 0 ⊕ var 1) ⊕ minus (var 0)) refl) (whole_positive k) }

pub above_apart : (a : ℚ) (j k : ℕ) → j < k → AreApart (tried (OnlyAbove a) j) (tried (OnlyAbove a) k)
above_apart a j k h = inl (record {
  gap = subst IsPositive (ring (a ∷ whole (suc j) ∷ whole (suc k) ∷ []) (var 2 ⊕ minus (var 1)) ((var 0 ⊕ var 2) ⊕ minus (var 0 ⊕ var 1)) refl) (suc_gap j k h);
})

pub below_high : (b : ℚ) (k : ℕ) → tried (OnlyBelow b) k <ℚ b
below_high b k = record { gap = subst IsPositive (ring (b ∷ whole (suc k) ∷ []) (var 1) (var 0 ⊕ minus (var 0 ⊕ minus (var 1))) refl) (whole_positive k) }

pub below_apart : (b : ℚ) (j k : ℕ) → j < k → AreApart (tried (OnlyBelow b) j) (tried (OnlyBelow b) k)
below_apart b j k h = inr (record {
  gap = subst IsPositive (ring (b ∷ whole (suc j) ∷ whole (suc k) ∷ []) (var 2 ⊕ minus (var 1)) ((var 0 ⊕ minus (var 1)) ⊕ minus (var 0 ⊕ minus (var 2))) refl) (suc_gap j k h);
})

pub anywhere_apart : (j k : ℕ) → j < k → AreApart (tried Anywhere j) (tried Anywhere k)
anywhere_apart j k h = inl (record { gap = whole_gap j k h })
