-- A scaled form is a multiple of the form, and the same one for all its multiples.
use Rattle.std.proofs.Common.{◌≡◌, ◌≢◌, ◌⊎◌, inl, inr, ℕ, List, [], ◌∷◌, Bool, true, false, cond, not, pos, refl, ap, ap₂, sym, subst, ◌∙◌}
use Rattle.spec_numbers.specs.Rational.{ℚ, 0ℚ, 1ℚ, ◌+ℚ◌, ◌*ℚ◌, inv_ℚ}
use Rattle.spec_numbers.specs.Sums.{Monomial, scaled_products, sum_at}
use Rattle.spec_numbers.proofs.Ring.{var, int, ◌⊕◌, ◌⊗◌}
use Rattle.spec_numbers.proofs.RationalLemmas.{ring}
use Rattle.spec_numbers.proofs.Sign.{zero_or_not, one_not_zero, product_zero, times_inverse, inverse_not_zero}
use Rattle.spec_linear.specs.Form.{Linear, value_at, IsSumFrom, IsForm, is_zero, without_zeros, scaled_form}
use Rattle.spec_linear.proofs.Values.{value_at-scaled_form, is_zero-true, is_zero-of}
use Rattle.spec_linear.proofs.Ordered.{forms_same, IsForm-scaled_form}
use Rattle.spec_projection.specs.Strict.{AreMultiples}
use Rattle.spec_projection.proofs.Arranged.{multiples_back, multiples_both}
use Rattle.cq_elimination.specs.Scaling.{leading_of, leading, canonical}

-- a number, or 1 for it where it is zero
pub unless_zero : (q : ℚ) → q ≢ 0ℚ → cond (is_zero q) 1ℚ q ≡ q
unless_zero q n = go (is_zero q) refl
  where
    go : (b : Bool) → is_zero q ≡ b → cond b 1ℚ q ≡ q
    go true e = absurd (n (is_zero-true q e))
    go false e = refl

pub leading_stands : (q : ℚ) (s : List Monomial) → IsSumFrom 0 s → leading_of s q ≢ 0ℚ
leading_stands q [] i = go (is_zero q) refl
  where
    zero_is : is_zero 0ℚ ≡ true
    zero_is = is_zero-of 0ℚ refl

    go : (b : Bool) → is_zero q ≡ b → cond b 1ℚ q ≢ 0ℚ
    go true e = one_not_zero
    go false e = λ z. let t : is_zero q ≡ true = ap is_zero z ∙ zero_is in let d : false ≡ true = sym e ∙ t in cc
leading_stands q (m ∷ s) i = i.1

pub scaled_multiple : (f : Linear) → IsForm f → AreMultiples f (canonical f)
scaled_multiple f i = record {
  factor = inv_ℚ (leading f);
  nonzero = inverse_not_zero (leading f) (leading_stands f.constant f.products i);
  same = λ a. value_at-scaled_form a (inv_ℚ (leading f)) f;
}

-- ---- what leads a multiple
leading-scaled : (k q : ℚ) (s : List Monomial) → k ≢ 0ℚ → IsSumFrom 0 s
    → (leading_of (without_zeros (scaled_products k s)) (k *ℚ q) ≡ k *ℚ leading_of s q) ⊎ ((s ≡ []) × (q ≡ 0ℚ))
leading-scaled k q [] n i = elim (zero_or_not q) [
  | inl z ↦ inr (refl, z)
  | inr m ↦ inl (unless_zero (k *ℚ q) (λ z. m (product_zero k q n z)) ∙ ap (λ w. k *ℚ w) (sym (unless_zero q m)))
]
leading-scaled k q (m ∷ s) n i = inl (go (is_zero (k *ℚ m.factor)) refl)
  where
    go : (b : Bool) → is_zero (k *ℚ m.factor) ≡ b
        → leading_of (cond (not b) (record { variable = m.variable; factor = k *ℚ m.factor } ∷ without_zeros (scaled_products k s)) (without_zeros (scaled_products k s))) (k *ℚ q) ≡ k *ℚ m.factor
    go true e = absurd (i.1 (product_zero k m.factor n (is_zero-true (k *ℚ m.factor) e)))
    go false e = refl

-- the inverse of p takes v where that of k p takes k v
same_quotient : (k p v : ℚ) → k ≢ 0ℚ → p ≢ 0ℚ → inv_ℚ p *ℚ v ≡ inv_ℚ (k *ℚ p) *ℚ (k *ℚ v)
same_quotient k p v n m =
    let i : ℚ = inv_ℚ p in
    let j : ℚ = inv_ℚ (k *ℚ p) in
    let b : (k *ℚ p) *ℚ j ≡ 1ℚ = times_inverse (k *ℚ p) (λ z. m (product_zero k p n z)) in
    ring (i ∷ v ∷ []) (var 0 ⊗ var 1) (int (pos 1) ⊗ (var 0 ⊗ var 1)) refl ∙ ap (λ w. w *ℚ (i *ℚ v)) (sym b)
    ∙ ring (k ∷ p ∷ v ∷ i ∷ j ∷ []) (((var 0 ⊗ var 1) ⊗ var 4) ⊗ (var 3 ⊗ var 2)) ((var 1 ⊗ var 3) ⊗ (var 4 ⊗ (var 0 ⊗ var 2))) refl
    ∙ ap (λ w. w *ℚ (j *ℚ (k *ℚ v))) (times_inverse p m)
    ∙ ring (k ∷ v ∷ j ∷ []) (int (pos 1) ⊗ (var 2 ⊗ (var 0 ⊗ var 1))) (var 2 ⊗ (var 0 ⊗ var 1)) refl

-- a zero form has no other multiple
nothing_scaled : (i j k : ℚ) (f : Linear) → f.products ≡ [] → f.constant ≡ 0ℚ → (a : ℕ → ℚ) → i *ℚ value_at a f ≡ j *ℚ (k *ℚ value_at a f)
nothing_scaled i j k f e z a =
    let none : value_at a f ≡ 0ℚ = ap₂ (λ u s. u +ℚ sum_at a s) z e ∙ ring [] (int (pos 0) ⊕ int (pos 0)) (int (pos 0)) refl in
    ap (λ w. i *ℚ w) none ∙ ring (i ∷ j ∷ k ∷ []) (var 0 ⊗ int (pos 0)) (var 1 ⊗ (var 2 ⊗ int (pos 0))) refl ∙ ap (λ w. j *ℚ (k *ℚ w)) (sym none)

canonical-scaled : (k : ℚ) (f : Linear) → k ≢ 0ℚ → IsForm f → canonical f ≡ canonical (scaled_form k f)
canonical-scaled k f n i =
    forms_same (canonical f) (canonical (scaled_form k f)) (IsForm-scaled_form (inv_ℚ (leading f)) f i)
    (IsForm-scaled_form (inv_ℚ (leading (scaled_form k f))) (scaled_form k f) (IsForm-scaled_form k f i)) (λ a.
    value_at-scaled_form a (inv_ℚ (leading f)) f ∙ values a
    ∙ ap (λ w. inv_ℚ (leading (scaled_form k f)) *ℚ w) (sym (value_at-scaled_form a k f))
    ∙ sym (value_at-scaled_form a (inv_ℚ (leading (scaled_form k f))) (scaled_form k f)))
  where
    values : (a : ℕ → ℚ) → inv_ℚ (leading f) *ℚ value_at a f ≡ inv_ℚ (leading (scaled_form k f)) *ℚ (k *ℚ value_at a f)
    values a = elim (leading-scaled k f.constant f.products n i) [
      | inl e ↦ same_quotient k (leading f) (value_at a f) n (leading_stands f.constant f.products i) ∙ ap (λ w. inv_ℚ w *ℚ (k *ℚ value_at a f)) (sym e)
      | inr z ↦ nothing_scaled (inv_ℚ (leading f)) (inv_ℚ (leading (scaled_form k f))) k f z.0 z.1 a
    ]

-- ---- multiples are scaled to one form
module _ (f g : Linear) (own : IsForm f) (other : IsForm g) where
  pub multiples_scaled : AreMultiples f g → canonical f ≡ canonical g
  multiples_scaled m =
      let is : scaled_form m.factor f ≡ g = forms_same (scaled_form m.factor f) g (IsForm-scaled_form m.factor f own) other (λ a. value_at-scaled_form a m.factor f ∙ sym (m.same a)) in
      canonical-scaled m.factor f m.nonzero own ∙ ap canonical is

  pub scaled_multiples : canonical f ≡ canonical g → AreMultiples f g
  scaled_multiples e =
      multiples_both f (canonical f) g (scaled_multiple f own) (multiples_back g (canonical f) (subst (AreMultiples g) (sym e) (scaled_multiple g other)))
