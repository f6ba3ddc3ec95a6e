-- Values of the other variables satisfy the list without x exactly where some value of x satisfies the list.
use Rattle.std.proofs.Common.{zero, suc, ◌≡◌, ◌↔◌, ℕ, [], ◌∷◌, Bool, true, false, cond, ℤ, pos, negsuc, ◌<ℤ◌, arith, refl, ap, ap₂, sym, subst, ◌∙◌}
use Rattle.std.proofs.lemmas.Int.{ints}
use Rattle.std.specs.Prelude.{◌==◌}
use Rattle.spec_numbers.specs.Rational.{ℚ, 0ℚ, 1ℚ, ◌+ℚ◌, ◌-ℚ◌, ◌*ℚ◌, neg_ℚ, inv_ℚ, IsPositive}
use Rattle.spec_numbers.specs.Sums.{unit, when, factor_of, sum_at}
use Rattle.spec_numbers.proofs.Ring.{var, int, ◌⊕◌, ◌⊗◌, minus}
use Rattle.spec_numbers.proofs.RationalLemmas.{ring}
use Rattle.spec_numbers.proofs.Sign.{inv_mul}
use Rattle.spec_numbers.proofs.Sums.{sum_at-plus, sum_at-times, sum_at-agrees, factor_of-is}
use Rattle.spec_linear.specs.Form.{Linear, value_at, scaled_form, changed_at}
use Rattle.spec_linear.specs.Solution.{Constraint, Meets, HoldsAt}
use Rattle.spec_linear.proofs.Values.{value_at-sum_form, value_at-scaled_form}
use Rattle.spec_numbers.proofs.Tests.{nat_eq-same}
use Rattle.spec_linear.proofs.Points.{meets_same}
use Rattle.spec_projection.specs.Elimination.{is_above_zero, is_positive, coefficient, combination}

-- ---- the test of signs

above_zero-true : (z : ℤ) → pos 0 <ℤ z → is_above_zero z ≡ true
above_zero-true (pos zero) h = absurd (omega (arith, ints, h))
above_zero-true (pos (suc n)) h = refl
above_zero-true (negsuc n) h = absurd (omega (arith, ints, h))

above_zero-of : (z : ℤ) → is_above_zero z ≡ true → pos 0 <ℤ z
above_zero-of (pos zero) e = let d : false ≡ true = e in cc
above_zero-of (pos (suc n)) e = omega (arith, ints)
above_zero-of (negsuc n) e = let d : false ≡ true = e in cc

pub is_positive-true : (q : ℚ) → IsPositive q → is_positive q ≡ true
is_positive-true q h = above_zero-true q.numerator h.positive

pub is_positive-of : (q : ℚ) → is_positive q ≡ true → IsPositive q
is_positive-of q e = record { positive = above_zero-of q.numerator e }

-- ---- the value where x is another

changed_is : (a : ℕ → ℚ) (x y : ℕ) (q : ℚ) → changed_at x q a y ≡ a y +ℚ (q -ℚ a x) *ℚ unit x y
changed_is a x y q = go (x == y) refl
  where
    go : (b : Bool) → (x == y) ≡ b → cond b q (a y) ≡ a y +ℚ (q -ℚ a x) *ℚ when b 1ℚ
    go true e = ring (q ∷ a x ∷ []) (var 0) (var 1 ⊕ (var 0 ⊕ minus (var 1)) ⊗ int (pos 1)) refl ∙ ap (λ z. a z +ℚ (q -ℚ a x) *ℚ 1ℚ) (nat_eq-same x y e)
    go false e = ring (a y ∷ (q -ℚ a x) ∷ []) (var 0) (var 0 ⊕ var 1 ⊗ int (pos 0)) refl

pub value_at-changed : (a : ℕ → ℚ) (x : ℕ) (q : ℚ) (f : Linear) → value_at (changed_at x q a) f ≡ value_at a f +ℚ (q -ℚ a x) *ℚ factor_of x f.products
value_at-changed a x q f =
    let d : ℚ = q -ℚ a x in
    ap (λ w. f.constant +ℚ w)
    (sum_at-agrees (changed_at x q a) (λ y. a y +ℚ d *ℚ unit x y) f.products (λ y k. changed_is a x y q)
    ∙ sum_at-plus a (λ y. d *ℚ unit x y) f.products
    ∙ ap (λ w. sum_at a f.products +ℚ w) (sum_at-times d (unit x) f.products ∙ ap (λ w. d *ℚ w) (sym (factor_of-is x f.products))))
    ∙ ring (f.constant ∷ sum_at a f.products ∷ (d *ℚ factor_of x f.products) ∷ []) (var 0 ⊕ (var 1 ⊕ var 2)) ((var 0 ⊕ var 1) ⊕ var 2) refl

-- the offset from the value at x, where the coefficient is p
abbrev pub offset : (ℕ → ℚ) → ℚ → Constraint → ℚ
offset a p c = inv_ℚ p *ℚ value_at a c.form

-- a multiple of the displacement and the offset
displaced : (p v t : ℚ) → IsPositive p → p *ℚ (t +ℚ inv_ℚ p *ℚ v) ≡ v +ℚ t *ℚ p
displaced p v t h =
    ring (p ∷ inv_ℚ p ∷ v ∷ t ∷ []) (var 0 ⊗ (var 3 ⊕ var 1 ⊗ var 2)) ((var 0 ⊗ var 1) ⊗ var 2 ⊕ var 3 ⊗ var 0) refl
    ∙ ap (λ w. w *ℚ v +ℚ t *ℚ p) (inv_mul h)
    ∙ ring (p ∷ v ∷ t ∷ []) (int (pos 1) ⊗ var 1 ⊕ var 2 ⊗ var 0) (var 1 ⊕ var 2 ⊗ var 0) refl

module _ (x : ℕ) (a : ℕ → ℚ) where
  abbrev pub low : Constraint → ℚ
  low c = offset a (coefficient x c) c

  abbrev pub high : Constraint → ℚ
  high c = offset a (neg_ℚ (coefficient x c)) c

  pub lower_same : (q : ℚ) (c : Constraint) → IsPositive (coefficient x c) → HoldsAt (changed_at x q a) c ↔ Meets c.relation ((q -ℚ a x) +ℚ low c)
  lower_same q c h =
      let e : coefficient x c *ℚ ((q -ℚ a x) +ℚ low c) ≡ value_at (changed_at x q a) c.form =
      displaced (coefficient x c) (value_at a c.form) (q -ℚ a x) h ∙ sym (value_at-changed a x q c.form) in
      let m = meets_same c.relation (coefficient x c) ((q -ℚ a x) +ℚ low c) h in
      ((λ k. m.0 (subst (Meets c.relation) (sym e) k)), (λ k. subst (Meets c.relation) e (m.1 k)))

  pub upper_same : (q : ℚ) (c : Constraint) → IsPositive (neg_ℚ (coefficient x c)) → HoldsAt (changed_at x q a) c ↔ Meets c.relation (neg_ℚ (q -ℚ a x) +ℚ high c)
  upper_same q c h =
      let e : neg_ℚ (coefficient x c) *ℚ (neg_ℚ (q -ℚ a x) +ℚ high c) ≡ value_at (changed_at x q a) c.form =
      displaced (neg_ℚ (coefficient x c)) (value_at a c.form) (neg_ℚ (q -ℚ a x)) h
      ∙ ring (value_at a c.form ∷ (q -ℚ a x) ∷ coefficient x c ∷ []) (var 0 ⊕ minus (var 1) ⊗ minus (var 2)) (var 0 ⊕ var 1 ⊗ var 2) refl
      ∙ sym (value_at-changed a x q c.form) in
      let m = meets_same c.relation (neg_ℚ (coefficient x c)) (neg_ℚ (q -ℚ a x) +ℚ high c) h in
      ((λ k. m.0 (subst (Meets c.relation) (sym e) k)), (λ k. subst (Meets c.relation) e (m.1 k)))

  pub other_same : (q : ℚ) (c : Constraint) → coefficient x c ≡ 0ℚ → value_at (changed_at x q a) c.form ≡ value_at a c.form
  other_same q c e =
      value_at-changed a x q c.form ∙ ap (λ w. value_at a c.form +ℚ (q -ℚ a x) *ℚ w) e
      ∙ ring (value_at a c.form ∷ (q -ℚ a x) ∷ []) (var 0 ⊕ var 1 ⊗ int (pos 0)) (var 0) refl

  pub combination_is : (c d : Constraint) → value_at a (combination x c d).form ≡ low c +ℚ high d
  combination_is c d =
      value_at-sum_form a (scaled_form (inv_ℚ (coefficient x c)) c.form) (scaled_form (inv_ℚ (neg_ℚ (coefficient x d))) d.form)
      ∙ ap₂ (λ v w. v +ℚ w) (value_at-scaled_form a (inv_ℚ (coefficient x c)) c.form) (value_at-scaled_form a (inv_ℚ (neg_ℚ (coefficient x d))) d.form)
