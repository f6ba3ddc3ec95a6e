-- What a printed inequality says of the sum of its products.
use Rattle.std.proofs.Common.{◌≡◌, ◌≢◌, ◌↔◌, ℕ, List, [], ◌∷◌, pos, refl, ap, sym, subst, ◌∙◌}
use Rattle.spec_numbers.specs.Rational.{ℚ, 0ℚ, ◌+ℚ◌, ◌-ℚ◌, neg_ℚ, IsPositive, IsNotNegative, ◌≤ℚ◌, ◌<ℚ◌}
use Rattle.spec_numbers.specs.Sums.{Monomial, sum_at, negated_products}
use Rattle.spec_numbers.proofs.Ring.{var, int, ◌⊕◌, minus}
use Rattle.spec_numbers.proofs.RationalLemmas.{ring, add_comm}
use Rattle.spec_numbers.proofs.Sums.{sum_at-negated_products}
use Rattle.spec_linear.specs.Solution.{HoldsAt}
use Rattle.spec_projection.specs.Printed.{AtLeast, Above, AtMost, Below, compared, unequal_to}

module _ (a : ℕ → ℚ) (s : List Monomial) (q : ℚ) where
  turned : q +ℚ sum_at a (negated_products s) ≡ q -ℚ sum_at a s
  turned = ap (λ w. q +ℚ w) (sum_at-negated_products a s)

  front : neg_ℚ q +ℚ sum_at a s ≡ sum_at a s -ℚ q
  front = add_comm (neg_ℚ q) (sum_at a s)

  pub least : HoldsAt a (compared s AtLeast q) ↔ (q ≤ℚ sum_at a s)
  least = ((λ h. record { gap = subst IsNotNegative front h }), (λ h. subst IsNotNegative (sym front) h.gap))

  pub over : HoldsAt a (compared s Above q) ↔ (q <ℚ sum_at a s)
  over = ((λ h. record { gap = subst IsPositive front h }), (λ h. subst IsPositive (sym front) h.gap))

  pub most : HoldsAt a (compared s AtMost q) ↔ (sum_at a s ≤ℚ q)
  most = ((λ h. record { gap = subst IsNotNegative turned h }), (λ h. subst IsNotNegative (sym turned) h.gap))

  pub under : HoldsAt a (compared s Below q) ↔ (sum_at a s <ℚ q)
  under = ((λ h. record { gap = subst IsPositive turned h }), (λ h. subst IsPositive (sym turned) h.gap))

  same_number : sum_at a s -ℚ q ≡ 0ℚ → sum_at a s ≡ q
  same_number e =
      ring (sum_at a s ∷ q ∷ []) (var 0) ((var 0 ⊕ minus (var 1)) ⊕ var 1) refl ∙ ap (λ w. w +ℚ q) e ∙ ring (q ∷ []) (int (pos 0) ⊕ var 0) (var 0) refl

  no_gap : sum_at a s ≡ q → sum_at a s -ℚ q ≡ 0ℚ
  no_gap e = ap (λ w. w -ℚ q) e ∙ ring (q ∷ []) (var 0 ⊕ minus (var 0)) (int (pos 0)) refl

  pub unequal : HoldsAt a (unequal_to s q) ↔ (sum_at a s ≢ q)
  unequal = ((λ h e. h (front ∙ no_gap e)), (λ h e. h (same_number (sym front ∙ e))))
