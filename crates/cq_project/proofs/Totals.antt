-- Sums over some variables of a number for each, times its value.
use Rattle.std.proofs.Common.{◌≡◌, inl, inr, ℕ, List, [], ◌∷◌, Bool, true, false, nat_eq, pos, refl, ap, ap₂, sym, subst, ◌∙◌}
use Rattle.spec_numbers.specs.Rational.{ℚ, 0ℚ, 1ℚ, ◌+ℚ◌, ◌*ℚ◌}
use Rattle.spec_numbers.specs.Sums.{Monomial, Mentions, when, unit, factor_of, sum_at}
use Rattle.spec_numbers.proofs.Ring.{var, int, ◌⊕◌, ◌⊗◌}
use Rattle.spec_numbers.proofs.RationalLemmas.{ring}
use Rattle.spec_linear.specs.Solution.{Has}
use Rattle.spec_numbers.proofs.Tests.{nat_eq-same, nat_eq-self, nat_eq-apart, nat_eq-sym}
use Rattle.spec_linear.specs.Echelon.{AreDistinct}

abbrev pub total : (ℕ → ℚ) → (ℕ → ℚ) → List ℕ → ℚ
total v g [] = 0ℚ
total v g (x ∷ xs) = g x *ℚ v x +ℚ total v g xs

module _ (v : ℕ → ℚ) where
  pub total_same : (w g h : ℕ → ℚ) (xs : List ℕ) → ((x : ℕ) → Has x xs → g x *ℚ v x ≡ h x *ℚ w x) → total v g xs ≡ total w h xs
  total_same w g h [] e = refl
  total_same w g h (x ∷ xs) e = ap₂ (λ a b. a +ℚ b) (e x (inl refl)) (total_same w g h xs (λ y k. e y (inr k)))

  total_none : (g : ℕ → ℚ) (xs : List ℕ) → ((x : ℕ) → Has x xs → g x *ℚ v x ≡ 0ℚ) → total v g xs ≡ 0ℚ
  total_none g [] e = refl
  total_none g (x ∷ xs) e = ap₂ (λ a b. a +ℚ b) (e x (inl refl)) (total_none g xs (λ y k. e y (inr k))) ∙ ring [] (int (pos 0) ⊕ int (pos 0)) (int (pos 0)) refl

  total_plus : (g h : ℕ → ℚ) (xs : List ℕ) → total v (λ x. g x +ℚ h x) xs ≡ total v g xs +ℚ total v h xs
  total_plus g h [] = ring [] (int (pos 0)) (int (pos 0) ⊕ int (pos 0)) refl
  total_plus g h (x ∷ xs) =
      ap (λ w. (g x +ℚ h x) *ℚ v x +ℚ w) (total_plus g h xs)
      ∙ ring (g x ∷ h x ∷ v x ∷ total v g xs ∷ total v h xs ∷ []) ((var 0 ⊕ var 1) ⊗ var 2 ⊕ (var 3 ⊕ var 4)) ((var 0 ⊗ var 2 ⊕ var 3) ⊕ (var 1 ⊗ var 2 ⊕ var 4)) refl

  nothing : (y x : ℕ) (q : ℚ) → (x ≡ y → ⊥) → when (nat_eq x y) q *ℚ v x ≡ 0ℚ
  nothing y x q n = ap (λ b. when b q *ℚ v x) (nat_eq-apart x y n) ∙ ring (v x ∷ []) (int (pos 0) ⊗ var 0) (int (pos 0)) refl

  -- one of them alone
  pub total_one : (y : ℕ) (q : ℚ) (xs : List ℕ) → AreDistinct xs → Has y xs → total v (λ x. when (nat_eq x y) q) xs ≡ q *ℚ v y
  total_one y q [] d h = absurd h
  total_one y q (x ∷ xs) d (inl e) =
      ap₂ (λ a b. a +ℚ b) (ap (λ z. when (nat_eq z y) q *ℚ v z) (sym e) ∙ ap (λ b. when b q *ℚ v y) (nat_eq-self y))
      (total_none (λ z. when (nat_eq z y) q) xs (λ z k. nothing y z q (λ w. d.0 (subst (λ u. Has u xs) (w ∙ e) k))))
      ∙ ring (q ∷ v y ∷ []) (var 0 ⊗ var 1 ⊕ int (pos 0)) (var 0 ⊗ var 1) refl
  total_one y q (x ∷ xs) d (inr h) =
      ap₂ (λ a b. a +ℚ b) (nothing y x q (λ w. d.0 (subst (λ u. Has u xs) (sym w) h))) (total_one y q xs d.1 h)
      ∙ ring (q ∷ v y ∷ []) (int (pos 0) ⊕ var 0 ⊗ var 1) (var 0 ⊗ var 1) refl

  -- the sum of products, by the coefficients of all their variables
  pub total_factors : (s : List Monomial) (xs : List ℕ) → AreDistinct xs → ((x : ℕ) → Mentions x s → Has x xs) → total v (λ x. factor_of x s) xs ≡ sum_at v s
  total_factors [] xs d h = total_none (λ x. 0ℚ) xs (λ x k. ring (v x ∷ []) (int (pos 0) ⊗ var 0) (int (pos 0)) refl)
  total_factors (m ∷ s) xs d h =
      total_plus (λ x. when (nat_eq x m.variable) m.factor) (λ x. factor_of x s) xs
      ∙ ap₂ (λ a b. a +ℚ b) (total_one m.variable m.factor xs d (h m.variable (inl refl))) (total_factors s xs d (λ x k. h x (inr k)))

-- at a unit, the number of one variable
pub total_at_unit : (g : ℕ → ℚ) (y : ℕ) (xs : List ℕ) → AreDistinct xs → Has y xs → total (unit y) g xs ≡ g y
total_at_unit g y xs d h =
    total_same (unit y) (λ x. 1ℚ) g (λ x. when (nat_eq x y) (g y)) xs (λ x k. at x) ∙ total_one (λ x. 1ℚ) y (g y) xs d h ∙ ring (g y ∷ []) (var 0 ⊗ int (pos 1)) (var 0) refl
  where
    by : (x : ℕ) (b : Bool) → nat_eq x y ≡ b → g x *ℚ when b 1ℚ ≡ when b (g y) *ℚ 1ℚ
    by x true e = ap (λ z. g z *ℚ 1ℚ) (nat_eq-same x y e)
    by x false e = ring (g x ∷ []) (var 0 ⊗ int (pos 0)) (int (pos 0) ⊗ int (pos 1)) refl

    at : (x : ℕ) → g x *ℚ unit y x ≡ when (nat_eq x y) (g y) *ℚ 1ℚ
    at x = ap (λ b. g x *ℚ when b 1ℚ) (nat_eq-sym y x) ∙ by x (nat_eq x y) refl
