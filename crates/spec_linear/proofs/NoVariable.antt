-- A form whose coefficients are all zero is a number: with its like terms collected it has no product.
use Rattle.std.proofs.Common.{◌≡◌, ℕ, List, [], ◌∷◌, pos, refl, ap, ap₂, sym, ◌∙◌}
use Rattle.spec_numbers.specs.Rational.{ℚ, 0ℚ, ◌+ℚ◌, ◌-ℚ◌}
use Rattle.spec_numbers.specs.Sums.{Monomial, sum_at, factor_of, unit, scaled_products}
use Rattle.spec_numbers.proofs.Ring.{var, int, ◌⊕◌, ◌⊗◌, minus}
use Rattle.spec_numbers.proofs.RationalLemmas.{ring}
use Rattle.spec_numbers.proofs.Sums.{factor_of-is, sum_at-nowhere}
use Rattle.spec_linear.specs.Form.{Linear, value_at, IsForm, constant_form, variable_form, sum_form, scaled_form, without_zeros}
use Rattle.spec_linear.proofs.Values.{sum_at-sum_products, sum_at-without_zeros}
use Rattle.spec_linear.proofs.Ordered.{IsForm-sum_form, IsForm-scaled_form, IsForm-variable_form, products_same}
use Rattle.spec_linear.specs.Certificate.{HasNoVariable}

-- the products added one by one
abbrev collected : List Monomial → Linear
collected [] = constant_form 0ℚ
collected (m ∷ s) = sum_form (scaled_form m.factor (variable_form m.variable)) (collected s)

IsForm-collected : (s : List Monomial) → IsForm (collected s)
IsForm-collected [] = tt
IsForm-collected (m ∷ s) =
    IsForm-sum_form (scaled_form m.factor (variable_form m.variable)) (collected s)
    (IsForm-scaled_form m.factor (variable_form m.variable) (IsForm-variable_form m.variable)) (IsForm-collected s)

sum_at-collected : (a : ℕ → ℚ) (s : List Monomial) → sum_at a (collected s).products ≡ sum_at a s
sum_at-collected a [] = refl
sum_at-collected a (m ∷ s) =
    let one : List Monomial = scaled_products m.factor (variable_form m.variable).products in
    sum_at-sum_products a (without_zeros one) (collected s).products
    ∙ ap₂ (λ p q. p +ℚ q) (sum_at-without_zeros a one) (sum_at-collected a s)
    ∙ ring (m.factor ∷ a m.variable ∷ sum_at a s ∷ []) ((var 0 ⊗ int (pos 1)) ⊗ var 1 ⊕ int (pos 0) ⊕ var 2) (var 0 ⊗ var 1 ⊕ var 2) refl

factor_of-collected : (x : ℕ) (s : List Monomial) → factor_of x (collected s).products ≡ factor_of x s
factor_of-collected x s = factor_of-is x (collected s).products ∙ sum_at-collected (unit x) s ∙ sym (factor_of-is x s)

sum_vanishes : (a : ℕ → ℚ) (s : List Monomial) → ((x : ℕ) → factor_of x s ≡ 0ℚ) → sum_at a s ≡ 0ℚ
sum_vanishes a s z =
    sym (sum_at-collected a s)
    ∙ ap (sum_at a) (products_same 0 (collected s).products [] (IsForm-collected s) tt (λ x. factor_of-collected x s ∙ z x))

pub number_everywhere : (f : Linear) → HasNoVariable f → (a : ℕ → ℚ) → value_at a f ≡ f.constant
number_everywhere f n a = ap (λ r. f.constant +ℚ r) (sum_vanishes a f.products n) ∙ ring (f.constant ∷ []) (var 0 ⊕ int (pos 0)) (var 0) refl

pub constant_is : (f : Linear) → f.constant ≡ value_at (λ x. 0ℚ) f
constant_is f = ring (f.constant ∷ []) (var 0) (var 0 ⊕ int (pos 0)) refl ∙ ap (λ r. f.constant +ℚ r) (sym (sum_at-nowhere f.products))

factor_is : (x : ℕ) (f : Linear) → factor_of x f.products ≡ value_at (unit x) f -ℚ f.constant
factor_is x f = factor_of-is x f.products ∙ ring (f.constant ∷ sum_at (unit x) f.products ∷ []) (var 1) ((var 0 ⊕ var 1) ⊕ minus (var 0)) refl

pub same_number_everywhere : (f : Linear) (q : ℚ) → ((a : ℕ → ℚ) → value_at a f ≡ q) → HasNoVariable f × (f.constant ≡ q)
same_number_everywhere f q h =
    let e : f.constant ≡ q = constant_is f ∙ h (λ x. 0ℚ) in
    ((λ x. factor_is x f ∙ ap₂ (λ r s. r -ℚ s) (h (unit x)) e ∙ ring (q ∷ []) (var 0 ⊕ minus (var 0)) (int (pos 0)) refl), e)
