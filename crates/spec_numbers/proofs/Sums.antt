-- Sums of products: linear in the assignment and in the factors; a coefficient is the value at a unit.
use Rattle.std.proofs.Common.{◌≡◌, ℕ, List, [], ◌∷◌, ◌++◌, Bool, true, false, nat_eq, pos, arith, refl, ap, ap₂, sym, ◌∙◌, inl, inr}
use Rattle.spec_numbers.specs.Rational.{ℚ, 0ℚ, 1ℚ, ◌+ℚ◌, ◌*ℚ◌, neg_ℚ}
use Rattle.spec_numbers.specs.Sums.{Monomial, sum_at, when, unit, factor_of, scaled_products, negated_products, Mentions}
use Rattle.spec_numbers.proofs.Ring.{var, int, ◌⊕◌, ◌⊗◌, minus}
use Rattle.spec_numbers.proofs.RationalLemmas.{ring}

-- ---- in the assignment

pub sum_at-plus : (v w : ℕ → ℚ) (s : List Monomial) → sum_at (λ x. v x +ℚ w x) s ≡ sum_at v s +ℚ sum_at w s
sum_at-plus v w [] = ring [] (int (pos 0)) (int (pos 0) ⊕ int (pos 0)) refl
sum_at-plus v w (m ∷ s) =
    ap (λ r. m.factor *ℚ (v m.variable +ℚ w m.variable) +ℚ r) (sum_at-plus v w s)
    ∙ ring (m.factor ∷ v m.variable ∷ w m.variable ∷ sum_at v s ∷ sum_at w s ∷ []) (var 0 ⊗ (var 1 ⊕ var 2) ⊕ (var 3 ⊕ var 4)) ((var 0 ⊗ var 1 ⊕ var 3) ⊕ (var 0 ⊗ var 2 ⊕ var 4)) refl

pub sum_at-times : (t : ℚ) (v : ℕ → ℚ) (s : List Monomial) → sum_at (λ x. t *ℚ v x) s ≡ t *ℚ sum_at v s
sum_at-times t v [] = ring (t ∷ []) (int (pos 0)) (var 0 ⊗ int (pos 0)) refl
sum_at-times t v (m ∷ s) =
    ap (λ r. m.factor *ℚ (t *ℚ v m.variable) +ℚ r) (sum_at-times t v s)
    ∙ ring (m.factor ∷ v m.variable ∷ t ∷ sum_at v s ∷ []) (var 0 ⊗ (var 2 ⊗ var 1) ⊕ var 2 ⊗ var 3) (var 2 ⊗ (var 0 ⊗ var 1 ⊕ var 3)) refl

pub sum_at-nowhere : (s : List Monomial) → sum_at (λ x. 0ℚ) s ≡ 0ℚ
sum_at-nowhere [] = refl
sum_at-nowhere (m ∷ s) = ap (λ w. m.factor *ℚ 0ℚ +ℚ w) (sum_at-nowhere s) ∙ ring (m.factor ∷ []) (var 0 ⊗ int (pos 0) ⊕ int (pos 0)) (int (pos 0)) refl

-- the sum looks at the variables of its products alone
pub sum_at-agrees : (v w : ℕ → ℚ) (s : List Monomial) → ((x : ℕ) → Mentions x s → v x ≡ w x) → sum_at v s ≡ sum_at w s
sum_at-agrees v w [] h = refl
sum_at-agrees v w (m ∷ s) h = ap₂ (λ a b. m.factor *ℚ a +ℚ b) (h m.variable (inl refl)) (sum_at-agrees v w s (λ x k. h x (inr k)))

-- ---- in the products

pub sum_at-append : (v : ℕ → ℚ) (s t : List Monomial) → sum_at v (s ++ t) ≡ sum_at v s +ℚ sum_at v t
sum_at-append v [] t = ring (sum_at v t ∷ []) (var 0) (int (pos 0) ⊕ var 0) refl
sum_at-append v (m ∷ s) t =
    ap (λ w. m.factor *ℚ v m.variable +ℚ w) (sum_at-append v s t)
    ∙ ring (m.factor ∷ v m.variable ∷ sum_at v s ∷ sum_at v t ∷ []) (var 0 ⊗ var 1 ⊕ (var 2 ⊕ var 3)) (var 0 ⊗ var 1 ⊕ var 2 ⊕ var 3) refl

pub sum_at-scaled_products : (v : ℕ → ℚ) (k : ℚ) (s : List Monomial) → sum_at v (scaled_products k s) ≡ k *ℚ sum_at v s
sum_at-scaled_products v k [] = ring (k ∷ []) (int (pos 0)) (var 0 ⊗ int (pos 0)) refl
sum_at-scaled_products v k (m ∷ s) =
    ap (λ w. (k *ℚ m.factor) *ℚ v m.variable +ℚ w) (sum_at-scaled_products v k s)
    ∙ ring (k ∷ m.factor ∷ v m.variable ∷ sum_at v s ∷ []) ((var 0 ⊗ var 1) ⊗ var 2 ⊕ var 0 ⊗ var 3) (var 0 ⊗ (var 1 ⊗ var 2 ⊕ var 3)) refl

pub sum_at-negated_products : (v : ℕ → ℚ) (s : List Monomial) → sum_at v (negated_products s) ≡ neg_ℚ (sum_at v s)
sum_at-negated_products v [] = ring [] (int (pos 0)) (minus (int (pos 0))) refl
sum_at-negated_products v (m ∷ s) =
    ap (λ b. neg_ℚ m.factor *ℚ v m.variable +ℚ b) (sum_at-negated_products v s)
    ∙ ring (m.factor ∷ v m.variable ∷ sum_at v s ∷ []) (minus (var 0) ⊗ var 1 ⊕ minus (var 2)) (minus (var 0 ⊗ var 1 ⊕ var 2)) refl

-- ---- coefficients

when_unit : (b : Bool) (q : ℚ) → when b q ≡ q *ℚ when b 1ℚ
when_unit true q = ring (q ∷ []) (var 0) (var 0 ⊗ int (pos 1)) refl
when_unit false q = ring (q ∷ []) (int (pos 0)) (var 0 ⊗ int (pos 0)) refl

pub factor_of-is : (x : ℕ) (s : List Monomial) → factor_of x s ≡ sum_at (unit x) s
factor_of-is x [] = refl
factor_of-is x (m ∷ s) = ap₂ (λ a b. a +ℚ b) (when_unit (nat_eq x m.variable) m.factor) (factor_of-is x s)

pub unit-self : (x : ℕ) → unit x x ≡ 1ℚ
unit-self x = let e : nat_eq x x ≡ true = grind arith in ap (λ b. when b 1ℚ) e

pub unit-other : (x y : ℕ) → (x ≡ y → ⊥) → unit x y ≡ 0ℚ
unit-other x y n = let e : nat_eq x y ≡ false = grind arith in ap (λ b. when b 1ℚ) e
