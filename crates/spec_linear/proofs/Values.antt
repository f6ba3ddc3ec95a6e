-- What forms that are made of other forms are where a gives the variables their values.
use Rattle.std.proofs.Common.{◌≡◌, ◌≢◌, ℕ, List, [], ◌∷◌, Bool, true, false, cond, not, ℤ, pos, negsuc, nat_abs, ◌*ℤ◌, arith, refl, sym, ap, ap₂, ◌∙◌}
use Rattle.std.proofs.lemmas.Int.{ints}
use Rattle.std.specs.Prelude.{◌==◌, nat_eq, nat_lt}
use Rattle.spec_numbers.specs.Gcd.{gcd}
use Rattle.spec_numbers.specs.Rational.{ℚ, denominator, 0ℚ, int_ℚ, ratio, ◌+ℚ◌, ◌-ℚ◌, ◌*ℚ◌, neg_ℚ}
use Rattle.spec_numbers.specs.Sums.{Monomial, sum_at, when, factor_of, scaled_products}
use Rattle.spec_numbers.proofs.Ring.{var, int, ◌⊕◌, ◌⊗◌, minus}
use Rattle.spec_numbers.proofs.RationalLemmas.{ring, cross_same}
use Rattle.spec_numbers.proofs.Sums.{sum_at-scaled_products, sum_at-negated_products}
use Rattle.spec_linear.specs.Form.{Linear, value_at, is_zero, in_front, with_product, sum_products, without_zeros, without, constant_form, variable_form, sum_form, scaled_form, negated_form, difference_form, substituted_form, changed_at}
use Rattle.spec_numbers.proofs.Tests.{nat_eq-same}

-- ---- the test of zero

num_zero : (z : ℤ) → nat_eq (nat_abs z) 0 ≡ true → z ≡ pos 0
num_zero (pos a) e = ap pos (nat_eq-same a 0 e)
num_zero (negsuc a) e = absurd (grind arith)

zero_cross : (z : ℤ) (d : ℕ) → z ≡ pos 0 → z *ℤ pos 1 ≡ pos 0 *ℤ pos d
zero_cross z d e = omega (arith, ints, e)

-- the test says that the number is 0
pub is_zero-true : (q : ℚ) → is_zero q ≡ true → q ≡ 0ℚ
unfolding int_ℚ ratio gcd
is_zero-true q e = cross_same q 0ℚ (zero_cross q.numerator (denominator q) (num_zero q.numerator e))

pub is_zero-of : (q : ℚ) → q ≡ 0ℚ → is_zero q ≡ true
unfolding int_ℚ ratio gcd
is_zero-of q e = ap is_zero e

-- and that it is not
pub is_zero-false : (q : ℚ) → is_zero q ≡ false → q ≢ 0ℚ
is_zero-false q e z = let k : is_zero q ≡ true = is_zero-of q z in let n : true ≡ false = sym k ∙ e in cc

-- ---- sums

pub sum_at-in_front : (a : ℕ → ℚ) (m : Monomial) (s : List Monomial) → sum_at a (in_front m s) ≡ m.factor *ℚ a m.variable +ℚ sum_at a s
sum_at-in_front a m s = go (is_zero m.factor) refl
  where
    go : (b : Bool) → is_zero m.factor ≡ b → sum_at a (cond b s (m ∷ s)) ≡ m.factor *ℚ a m.variable +ℚ sum_at a s
    go true e =
        ring (sum_at a s ∷ a m.variable ∷ []) (var 0) (int (pos 0) ⊗ var 1 ⊕ var 0) refl
        ∙ ap (λ q. q *ℚ a m.variable +ℚ sum_at a s) (sym (is_zero-true m.factor e))
    go false e = refl

pub sum_at-with_product : (a : ℕ → ℚ) (p : Monomial) (s : List Monomial) → sum_at a (with_product p s) ≡ p.factor *ℚ a p.variable +ℚ sum_at a s
sum_at-with_product a p [] = sum_at-in_front a p []
sum_at-with_product a p (m ∷ s) = go (nat_lt p.variable m.variable) (p.variable == m.variable) refl (sum_at-with_product a p s)
  where
    go : (b c : Bool) → (p.variable == m.variable) ≡ c → sum_at a (with_product p s) ≡ p.factor *ℚ a p.variable +ℚ sum_at a s
        → sum_at a (
        cond b (in_front p (m ∷ s)) (
        cond c (in_front (record { variable = p.variable; factor = p.factor +ℚ m.factor }) s) (m ∷ with_product p s)))
        ≡ p.factor *ℚ a p.variable +ℚ (m.factor *ℚ a m.variable +ℚ sum_at a s)
    go true c e h = sum_at-in_front a p (m ∷ s)
    go false true e h =
        sum_at-in_front a (record { variable = p.variable; factor = p.factor +ℚ m.factor }) s
        ∙ ring (p.factor ∷ m.factor ∷ a p.variable ∷ sum_at a s ∷ []) ((var 0 ⊕ var 1) ⊗ var 2 ⊕ var 3) (var 0 ⊗ var 2 ⊕ (var 1 ⊗ var 2 ⊕ var 3)) refl
        ∙ ap (λ y. p.factor *ℚ a p.variable +ℚ (m.factor *ℚ a y +ℚ sum_at a s)) (nat_eq-same p.variable m.variable e)
    go false false e h =
        ap (λ t. m.factor *ℚ a m.variable +ℚ t) h
        ∙ ring ((p.factor *ℚ a p.variable) ∷ (m.factor *ℚ a m.variable) ∷ sum_at a s ∷ []) (var 1 ⊕ (var 0 ⊕ var 2)) (var 0 ⊕ (var 1 ⊕ var 2)) refl

pub sum_at-sum_products : (a : ℕ → ℚ) (s t : List Monomial) → sum_at a (sum_products s t) ≡ sum_at a s +ℚ sum_at a t
sum_at-sum_products a [] t = ring (sum_at a t ∷ []) (var 0) (int (pos 0) ⊕ var 0) refl
sum_at-sum_products a (m ∷ s) t =
    sum_at-with_product a m (sum_products s t)
    ∙ ap (λ r. m.factor *ℚ a m.variable +ℚ r) (sum_at-sum_products a s t)
    ∙ ring ((m.factor *ℚ a m.variable) ∷ sum_at a s ∷ sum_at a t ∷ []) (var 0 ⊕ (var 1 ⊕ var 2)) (var 0 ⊕ var 1 ⊕ var 2) refl

pub sum_at-without_zeros : (a : ℕ → ℚ) (s : List Monomial) → sum_at a (without_zeros s) ≡ sum_at a s
sum_at-without_zeros a [] = refl
sum_at-without_zeros a (m ∷ s) = go (is_zero m.factor) refl (sum_at-without_zeros a s)
  where
    go : (b : Bool) → is_zero m.factor ≡ b → sum_at a (without_zeros s) ≡ sum_at a s
        → sum_at a (cond (not b) (m ∷ without_zeros s) (without_zeros s)) ≡ m.factor *ℚ a m.variable +ℚ sum_at a s
    go true e h =
        h ∙ ring (sum_at a s ∷ a m.variable ∷ []) (var 0) (int (pos 0) ⊗ var 1 ⊕ var 0) refl
        ∙ ap (λ q. q *ℚ a m.variable +ℚ sum_at a s) (sym (is_zero-true m.factor e))
    go false e h = ap (λ r. m.factor *ℚ a m.variable +ℚ r) h

-- the products of x, and the others
pub sum_at-without : (a : ℕ → ℚ) (x : ℕ) (s : List Monomial) → sum_at a s ≡ factor_of x s *ℚ a x +ℚ sum_at a (without x s)
sum_at-without a x [] = ring (a x ∷ []) (int (pos 0)) (int (pos 0) ⊗ var 0 ⊕ int (pos 0)) refl
sum_at-without a x (m ∷ s) = go (x == m.variable) refl (sum_at-without a x s)
  where
    go : (b : Bool) → (x == m.variable) ≡ b → sum_at a s ≡ factor_of x s *ℚ a x +ℚ sum_at a (without x s)
        → m.factor *ℚ a m.variable +ℚ sum_at a s ≡ (when b m.factor +ℚ factor_of x s) *ℚ a x +ℚ sum_at a (cond (not b) (m ∷ without x s) (without x s))
    go true e h =
        ap₂ (λ y r. m.factor *ℚ a y +ℚ r) (sym (nat_eq-same x m.variable e)) h
        ∙ ring (m.factor ∷ a x ∷ factor_of x s ∷ sum_at a (without x s) ∷ []) (var 0 ⊗ var 1 ⊕ (var 2 ⊗ var 1 ⊕ var 3)) ((var 0 ⊕ var 2) ⊗ var 1 ⊕ var 3) refl
    go false e h =
        ap (λ r. m.factor *ℚ a m.variable +ℚ r) h
        ∙ ring ((m.factor *ℚ a m.variable) ∷ factor_of x s ∷ a x ∷ sum_at a (without x s) ∷ []) (var 0 ⊕ (var 1 ⊗ var 2 ⊕ var 3)) ((int (pos 0) ⊕ var 1) ⊗ var 2 ⊕ (var 0 ⊕ var 3)) refl

-- the others don't look at x
sum_at-changed : (a : ℕ → ℚ) (x : ℕ) (q : ℚ) (s : List Monomial) → sum_at (changed_at x q a) (without x s) ≡ sum_at a (without x s)
sum_at-changed a x q [] = refl
sum_at-changed a x q (m ∷ s) = go (x == m.variable) refl (sum_at-changed a x q s)
  where
    go : (b : Bool) → (x == m.variable) ≡ b → sum_at (changed_at x q a) (without x s) ≡ sum_at a (without x s)
        → sum_at (changed_at x q a) (cond (not b) (m ∷ without x s) (without x s)) ≡ sum_at a (cond (not b) (m ∷ without x s) (without x s))
    go true e h = h
    go false e h = ap₂ (λ (b : Bool) r. m.factor *ℚ cond b q (a m.variable) +ℚ r) e h

changed_at-self : (a : ℕ → ℚ) (x : ℕ) (q : ℚ) → changed_at x q a x ≡ q
changed_at-self a x q = let e : (x == x) ≡ true = grind arith in ap (λ (b : Bool). cond b q (a x)) e

-- ---- forms

pub value_at-constant_form : (a : ℕ → ℚ) (q : ℚ) → value_at a (constant_form q) ≡ q
value_at-constant_form a q = ring (q ∷ []) (var 0 ⊕ int (pos 0)) (var 0) refl

pub value_at-variable_form : (a : ℕ → ℚ) (x : ℕ) → value_at a (variable_form x) ≡ a x
value_at-variable_form a x = ring (a x ∷ []) (int (pos 0) ⊕ (int (pos 1) ⊗ var 0 ⊕ int (pos 0))) (var 0) refl

pub value_at-sum_form : (a : ℕ → ℚ) (f g : Linear) → value_at a (sum_form f g) ≡ value_at a f +ℚ value_at a g
value_at-sum_form a f g =
    ap (λ r. f.constant +ℚ g.constant +ℚ r) (sum_at-sum_products a f.products g.products)
    ∙ ring (f.constant ∷ g.constant ∷ sum_at a f.products ∷ sum_at a g.products ∷ []) ((var 0 ⊕ var 1) ⊕ (var 2 ⊕ var 3)) ((var 0 ⊕ var 2) ⊕ (var 1 ⊕ var 3)) refl

pub value_at-scaled_form : (a : ℕ → ℚ) (k : ℚ) (f : Linear) → value_at a (scaled_form k f) ≡ k *ℚ value_at a f
value_at-scaled_form a k f =
    ap (λ r. k *ℚ f.constant +ℚ r) (sum_at-without_zeros a (scaled_products k f.products) ∙ sum_at-scaled_products a k f.products)
    ∙ ring (k ∷ f.constant ∷ sum_at a f.products ∷ []) (var 0 ⊗ var 1 ⊕ var 0 ⊗ var 2) (var 0 ⊗ (var 1 ⊕ var 2)) refl

pub value_at-negated_form : (a : ℕ → ℚ) (f : Linear) → value_at a (negated_form f) ≡ neg_ℚ (value_at a f)
value_at-negated_form a f =
    ap (λ r. neg_ℚ f.constant +ℚ r) (sum_at-negated_products a f.products)
    ∙ ring (f.constant ∷ sum_at a f.products ∷ []) (minus (var 0) ⊕ minus (var 1)) (minus (var 0 ⊕ var 1)) refl

pub value_at-difference_form : (a : ℕ → ℚ) (f g : Linear) → value_at a (difference_form f g) ≡ value_at a f -ℚ value_at a g
value_at-difference_form a f g = value_at-sum_form a f (negated_form g) ∙ ap (λ r. value_at a f +ℚ r) (value_at-negated_form a g)

-- a form with another in the place of x is the form where x has the other's value
pub value_at-substituted_form : (a : ℕ → ℚ) (x : ℕ) (g f : Linear) → value_at a (substituted_form x g f) ≡ value_at (changed_at x (value_at a g) a) f
value_at-substituted_form a x g f =
    let k : ℚ = factor_of x f.products in
    let q : ℚ = value_at a g in
    value_at-sum_form a (record { products = without x f.products; constant = f.constant }) (scaled_form k g)
    ∙ ap (λ r. f.constant +ℚ sum_at a (without x f.products) +ℚ r) (value_at-scaled_form a k g)
    ∙ ring (f.constant ∷ sum_at a (without x f.products) ∷ k ∷ q ∷ []) ((var 0 ⊕ var 1) ⊕ var 2 ⊗ var 3) (var 0 ⊕ (var 2 ⊗ var 3 ⊕ var 1)) refl
    ∙ ap₂ (λ r t. f.constant +ℚ (k *ℚ r +ℚ t)) (sym (changed_at-self a x q)) (sym (sum_at-changed a x q f.products))
    ∙ ap (λ r. f.constant +ℚ r) (sym (sum_at-without (changed_at x q a) x f.products))
