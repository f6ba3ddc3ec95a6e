-- Forms stay forms, and two forms with the same values are the same form.
use Rattle.std.proofs.Common.{◌≡◌, ◌≢◌, ℕ, suc, ◌≤◌, ◌<◌, List, [], ◌∷◌, Bool, true, false, cond, not, pos, arith, refl, sym, ap, ap₂, subst, ◌∙◌}
use Rattle.std.specs.Prelude.{◌==◌, nat_eq, nat_lt}
use Rattle.spec_numbers.specs.Rational.{ℚ, 0ℚ, ◌+ℚ◌, ◌*ℚ◌, neg_ℚ}
use Rattle.spec_numbers.specs.Sums.{Monomial, when, unit, factor_of, scaled_products, negated_products}
use Rattle.spec_numbers.proofs.Ring.{var, int, ◌⊕◌, minus}
use Rattle.spec_numbers.proofs.RationalLemmas.{ring}
use Rattle.spec_numbers.proofs.Sums.{factor_of-is, sum_at-nowhere}
use Rattle.spec_numbers.proofs.Sign.{one_not_zero}
use Rattle.spec_linear.specs.Form.{Linear, value_at, IsSumFrom, IsForm, is_zero, in_front, with_product, sum_products, without_zeros, without, constant_form, variable_form, sum_form, scaled_form, negated_form, difference_form, substituted_form}
use Rattle.spec_linear.proofs.Values.{is_zero-false}
use Rattle.spec_numbers.proofs.Tests.{nat_eq-same}

-- ---- sums stay in order

pub IsSumFrom-lower : (low k : ℕ) (s : List Monomial) → low ≤ k → IsSumFrom k s → IsSumFrom low s
IsSumFrom-lower low k [] h o = tt
IsSumFrom-lower low k (m ∷ s) h o = let d : k ≤ m.variable = o.0 in (omega arith, o.1, o.2)

IsSumFrom-in_front : (low : ℕ) (m : Monomial) (s : List Monomial) → low ≤ m.variable → IsSumFrom (suc m.variable) s → IsSumFrom low (in_front m s)
IsSumFrom-in_front low m s h o = go (is_zero m.factor) refl
  where
    go : (b : Bool) → is_zero m.factor ≡ b → IsSumFrom low (cond b s (m ∷ s))
    go true e = IsSumFrom-lower low (suc m.variable) s (omega arith) o
    go false e = (h, is_zero-false m.factor e, o)

less_is : (x y : ℕ) → nat_lt x y ≡ true → suc x ≤ y
less_is x y e = grind arith

more_is : (x y : ℕ) → nat_lt x y ≡ false → (x == y) ≡ false → suc y ≤ x
more_is x y e f = grind arith

IsSumFrom-with_product : (low : ℕ) (p : Monomial) (s : List Monomial) → low ≤ p.variable → IsSumFrom low s → IsSumFrom low (with_product p s)
IsSumFrom-with_product low p [] h o = IsSumFrom-in_front low p [] h tt
IsSumFrom-with_product low p (m ∷ s) h o =
    go (nat_lt p.variable m.variable) (p.variable == m.variable) refl refl (λ k. IsSumFrom-with_product (suc m.variable) p s k o.2)
  where
    go : (b c : Bool) → nat_lt p.variable m.variable ≡ b → (p.variable == m.variable) ≡ c
        → (suc m.variable ≤ p.variable → IsSumFrom (suc m.variable) (with_product p s))
        → IsSumFrom low (
        cond b (in_front p (m ∷ s)) (
        cond c (in_front (record { variable = p.variable; factor = p.factor +ℚ m.factor }) s) (m ∷ with_product p s)))
    go true c e f r = IsSumFrom-in_front low p (m ∷ s) h (less_is p.variable m.variable e, o.1, o.2)
    go false true e f r =
        IsSumFrom-in_front low (record { variable = p.variable; factor = p.factor +ℚ m.factor }) s h
        (subst (λ y. IsSumFrom (suc y) s) (sym (nat_eq-same p.variable m.variable f)) o.2)
    go false false e f r = (o.0, o.1, r (more_is p.variable m.variable e f))

IsSumFrom-sum_products : (low : ℕ) (s t : List Monomial) → IsSumFrom low s → IsSumFrom low t → IsSumFrom low (sum_products s t)
IsSumFrom-sum_products low [] t o p = p
IsSumFrom-sum_products low (m ∷ s) t o p =
    let h : low ≤ m.variable = o.0 in
    IsSumFrom-with_product low m (sum_products s t) h (IsSumFrom-sum_products low s t (IsSumFrom-lower low (suc m.variable) s (omega arith) o.2) p)

-- multiplied by a number, without the zeros
IsSumFrom-scaled : (low : ℕ) (k : ℚ) (s : List Monomial) → IsSumFrom low s → IsSumFrom low (without_zeros (scaled_products k s))
IsSumFrom-scaled low k [] o = tt
IsSumFrom-scaled low k (m ∷ s) o = go (is_zero (k *ℚ m.factor)) refl (IsSumFrom-scaled (suc m.variable) k s o.2)
  where
    go : (b : Bool) → is_zero (k *ℚ m.factor) ≡ b → IsSumFrom (suc m.variable) (without_zeros (scaled_products k s))
        → IsSumFrom low (cond (not b) (record { variable = m.variable; factor = k *ℚ m.factor } ∷ without_zeros (scaled_products k s)) (without_zeros (scaled_products k s)))
    go true e h = let d : low ≤ m.variable = o.0 in IsSumFrom-lower low (suc m.variable) _ (omega arith) h
    go false e h = (o.0, is_zero-false (k *ℚ m.factor) e, h)

neg-zero : (q : ℚ) → neg_ℚ q ≡ 0ℚ → q ≡ 0ℚ
neg-zero q e = ring (q ∷ []) (var 0) (minus (minus (var 0))) refl ∙ ap neg_ℚ e ∙ ring [] (minus (int (pos 0))) (int (pos 0)) refl

IsSumFrom-negated_products : (low : ℕ) (s : List Monomial) → IsSumFrom low s → IsSumFrom low (negated_products s)
IsSumFrom-negated_products low [] o = tt
IsSumFrom-negated_products low (m ∷ s) o = (o.0, (λ z. o.1 (neg-zero m.factor z)), IsSumFrom-negated_products (suc m.variable) s o.2)

pub IsSumFrom-without : (low x : ℕ) (s : List Monomial) → IsSumFrom low s → IsSumFrom low (without x s)
IsSumFrom-without low x [] o = tt
IsSumFrom-without low x (m ∷ s) o = go (x == m.variable) (IsSumFrom-without (suc m.variable) x s o.2)
  where
    go : (b : Bool) → IsSumFrom (suc m.variable) (without x s) → IsSumFrom low (cond (not b) (m ∷ without x s) (without x s))
    go true h = let d : low ≤ m.variable = o.0 in IsSumFrom-lower low (suc m.variable) _ (omega arith) h
    go false h = (o.0, o.1, h)

-- ---- forms

pub IsForm-constant_form : (q : ℚ) → IsForm (constant_form q)
IsForm-constant_form q = tt

pub IsForm-variable_form : (x : ℕ) → IsForm (variable_form x)
IsForm-variable_form x = (omega arith, one_not_zero, tt)

pub IsForm-sum_form : (f g : Linear) → IsForm f → IsForm g → IsForm (sum_form f g)
IsForm-sum_form f g h k = IsSumFrom-sum_products 0 f.products g.products h k

pub IsForm-scaled_form : (k : ℚ) (f : Linear) → IsForm f → IsForm (scaled_form k f)
IsForm-scaled_form k f h = IsSumFrom-scaled 0 k f.products h

pub IsForm-negated_form : (f : Linear) → IsForm f → IsForm (negated_form f)
IsForm-negated_form f h = IsSumFrom-negated_products 0 f.products h

pub IsForm-difference_form : (f g : Linear) → IsForm f → IsForm g → IsForm (difference_form f g)
IsForm-difference_form f g h k = IsForm-sum_form f (negated_form g) h (IsForm-negated_form g k)

pub IsForm-substituted_form : (x : ℕ) (g f : Linear) → IsForm g → IsForm f → IsForm (substituted_form x g f)
IsForm-substituted_form x g f k h =
    IsForm-sum_form (record { products = without x f.products; constant = f.constant }) (scaled_form (factor_of x f.products) g)
    (IsSumFrom-without 0 x f.products h) (IsForm-scaled_form (factor_of x f.products) g k)

-- ---- coefficients

when-other : (x y : ℕ) (q : ℚ) → x ≢ y → when (nat_eq x y) q ≡ 0ℚ
when-other x y q n = let e : nat_eq x y ≡ false = grind arith in ap (λ b. when b q) e

when-same : (x y : ℕ) (q : ℚ) → x ≡ y → when (nat_eq x y) q ≡ q
when-same x y q h = let e : nat_eq x y ≡ true = grind arith in ap (λ b. when b q) e

-- a sum has no variable below its first
pub factor_of-below : (x low : ℕ) (s : List Monomial) → x < low → IsSumFrom low s → factor_of x s ≡ 0ℚ
factor_of-below x low [] h o = refl
factor_of-below x low (m ∷ s) h o =
    let k : low ≤ m.variable = o.0 in
    ap₂ (λ p q. p +ℚ q) (when-other x m.variable m.factor (omega arith)) (factor_of-below x (suc m.variable) s (omega arith) o.2)
    ∙ ring [] (int (pos 0) ⊕ int (pos 0)) (int (pos 0)) refl

-- the coefficient of a sum's first variable
pub factor_of-first : (low : ℕ) (m : Monomial) (s : List Monomial) → IsSumFrom low (m ∷ s) → factor_of m.variable (m ∷ s) ≡ m.factor
factor_of-first low m s o =
    ap₂ (λ p q. p +ℚ q) (when-same m.variable m.variable m.factor refl) (factor_of-below m.variable (suc m.variable) s (omega arith) o.2)
    ∙ ring (m.factor ∷ []) (var 0 ⊕ int (pos 0)) (var 0) refl

-- and of another one
pub factor_of-rest : (x : ℕ) (m : Monomial) (s : List Monomial) → x ≢ m.variable → factor_of x (m ∷ s) ≡ factor_of x s
factor_of-rest x m s n = ap (λ p. p +ℚ factor_of x s) (when-other x m.variable m.factor n) ∙ ring (factor_of x s ∷ []) (int (pos 0) ⊕ var 0) (var 0) refl

-- ---- sums with the same coefficients are the same

data Order (x y : ℕ) : Type 0 where
  before : x < y → Order x y
  equal : x ≡ y → Order x y
  after : y < x → Order x y

order : (x y : ℕ) → Order x y
order x y = go (nat_lt x y) (x == y) refl refl
  where
    go : (b c : Bool) → nat_lt x y ≡ b → (x == y) ≡ c → Order x y
    go true c e f = before (less_is x y e)
    go false true e f = equal (nat_eq-same x y f)
    go false false e f = after (more_is x y e f)

pub product_same : (m n : Monomial) → m.variable ≡ n.variable → m.factor ≡ n.factor → m ≡ n
product_same m n e f = ap₂ (λ (x : ℕ) (q : ℚ). let p : Monomial = record { variable = x; factor = q } in p) e f

module _ (m n : Monomial) (s t : List Monomial) (low : ℕ) (o : IsSumFrom low (m ∷ s)) (p : IsSumFrom low (n ∷ t))
    (same : (x : ℕ) → factor_of x (m ∷ s) ≡ factor_of x (n ∷ t)) where
  -- the two first variables are one
  first_same : m.variable ≡ n.variable
  first_same = go (order m.variable n.variable)
    where
      go : Order m.variable n.variable → m.variable ≡ n.variable
      go (before h) = absurd (o.1 (sym (factor_of-first low m s o) ∙ same m.variable ∙ factor_of-below m.variable n.variable (n ∷ t) h (omega arith, p.1, p.2)))
      go (equal e) = e
      go (after h) = absurd (p.1 (sym (factor_of-first low n t p) ∙ sym (same n.variable) ∙ factor_of-below n.variable m.variable (m ∷ s) h (omega arith, o.1, o.2)))

  factors_same : m.factor ≡ n.factor
  factors_same = sym (factor_of-first low m s o) ∙ same m.variable ∙ ap (λ x. factor_of x (n ∷ t)) first_same ∙ factor_of-first low n t p

  rest_same : (x : ℕ) → factor_of x s ≡ factor_of x t
  rest_same x = go (x == m.variable) refl
    where
      go : (b : Bool) → (x == m.variable) ≡ b → factor_of x s ≡ factor_of x t
      go true e =
          let h : x ≡ m.variable = nat_eq-same x m.variable e in
          let k : m.variable ≡ n.variable = first_same in
          factor_of-below x (suc m.variable) s (omega arith) o.2 ∙ sym (factor_of-below x (suc n.variable) t (omega arith) p.2)
      go false e =
          let h : x ≢ m.variable = grind arith in
          let k : x ≢ n.variable = λ z. h (z ∙ sym first_same) in
          sym (factor_of-rest x m s h) ∙ same x ∙ factor_of-rest x n t k

pub products_same : (low : ℕ) (s t : List Monomial) → IsSumFrom low s → IsSumFrom low t → ((x : ℕ) → factor_of x s ≡ factor_of x t) → s ≡ t
products_same low [] [] o p h = refl
products_same low [] (n ∷ t) o p h = absurd (p.1 (sym (factor_of-first low n t p) ∙ sym (h n.variable)))
products_same low (m ∷ s) [] o p h = absurd (o.1 (sym (factor_of-first low m s o) ∙ h m.variable))
products_same low (m ∷ s) (n ∷ t) o p h =
    let e : m.variable ≡ n.variable = first_same m n s t low o p h in
    ap₂ (λ (u : Monomial) v. u ∷ v) (product_same m n e (factors_same m n s t low o p h))
    (products_same (suc m.variable) s t o.2 (subst (λ y. IsSumFrom (suc y) t) (sym e) p.2) (rest_same m n s t low o p h))

pub form_same : (f g : Linear) → f.products ≡ g.products → f.constant ≡ g.constant → f ≡ g
form_same f g e h = ap₂ (λ (s : List Monomial) (q : ℚ). let r : Linear = record { products = s; constant = q } in r) e h

-- ---- forms with the same values are the same

pub constant_is : (f : Linear) → value_at (λ x. 0ℚ) f ≡ f.constant
constant_is f = ap (λ r. f.constant +ℚ r) (sum_at-nowhere f.products) ∙ ring (f.constant ∷ []) (var 0 ⊕ int (pos 0)) (var 0) refl

factor_is : (x : ℕ) (f : Linear) → value_at (unit x) f ≡ f.constant +ℚ factor_of x f.products
factor_is x f = ap (λ r. f.constant +ℚ r) (sym (factor_of-is x f.products))

cancelled : (c p q : ℚ) → c +ℚ p ≡ c +ℚ q → p ≡ q
cancelled c p q e =
    ring (c ∷ p ∷ []) (var 1) ((var 0 ⊕ var 1) ⊕ minus (var 0)) refl ∙ ap (λ r. r +ℚ neg_ℚ c) e
    ∙ ring (c ∷ q ∷ []) ((var 0 ⊕ var 1) ⊕ minus (var 0)) (var 1) refl

pub forms_same : (f g : Linear) → IsForm f → IsForm g → ((a : ℕ → ℚ) → value_at a f ≡ value_at a g) → f ≡ g
forms_same f g h k e =
    let c : f.constant ≡ g.constant = sym (constant_is f) ∙ e (λ x. 0ℚ) ∙ constant_is g in
    form_same f g
    (products_same 0 f.products g.products h k
    (λ x. cancelled f.constant (factor_of x f.products) (factor_of x g.products) (sym (factor_is x f) ∙ e (unit x) ∙ factor_is x g ∙ ap (λ r. r +ℚ factor_of x g.products) (sym c))))
    c
