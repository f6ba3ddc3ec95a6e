-- Forms that are made of constants and lists of pairs: their order, their values, and the pairs that they meet.
use Rattle.std.proofs.Common.{◌≡◌, ◌≢◌, inl, inr, ℕ, suc, ◌≤◌, List, [], ◌∷◌, Bool, true, false, cond, not, pos, arith, refl, ap, ap₂, sym, subst, ◌∙◌}
use Rattle.std.specs.Prelude.{◌==◌}
use Rattle.spec_numbers.specs.Gcd.{gcd}
use Rattle.spec_numbers.specs.Rational.{ℚ, 0ℚ, int_ℚ, ratio, ◌+ℚ◌, ◌*ℚ◌}
use Rattle.spec_numbers.specs.Sums.{Monomial, Mentions, factor_of, scaled_products}
use Rattle.spec_numbers.proofs.Ring.{var, int, ◌⊗◌}
use Rattle.spec_numbers.proofs.RationalLemmas.{ring}
use Rattle.spec_numbers.proofs.Sums.{sum_at-agrees}
use Rattle.spec_linear.specs.Form.{Linear, value_at, IsSumFrom, IsForm, is_zero, without, without_zeros, sum_form, difference_form, scaled_form, substituted_form, changed_at}
use Rattle.spec_linear.proofs.Values.{is_zero-of, value_at-substituted_form}
use Rattle.spec_linear.proofs.Ordered.{IsForm-sum_form, IsForm-difference_form, IsForm-scaled_form, IsSumFrom-without, factor_of-first, factor_of-rest, form_same, forms_same}
use Rattle.cq_frac.specs.declared.Operation.{Operation}
use Rattle.cq_frac.specs.declared.Operation.TheVariants.{Product as Times}
use Rattle.cq_frac.specs.declared.Pair.{Pair}
use Rattle.cq_frac.specs.Fits.{Fits}
use Rattle.cq_frac.specs.Refused.{Accepts, IsRefused, Tells}
use Rattle.cq_frac.specs.declared.row.Joining.{Joining}
use Rattle.cq_frac.specs.declared.row.Joining.TheVariants.{Plus, Less}
use Rattle.cq_frac.specs.Rows.{joined, operation_of}
use Rattle.cq_form.specs.Steps.{joined_products, joined_form, HasCoefficient, CommonPair, MultiplePair, JoinedPair, SumPair, coefficients, constants, ScalePair, coefficient, constant, SubstPair, of_product, of_sum}

fits_zero : Fits 0ℚ
unfolding int_ℚ ratio gcd
fits_zero = record { num_fits = omega arith; den_fits = omega arith }

-- ---- order

pub joined_in_order : (how : Joining) (s t : List Monomial) → IsSumFrom 0 s → IsSumFrom 0 t → IsSumFrom 0 (joined_products how s t)
joined_in_order Plus s t h k = IsForm-sum_form (record { products = s; constant = 0ℚ }) (record { products = t; constant = 0ℚ }) h k
joined_in_order Less s t h k = IsForm-difference_form (record { products = s; constant = 0ℚ }) (record { products = t; constant = 0ℚ }) h k

pub joined_form_is : (how : Joining) (f g r : Linear) → r.products ≡ joined_products how f.products g.products → r.constant ≡ joined how f.constant g.constant → r ≡ joined_form how f g
joined_form_is Plus f g r e h = form_same r (sum_form f g) e h
joined_form_is Less f g r e h = form_same r (difference_form f g) e h

pub multiple_in_order : (k : ℚ) (s : List Monomial) → IsSumFrom 0 s → IsSumFrom 0 (without_zeros (scaled_products k s))
multiple_in_order k s h = IsForm-scaled_form k (record { products = s; constant = 0ℚ }) h

-- ---- the pairs of a sum

-- a refused pair is one of the two numbers
told_pair : (P : Operation → ℚ → ℚ → Type 0) (o : Operation) (p q : ℚ) (pair : Pair) → Tells o p q pair → P o p q → P pair.operation pair.left pair.right × IsRefused pair
told_pair P o p q pair t h = subst (λ (x : Pair). P x.operation x.left x.right × IsRefused x) (sym t.is_pair) (h, t.refused)

module _ (how : Joining) (f g : Linear) where
  pub constants_refused : (c d : ℚ) (pair : Pair) → c ≡ f.constant → d ≡ g.constant → Tells (operation_of how) c d pair → JoinedPair how f g pair.operation pair.left pair.right × IsRefused pair
  constants_refused c d pair e h t =
      told_pair (JoinedPair how f g) (operation_of how) f.constant g.constant pair
      (subst (λ x. Tells (operation_of how) x g.constant pair) e (subst (λ x. Tells (operation_of how) c x pair) h t)) constants

  pub coefficients_refused : (s t : List Monomial) (pair : Pair) → s ≡ f.products → t ≡ g.products
      → CommonPair s t pair.left pair.right × Tells (operation_of how) pair.left pair.right pair → JoinedPair how f g pair.operation pair.left pair.right × IsRefused pair
  coefficients_refused s t pair e h w =
      told_pair (JoinedPair how f g) (operation_of how) pair.left pair.right pair w.1
      (coefficients pair.left pair.right (subst (λ x. CommonPair x g.products pair.left pair.right) e (subst (λ x. CommonPair s x pair.left pair.right) h w.0)))

  pub joined_accepted : (c d : ℚ) (s t : List Monomial) → c ≡ f.constant → d ≡ g.constant → s ≡ f.products → t ≡ g.products
      → Accepts (operation_of how) c d → ((p q : ℚ) → CommonPair s t p q → Accepts (operation_of how) p q) → (o : Operation) (p q : ℚ) → JoinedPair how f g o p q → Accepts o p q
  joined_accepted c d s t e h i j a b o p q (coefficients m n w) = b m n (subst (λ x. CommonPair x t m n) (sym i) (subst (λ x. CommonPair f.products x m n) (sym j) w))
  joined_accepted c d s t e h i j a b o p q constants = subst (λ x. Accepts (operation_of how) x g.constant) e (subst (Accepts (operation_of how) c) h a)

-- ---- the pairs of a multiple

module _ (k : ℚ) (f : Linear) where
  pub constant_refused : (c : ℚ) (pair : Pair) → c ≡ f.constant → Tells Times k c pair → ScalePair k f pair.operation pair.left pair.right × IsRefused pair
  constant_refused c pair e t = told_pair (ScalePair k f) Times k f.constant pair (subst (λ x. Tells Times k x pair) e t) constant

  pub coefficient_refused : (s : List Monomial) (pair : Pair) → s ≡ f.products → MultiplePair s pair.right × Tells Times k pair.right pair
      → ScalePair k f pair.operation pair.left pair.right × IsRefused pair
  coefficient_refused s pair e w =
      told_pair (ScalePair k f) Times k pair.right pair w.1 (coefficient pair.right (subst (λ x. MultiplePair x pair.right) e w.0))

  pub multiple_accepted : (c : ℚ) (s : List Monomial) → c ≡ f.constant → s ≡ f.products → Accepts Times k c → ((q : ℚ) → MultiplePair s q → Accepts Times k q)
      → (o : Operation) (p q : ℚ) → ScalePair k f o p q → Accepts o p q
  multiple_accepted c s e h a b o p q (coefficient n w) = b n (subst (λ x. MultiplePair x n) (sym h) w)
  multiple_accepted c s e h a b o p q constant = subst (Accepts Times k) e a

-- ---- a form with another in the place of a variable

mentions_of : (x : ℕ) (k : ℚ) (s : List Monomial) → HasCoefficient x k s → Mentions x s
mentions_of x k [] h = absurd h
mentions_of x k (m ∷ s) (inl e) = inl (ap (λ (p : Monomial). p.variable) e)
mentions_of x k (m ∷ s) (inr h) = inr (mentions_of x k s h)

-- the coefficient of a variable that stands there
pub coefficient_is : (low x : ℕ) (k : ℚ) (s : List Monomial) → IsSumFrom low s → HasCoefficient x k s → factor_of x s ≡ k
coefficient_is low x k [] o h = absurd h
coefficient_is low x k (m ∷ s) o (inl e) =
    ap (λ y. factor_of y (m ∷ s)) (ap (λ (p : Monomial). p.variable) e) ∙ factor_of-first low m s o ∙ sym (ap (λ (p : Monomial). p.factor) e)
coefficient_is low x k (m ∷ s) o (inr h) =
    let above : suc m.variable ≤ x = least (suc m.variable) s o.2 h in
    factor_of-rest x m s (λ e. absurd (omega (arith, above, e))) ∙ coefficient_is (suc m.variable) x k s o.2 h
  where
    least : (low : ℕ) (s : List Monomial) → IsSumFrom low s → HasCoefficient x k s → low ≤ x
    least low [] o h = absurd h
    least low (n ∷ s) o (inl e) = omega (arith, o.0, ap (λ (p : Monomial). p.variable) e)
    least low (n ∷ s) o (inr h) = omega (arith, o.0, least (suc n.variable) s o.2 h)

-- of a variable that does not, it is 0
coefficient_none : (x : ℕ) (s : List Monomial) → (Mentions x s → ⊥) → factor_of x s ≡ 0ℚ
coefficient_none x [] n = refl
coefficient_none x (m ∷ s) n = factor_of-rest x m s (λ e. n (inl e)) ∙ coefficient_none x s (λ h. n (inr h))

-- 0 times a number is 0, and fits
pub zero_accepted : (k q : ℚ) → k ≡ 0ℚ → Accepts Times k q
zero_accepted k q e = subst Fits (sym (ap (λ r. r *ℚ q) e ∙ ring (q ∷ []) (int (pos 0) ⊗ var 0) (int (pos 0)) refl)) fits_zero

-- 0 times a sum is empty
pub nothing_left : (k : ℚ) (s : List Monomial) → k ≡ 0ℚ → without_zeros (scaled_products k s) ≡ []
nothing_left k [] e = refl
nothing_left k (m ∷ s) e = go (is_zero (k *ℚ m.factor)) (is_zero-of (k *ℚ m.factor) (ap (λ r. r *ℚ m.factor) e ∙ ring (m.factor ∷ []) (int (pos 0) ⊗ var 0) (int (pos 0)) refl)) (nothing_left k s e)
  where
    go : (b : Bool) → b ≡ true → without_zeros (scaled_products k s) ≡ []
        → cond (not b) (record { variable = m.variable; factor = k *ℚ m.factor } ∷ without_zeros (scaled_products k s)) (without_zeros (scaled_products k s)) ≡ []
    go true f h = h
    go false f h = absurd (cc)

module _ (x : ℕ) (g f : Linear) where
  abbrev rest : Linear
  rest = record { products = without x f.products; constant = f.constant }

  -- where x does not stand in the form, it stays as it is
  pub not_substituted : IsForm f → (Mentions x f.products → ⊥) → f ≡ substituted_form x g f
  not_substituted h n = forms_same f (substituted_form x g f) h in_order (λ a. sym (value_at-substituted_form a x g f ∙ unchanged a (value_at a g)))
    where
      in_order : IsForm (substituted_form x g f)
      in_order =
          IsForm-sum_form rest (scaled_form (factor_of x f.products) g) (IsSumFrom-without 0 x f.products h)
          (subst (IsSumFrom 0) (sym (nothing_left (factor_of x f.products) g.products (coefficient_none x f.products n))) tt)

      unchanged : (a : ℕ → ℚ) (q : ℚ) → value_at (changed_at x q a) f ≡ value_at a f
      unchanged a q = ap (λ r. f.constant +ℚ r) (sum_at-agrees (changed_at x q a) a f.products
          (λ y k. let e : (x == y) ≡ false = apart y (λ z. n (subst (λ w. Mentions w f.products) (sym z) k)) in ap (λ (b : Bool). cond b q (a y)) e))
        where
          apart : (y : ℕ) → x ≢ y → (x == y) ≡ false
          apart y z = grind arith

  pub no_pair : (Mentions x f.products → ⊥) → (o : Operation) (p q : ℚ) → SubstPair x g f o p q → Accepts o p q
  no_pair n o p q (of_product k h w) = absurd (n (mentions_of x k f.products h))
  no_pair n o p q (of_sum k h w) = absurd (n (mentions_of x k f.products h))

  -- where it stands there with the coefficient k
  module _ (k : ℚ) (h : IsForm f) (has : HasCoefficient x k f.products) where
    pub is_coefficient : factor_of x f.products ≡ k
    is_coefficient = coefficient_is 0 x k f.products h has

    pub substituted : (r t u : Linear) → r ≡ rest → t ≡ scaled_form k g → u ≡ sum_form r t → u ≡ substituted_form x g f
    substituted r t u e i w = w ∙ ap₂ sum_form e (i ∙ ap (λ n. scaled_form n g) (sym is_coefficient))

    pub product_refused : (pair : Pair) → ScalePair k g pair.operation pair.left pair.right × IsRefused pair → SubstPair x g f pair.operation pair.left pair.right × IsRefused pair
    product_refused pair w = (of_product k has w.0, w.1)

    pub sum_refused : (r t : Linear) (pair : Pair) → r ≡ rest → t ≡ scaled_form k g → SumPair r t pair.operation pair.left pair.right × IsRefused pair
        → SubstPair x g f pair.operation pair.left pair.right × IsRefused pair
    sum_refused r t pair e i w =
        (of_sum k has (subst (λ y. SumPair y (scaled_form k g) pair.operation pair.left pair.right) e (subst (λ y. SumPair r y pair.operation pair.left pair.right) i w.0)), w.1)

    pub substitution_accepted : (r t : Linear) → r ≡ rest → t ≡ scaled_form k g → ((o : Operation) (p q : ℚ) → ScalePair k g o p q → Accepts o p q)
        → ((o : Operation) (p q : ℚ) → SumPair r t o p q → Accepts o p q) → (o : Operation) (p q : ℚ) → SubstPair x g f o p q → Accepts o p q
    substitution_accepted r t e i a b o p q (of_product j c w) =
        a o p q (subst (λ n. ScalePair n g o p q) (sym (coefficient_is 0 x j f.products h c) ∙ is_coefficient) w)
    substitution_accepted r t e i a b o p q (of_sum j c w) =
        b o p q (subst (λ y. SumPair y t o p q) (sym e) (subst (λ y. SumPair rest y o p q) (ap (λ n. scaled_form n g) (sym (coefficient_is 0 x j f.products h c) ∙ is_coefficient) ∙ sym i) w))
