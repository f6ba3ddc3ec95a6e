-- Forms with another sign, and forms by a number.
use Rattle.std.proofs.Common.{◌≡◌, ◌≢◌, ℕ, suc, List, [], ◌∷◌, Bool, true, false, cond, not, Option, Some, None, refl, ap, ap₂, sym, subst, ◌∙◌}
use Rattle.std.specs.Prelude.{◌↔◌, IsTrue, pos}
use Rattle.spec_numbers.specs.Rational.{ℚ, 0ℚ, ◌*ℚ◌, ◌/ℚ◌, inv_ℚ, neg_ℚ}
use Rattle.spec_numbers.specs.Sums.{Monomial, scaled_products, negated_products}
use Rattle.spec_numbers.proofs.Ring.{var, int, ◌⊗◌}
use Rattle.spec_numbers.proofs.RationalLemmas.{mul_comm, ring}
use Rattle.spec_numbers.proofs.Sign.{product_zero, inverse_not_zero}
use Rattle.spec_linear.specs.Form.{Linear, IsSumFrom, IsForm, is_zero, without_zeros, scaled_form, negated_form}
use Rattle.spec_linear.proofs.Values.{is_zero-true, is_zero-of}
use Rattle.spec_linear.proofs.Ordered.{form_same, IsForm-scaled_form, IsForm-negated_form}
use Rattle.spec_branch.specs.Expressions.{number_of, is_zero_form, quotient_form, power}
use Rattle.spec_branch.proofs.Kept.{is_constant_form}
use Rattle.spec_simplex.specs.Overflow.{on}
use Rattle.spec_transcript.specs.Operands.{product_operands, quotient_operands}
use Rattle.cq_frac.specs.declared.Operation.TheVariants.{Product, Quotient}
use Rattle.cq_frac.specs.declared.row.Entry.{Entry}
use Rattle.cq_frac.specs.Rows.{over, negated}
use Rattle.cq_form.specs.Entries.{form_of, products_of}

-- ---- the other sign

products_of-negated : (s : List Entry) → products_of (negated s) ≡ negated_products (products_of s)
products_of-negated [] = refl
products_of-negated (m ∷ s) = ap (λ (r : List Monomial). record { variable = m.quantity; factor = neg_ℚ m.factor } ∷ r) (products_of-negated s)

module _ (f : Linear) (s : List Entry) (e : products_of s ≡ f.products) where
  pub negated_is : (c : ℚ) → c ≡ neg_ℚ f.constant → form_of c (negated s) ≡ negated_form f
  negated_is c h = form_same (form_of c (negated s)) (negated_form f) (products_of-negated s ∙ ap negated_products e) h

  pub negated_in_order : (c : ℚ) → c ≡ neg_ℚ f.constant → IsForm f → IsForm (form_of c (negated s))
  negated_in_order c h i = subst IsForm (sym (negated_is c h)) (IsForm-negated_form f i)

-- ---- by a number

products_of-over : (d : ℚ) (s : List Entry) → products_of (over d s) ≡ scaled_products (inv_ℚ d) (products_of s)
products_of-over d [] = refl
products_of-over d (m ∷ s) =
    ap₂ (λ (q : ℚ) (r : List Monomial). record { variable = m.quantity; factor = q } ∷ r) (mul_comm m.factor (inv_ℚ d)) (products_of-over d s)

-- no factor becomes zero
none_left_away : (k : ℚ) → k ≢ 0ℚ → (low : ℕ) (s : List Monomial) → IsSumFrom low s → without_zeros (scaled_products k s) ≡ scaled_products k s
none_left_away k n low [] o = refl
none_left_away k n low (m ∷ s) o = go (is_zero (k *ℚ m.factor)) refl (none_left_away k n (suc m.variable) s o.2)
  where
    go : (b : Bool) → is_zero (k *ℚ m.factor) ≡ b → without_zeros (scaled_products k s) ≡ scaled_products k s
        → cond (not b) (record { variable = m.variable; factor = k *ℚ m.factor } ∷ without_zeros (scaled_products k s)) (without_zeros (scaled_products k s)) ≡ scaled_products k (m ∷ s)
    go true e h = absurd (o.1 (product_zero k m.factor n (is_zero-true (k *ℚ m.factor) e)))
    go false e h = ap (λ (r : List Monomial). record { variable = m.variable; factor = k *ℚ m.factor } ∷ r) h

module _ (f : Linear) (s : List Entry) (e : products_of s ≡ f.products) (d : ℚ) (n : d ≢ 0ℚ) (i : IsForm f) where
  pub over_is : (c : ℚ) → c ≡ f.constant /ℚ d → form_of c (over d s) ≡ scaled_form (inv_ℚ d) f
  over_is c h =
      form_same (form_of c (over d s)) (scaled_form (inv_ℚ d) f)
      (products_of-over d s ∙ ap (scaled_products (inv_ℚ d)) e ∙ sym (none_left_away (inv_ℚ d) (inverse_not_zero d n) 0 f.products i))
      (h ∙ mul_comm f.constant (inv_ℚ d))

  pub over_in_order : (c : ℚ) → c ≡ f.constant /ℚ d → IsForm (form_of c (over d s))
  over_in_order c h = subst IsForm (sym (over_is c h)) (IsForm-scaled_form (inv_ℚ d) f i)

-- ---- numbers

pub zero_number : (f : Linear) (q : ℚ) (b : Bool) → number_of f ≡ Some q → IsTrue b ↔ (q ≡ 0ℚ) → b ≡ is_zero_form (Some f)
zero_number f q b e h = go b h ∙ ap (λ g. is_zero_form (Some g)) (sym (is_constant_form f q e))
  where
    go : (b : Bool) → IsTrue b ↔ (q ≡ 0ℚ) → b ≡ is_zero q
    go true h = sym (is_zero-of q (h.0 refl))
    go false h = other (is_zero q) refl
      where
        other : (z : Bool) → is_zero q ≡ z → false ≡ is_zero q
        other true k = let n : false ≡ true = h.1 (is_zero-true q k) in cc
        other false k = sym k

-- a quotient by zero waits, as one by a form with variables
pub zero_quotient : (f : Linear) (p : Option ℚ) (q : ℚ) → p ≡ Some q → q ≡ 0ℚ → None ≡ quotient_form f p
zero_quotient f p q e z =
    ap (λ (b : Bool). cond b None (Some (scaled_form (inv_ℚ q) f))) (sym (is_zero-of q z)) ∙ ap (quotient_form f) (sym e)

pub nonzero_quotient : (f : Linear) (p : Option ℚ) (q : ℚ) → p ≡ Some q → q ≢ 0ℚ → Some (scaled_form (inv_ℚ q) f) ≡ quotient_form f p
nonzero_quotient f p q e n = go (is_zero q) refl ∙ ap (quotient_form f) (sym e)
  where
    go : (z : Bool) → is_zero q ≡ z → Some (scaled_form (inv_ℚ q) f) ≡ quotient_form f (Some q)
    go true k = absurd (n (is_zero-true q k))
    go false k = ap (λ (b : Bool). cond b None (Some (scaled_form (inv_ℚ q) f))) (sym k)

-- ---- what is multiplied and divided

pub left_operands : (f : Linear) (p : ℚ) (g : Linear) (q : Option ℚ) → on Product f g ∷ [] ≡ product_operands f (Some p) g q
left_operands f p g None = refl
left_operands f p g (Some q) = refl

pub nonzero_operands : (f g : Linear) (p : Option ℚ) (q : ℚ) → p ≡ Some q → q ≢ 0ℚ → on Quotient f g ∷ [] ≡ quotient_operands f g p
nonzero_operands f g p q e n = by (is_zero q) refl ∙ ap (quotient_operands f g) (sym e)
  where
    by : (z : Bool) → is_zero q ≡ z → on Quotient f g ∷ [] ≡ quotient_operands f g (Some q)
    by true k = absurd (n (is_zero-true q k))
    by false k = ap (λ (b : Bool). cond b [] (on Quotient f g ∷ [])) (sym k)

-- ---- powers

pub first_power : (q : ℚ) → q ≡ power q 1
first_power q = sym (ring (q ∷ []) (int (pos 1) ⊗ var 0) (var 0) refl)
