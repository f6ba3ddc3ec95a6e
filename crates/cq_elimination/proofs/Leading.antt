-- What leads a form, and the form by it.
use Rattle.std.proofs.Common.{◌≡◌, ◌≢◌, inl, inr, List, [], ◌∷◌, None, Some, pos, refl, ap, sym, subst, ◌∙◌}
use Rattle.std.specs.Prelude.{slice_get}
use Rattle.spec_numbers.specs.Rational.{ℚ, 0ℚ, 1ℚ, ◌*ℚ◌, inv_ℚ}
use Rattle.spec_numbers.specs.Sums.{Monomial, factor_of, scaled_products}
use Rattle.spec_numbers.proofs.Ring.{var, int, ◌⊗◌}
use Rattle.spec_numbers.proofs.RationalLemmas.{ring, mul_comm}
use Rattle.spec_numbers.proofs.Sign.{zero_or_not, times_inverse}
use Rattle.spec_linear.specs.Form.{Linear, IsForm, without_zeros, scaled_form}
use Rattle.spec_linear.proofs.Ordered.{form_same}
use Rattle.cq_frac.specs.declared.Pair.{Pair}
use Rattle.cq_frac.specs.declared.VarId.{VarId}
use Rattle.cq_form.specs.Entries.{entry_of, product_of, form_of}
use Rattle.cq_form.specs.Steps.{HasCoefficient}
use Rattle.cq_form.proofs.Forms.{coefficient_is}
use Rattle.cq_elimination.specs.Steps.{IsQuotientOf}
use Rattle.cq_elimination.specs.Scaling.{leading_of, leading, canonical, ScalesForm}
use Rattle.cq_elimination.proofs.Canonical.{unless_zero, leading_stands}

-- ---- a number

pub without_lead : (s : List Monomial) → None ≡ slice_get s 0 → s ≡ []
without_lead [] e = refl
without_lead (m ∷ s) e = absurd (cc)

pub number_scaled : (f : Linear) (n : ℚ) → f.products ≡ [] → (f.constant ≡ 0ℚ → n ≡ 0ℚ) → (f.constant ≢ 0ℚ → n ≡ 1ℚ) → form_of n [] ≡ canonical f
number_scaled f n e zero other =
    form_same (form_of n []) (canonical f) (sym (ap (λ s. without_zeros (scaled_products (inv_ℚ (leading f)) s)) e)) (elim (zero_or_not f.constant) [
      | inl z ↦ zero z ∙ ring (inv_ℚ (leading f) ∷ []) (int (pos 0)) (var 0 ⊗ int (pos 0)) refl ∙ ap (λ w. inv_ℚ (leading f) *ℚ w) (sym z)
      | inr m ↦ other m ∙ sym (times_inverse f.constant m) ∙ mul_comm f.constant (inv_ℚ f.constant)
          ∙ ap (λ w. inv_ℚ w *ℚ f.constant) (sym (ap (λ s. leading_of s f.constant) e ∙ unless_zero f.constant m))
    ])

-- ---- a first product
module _ (p : VarId × ℚ) where
  lead_has : (s : List Monomial) → Some (product_of (entry_of p)) ≡ slice_get s 0 → HasCoefficient p.0.0 p.1 s
  lead_has [] e = absurd (cc)
  lead_has (m ∷ s) e = inl (cc)

  lead_is : (q : ℚ) (s : List Monomial) → Some (product_of (entry_of p)) ≡ slice_get s 0 → p.1 ≡ leading_of s q
  lead_is q [] e = absurd (cc)
  lead_is q (m ∷ s) e = let h : product_of (entry_of p) ≡ m = cc in ap (λ (n : Monomial). n.factor) h

  module _ (f : Linear) (first : Some (product_of (entry_of p)) ≡ slice_get f.products 0) where
    pub lead_stands : IsForm f → p.1 ≢ 0ℚ
    lead_stands i z = leading_stands f.constant f.products i (sym (lead_is f.constant f.products first) ∙ z)

    pub divided_scaled : scaled_form (inv_ℚ p.1) f ≡ canonical f
    divided_scaled = ap (λ k. scaled_form (inv_ℚ k) f) (lead_is f.constant f.products first)

    pub scales : (pair : Pair) → IsForm f → IsQuotientOf f p.1 pair → ScalesForm f pair
    scales pair i q =
        let is : factor_of p.0.0 f.products ≡ p.1 = coefficient_is 0 p.0.0 p.1 f.products i (lead_has f.products first) in
        record { variable = p.0.0; stands = λ z. lead_stands i (sym is ∙ z); quotient = subst (λ k. IsQuotientOf f k pair) (sym is) q }
