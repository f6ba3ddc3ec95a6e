-- Forms that are divided by a number, and the pairs that this meets.
use Rattle.std.proofs.Common.{◌≡◌, ◌≢◌, ℕ, suc, List, [], ◌∷◌, Bool, true, false, refl, ap, ap₂, sym, subst, ◌∙◌}
use Rattle.std.specs.Prelude.{cond, not}
use Rattle.spec_numbers.specs.Rational.{ℚ, 0ℚ, inv_ℚ, ◌*ℚ◌, ◌/ℚ◌}
use Rattle.spec_numbers.specs.Sums.{Monomial, scaled_products}
use Rattle.spec_numbers.proofs.RationalLemmas.{mul_comm}
use Rattle.spec_numbers.proofs.Sign.{product_zero, inverse_not_zero}
use Rattle.spec_linear.specs.Form.{Linear, IsSumFrom, IsForm, is_zero, without_zeros, scaled_form}
use Rattle.spec_linear.specs.Solution.{Constraint, Has}
use Rattle.spec_linear.proofs.Ordered.{form_same, product_same, IsForm-scaled_form}
use Rattle.spec_projection.specs.Elimination.{coefficient}
use Rattle.spec_simplex.specs.Overflow.{IsNumberOf, of_variable}
use Rattle.cq_frac.specs.declared.Operation.TheVariants.{Quotient}
use Rattle.cq_frac.specs.declared.Pair.{Pair}
use Rattle.cq_frac.specs.Refused.{Tells, IsRefused}
use Rattle.cq_frac.specs.declared.row.Entry.{Entry}
use Rattle.cq_frac.specs.Rows as row
use Rattle.cq_frac.specs.Rows.{over}
use Rattle.cq_form.specs.Entries.{form_of, products_of}
use Rattle.cq_form.specs.Steps.{HasCoefficient}
use Rattle.cq_form.proofs.Forms.{coefficient_is}
use Rattle.cq_form.proofs.Rows.{has_product}
use Rattle.cq_elimination.specs.Steps.{IsQuotientOf, DividesIn}
use Rattle.cq_elimination.proofs.Bounds.{not_zero}

-- ---- values

over_is : (k : ℚ) (s : List Entry) → products_of (over k s) ≡ scaled_products (inv_ℚ k) (products_of s)
over_is k [] = refl
over_is k (m ∷ s) = ap₂ (λ p t. p ∷ t) (product_same _ _ refl (mul_comm m.factor (inv_ℚ k))) (over_is k s)

-- a multiple has no zero to leave away
all_stay : (low : ℕ) (k : ℚ) (s : List Monomial) → k ≢ 0ℚ → IsSumFrom low s → scaled_products k s ≡ without_zeros (scaled_products k s)
all_stay low k [] n o = refl
all_stay low k (m ∷ s) n o = go (is_zero (k *ℚ m.factor)) (not_zero (k *ℚ m.factor) (λ e. o.1 (product_zero k m.factor n e))) (all_stay (suc m.variable) k s n o.2)
  where
    go : (b : Bool) → b ≡ false → scaled_products k s ≡ without_zeros (scaled_products k s)
        → scaled_products k (m ∷ s) ≡ cond (not b) (record { variable = m.variable; factor = k *ℚ m.factor } ∷ without_zeros (scaled_products k s)) (without_zeros (scaled_products k s))
    go true e h = absurd (cc)
    go false e h = ap (λ t. record { variable = m.variable; factor = k *ℚ m.factor } ∷ t) h

module _ (k : ℚ) (f : Linear) (s t : List Entry) (c : ℚ) (nonzero : k ≢ 0ℚ) (form : IsForm f) (entries : products_of s ≡ f.products)
    (quotients : t ≡ over k s) (constant : c ≡ f.constant /ℚ k) where
  pub divided_is : form_of c t ≡ scaled_form (inv_ℚ k) f
  divided_is =
      form_same _ _
      (ap products_of quotients ∙ over_is k s ∙ ap (scaled_products (inv_ℚ k)) entries
      ∙ all_stay 0 (inv_ℚ k) f.products (inverse_not_zero k nonzero) form)
      (constant ∙ mul_comm f.constant (inv_ℚ k))

  pub divided_in_order : IsForm (form_of c t)
  divided_in_order = subst IsForm (sym divided_is) (IsForm-scaled_form (inv_ℚ k) f form)

-- ---- pairs

pub quotient_told : (f : Linear) (a k : ℚ) (pair : Pair) → IsNumberOf f a → Tells Quotient a k pair → IsQuotientOf f k pair
quotient_told f a k pair n t = record {
  number = subst (IsNumberOf f) (sym (ap (λ (p : Pair). p.left) t.is_pair)) n;
  divisor = ap (λ (p : Pair). p.right) t.is_pair;
  operation = ap (λ (p : Pair). p.operation) t.is_pair;
  refused = subst IsRefused (sym t.is_pair) t.refused;
}

pub entry_told : (f : Linear) (s : List Entry) (k : ℚ) (pair : Pair) → IsForm f → products_of s ≡ f.products → row.IsQuotientPair s k pair → IsQuotientOf f k pair
entry_told f s k pair o e q =
    let has : HasCoefficient q.entry.quantity q.entry.factor f.products = subst (HasCoefficient q.entry.quantity q.entry.factor) e (has_product q.entry s q.in_row) in
    quotient_told f q.entry.factor k pair (subst (IsNumberOf f) (coefficient_is 0 q.entry.quantity q.entry.factor f.products o has) (of_variable q.entry.quantity)) q.tells

pub divides_by : (x : ℕ) (c : Constraint) (k : ℚ) (l : List Constraint) (pair : Pair) → k ≡ coefficient x c → k ≢ 0ℚ → Has c l → IsQuotientOf c.form k pair → DividesIn x l pair
divides_by x c k l pair e n h q = record {
  row = c;
  member = h;
  stands = subst (λ j. j ≢ 0ℚ) e n;
  quotient = subst (λ j. IsQuotientOf c.form j pair) e q;
}

pub divides_more : (x : ℕ) (k l : List Constraint) (pair : Pair) → ((c : Constraint) → Has c k → Has c l) → DividesIn x k pair → DividesIn x l pair
divides_more x k l pair h d = record { row = d.row; member = h d.row d.member; stands = d.stands; quotient = d.quotient }
