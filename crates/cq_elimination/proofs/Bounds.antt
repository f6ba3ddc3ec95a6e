-- The side on which a row is, and the rows of each side.
use Rattle.std.proofs.Common.{◌≡◌, ◌≢◌, inl, inr, ℕ, suc, List, [], ◌∷◌, ◌++◌, Bool, true, false, pos, refl, ap, sym, subst, ◌∙◌, append-nil}
use Rattle.std.specs.Prelude.{map, cond}
use Rattle.std.proofs.lemmas.Bool.{false_from_ne_true}
use Rattle.spec_numbers.specs.Rational.{ℚ, 0ℚ, neg_ℚ, IsPositive, IsNotNegative}
use Rattle.spec_numbers.specs.Sums.{Monomial, Mentions, factor_of}
use Rattle.spec_numbers.proofs.Ring.{var, int, minus}
use Rattle.spec_numbers.proofs.RationalLemmas.{ring}
use Rattle.spec_numbers.proofs.Sign.{nonneg_cases, not_pos_zero, not_both, pos_nonneg}
use Rattle.spec_linear.specs.declared.Relation.{Relation}
use Rattle.spec_linear.specs.Form.{Linear, IsSumFrom, is_zero}
use Rattle.spec_linear.specs.Solution.{Constraint, Has}
use Rattle.spec_linear.proofs.Values.{is_zero-true, is_zero-of}
use Rattle.spec_projection.proofs.Eliminated.{is_positive-true, is_positive-of}
use Rattle.spec_projection.specs.Elimination.{coefficient, is_positive}
use Rattle.cq_frac.specs.declared.row.Entry.{Entry}
use Rattle.cq_frac.specs.Rows as row
use Rattle.cq_form.specs.Entries.{products_of}
use Rattle.cq_form.proofs.Forms.{coefficient_is}
use Rattle.cq_form.proofs.Rows.{has_product}

neg_zero : neg_ℚ 0ℚ ≡ 0ℚ
neg_zero = ring [] (minus (int (pos 0))) (int (pos 0)) refl

neg_neg : (q : ℚ) → q ≡ neg_ℚ (neg_ℚ q)
neg_neg q = ring (q ∷ []) (var 0) (minus (minus (var 0))) refl

pub negative_not_zero : (q : ℚ) → IsPositive (neg_ℚ q) → q ≢ 0ℚ
negative_not_zero q h e = not_pos_zero (subst IsPositive (ap neg_ℚ e ∙ neg_zero) h)

-- a number that is neither positive nor zero
pub is_negative : (q : ℚ) → q ≢ 0ℚ → IsNotNegative (neg_ℚ q) → IsPositive (neg_ℚ q)
is_negative q n h = elim (nonneg_cases (neg_ℚ q) h) [ inl e ↦ absurd (n (neg_neg q ∙ ap neg_ℚ e ∙ neg_zero)) | inr p ↦ p ]

nonzero_member : (low : ℕ) (p : Monomial) (s : List Monomial) → IsSumFrom low s → Has p s → p.factor ≢ 0ℚ
nonzero_member low p [] o h = absurd h
nonzero_member low p (m ∷ s) o (inl e) = λ z. o.1 (sym (ap (λ (t : Monomial). t.factor) e) ∙ z)
nonzero_member low p (m ∷ s) o (inr h) = nonzero_member (suc m.variable) p s o.2 h

-- ---- what the tests of the sides say

not_positive : (q : ℚ) → (IsPositive q → ⊥) → is_positive q ≡ false
not_positive q n = false_from_ne_true (is_positive q) (λ e. n (is_positive-of q e))

pub not_zero : (q : ℚ) → q ≢ 0ℚ → is_zero q ≡ false
not_zero q n = false_from_ne_true (is_zero q) (λ e. n (is_zero-true q e))

-- what the tests say of the coefficient
pub record Tests (q : ℚ) (lower upper other : Bool) : Type 0 where
  pub lower_is : is_positive q ≡ lower
  pub upper_is : is_positive (neg_ℚ q) ≡ upper
  pub other_is : is_zero q ≡ other

pub tests_lower : (q : ℚ) → IsPositive q → Tests q true false false
tests_lower q h = record {
  lower_is = is_positive-true q h;
  upper_is = not_positive (neg_ℚ q) (λ k. not_both h (pos_nonneg k));
  other_is = not_zero q (λ e. not_pos_zero (subst IsPositive e h));
}

pub tests_upper : (q : ℚ) → IsPositive (neg_ℚ q) → Tests q false true false
tests_upper q h = record {
  lower_is = not_positive q (λ k. not_both k (pos_nonneg h));
  upper_is = is_positive-true (neg_ℚ q) h;
  other_is = not_zero q (negative_not_zero q h);
}

pub tests_other : (q : ℚ) → q ≡ 0ℚ → Tests q false false true
tests_other q e = record {
  lower_is = not_positive q (λ h. not_pos_zero (subst IsPositive e h));
  upper_is = not_positive (neg_ℚ q) (λ h. negative_not_zero q h e);
  other_is = is_zero-of q e;
}

-- a row that passes a test is one more, and one that does not is none
pub passes : {A B : Type 0} (make : A → B) (b : Bool) (c : A) (old new : List B) → b ≡ true → new ≡ old ++ make c ∷ [] → new ≡ old ++ map make (cond b (c ∷ []) [])
passes make true c old new e h = h
passes make false c old new e h = absurd (cc)

pub fails : {A B : Type 0} (make : A → B) (b : Bool) (c : A) (old new : List B) → b ≡ false → new ≡ old → new ≡ old ++ map make (cond b (c ∷ []) [])
fails make true c old new e h = absurd (cc)
fails make false c old new e h = h ∙ sym (append-nil old)

pub passes_itself : {A : Type 0} (b : Bool) (c : A) (old new : List A) → b ≡ true → new ≡ old ++ c ∷ [] → new ≡ old ++ cond b (c ∷ []) []
passes_itself true c old new e h = h
passes_itself false c old new e h = absurd (cc)

pub fails_itself : {A : Type 0} (b : Bool) (c : A) (old new : List A) → b ≡ false → new ≡ old → new ≡ old ++ cond b (c ∷ []) []
fails_itself true c old new e h = absurd (cc)
fails_itself false c old new e h = h ∙ sym (append-nil old)

-- an entry of a row's form
module _ (x : ℕ) (s : List Entry) (r : Relation) (f : Linear) (c : Constraint)
    (view : record { relation = r; form = f } ≡ c) (entries : products_of s ≡ f.products) where
  products_are : products_of s ≡ c.form.products
  products_are = entries ∙ ap (λ (d : Constraint). d.form.products) view

  pub found : (k : ℚ) → IsSumFrom 0 (products_of s) → row.Has (record { quantity = x; factor = k }) s → (k ≡ coefficient x c) × (k ≢ 0ℚ)
  found k o h =
      let m = has_product (record { quantity = x; factor = k }) s h in
      (sym (coefficient_is 0 x k (products_of s) o m) ∙ ap (factor_of x) products_are, nonzero_member 0 (record { variable = x; factor = k }) (products_of s) o m)

  pub missing : (Mentions x (products_of s) → ⊥) → Mentions x c.form.products → ⊥
  missing n = subst (λ t. Mentions x t → ⊥) products_are n
