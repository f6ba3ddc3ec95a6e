-- A form mentions just the variables whose coefficient is not zero.
use Rattle.std.proofs.Common.{◌≡◌, ◌≢◌, ◌⊎◌, inl, inr, ℕ, suc, ◌≤◌, List, [], ◌∷◌, Bool, true, false, arith, pos, refl, ap, ap₂, sym, subst, ◌∙◌}
use Rattle.std.specs.Prelude.{nat_eq}
use Rattle.spec_numbers.specs.Rational.{ℚ, 0ℚ, ◌+ℚ◌, ◌*ℚ◌, neg_ℚ, inv_ℚ, IsPositive}
use Rattle.spec_numbers.specs.Sums.{Monomial, Mentions, factor_of, when, unit, scaled_products}
use Rattle.spec_numbers.proofs.Ring.{var, int, ◌⊕◌, ◌⊗◌, minus}
use Rattle.spec_numbers.proofs.RationalLemmas.{ring}
use Rattle.spec_numbers.proofs.Sign.{zero_or_not, inv_mul}
use Rattle.spec_numbers.proofs.Sums.{factor_of-is, sum_at-scaled_products}
use Rattle.spec_linear.specs.Form.{Linear, IsSumFrom, IsForm, sum_form, scaled_form}
use Rattle.spec_linear.specs.Solution.{Constraint, Has, SomeMentions}
use Rattle.spec_linear.proofs.Values.{sum_at-sum_products, sum_at-without_zeros}
use Rattle.spec_numbers.proofs.Tests.{nat_eq-same}
use Rattle.spec_linear.proofs.Ordered.{factor_of-first, factor_of-rest, IsForm-sum_form, IsForm-scaled_form}
use Rattle.spec_projection.specs.Elimination.{coefficient, lower_rows, upper_rows, other_rows, combination, combinations, eliminated}
use Rattle.spec_projection.specs.Lists.{AreForms}
use Rattle.spec_projection.proofs.Members.{has_either}
use Rattle.spec_projection.proofs.Step.{has_pair, lower_is, upper_is, other_is}

mentions_above : (x low : ℕ) (s : List Monomial) → IsSumFrom low s → Mentions x s → low ≤ x
mentions_above x low [] i h = absurd h
mentions_above x low (m ∷ s) i (inl e) = let k : low ≤ m.variable = i.0 in omega (arith, k, e)
mentions_above x low (m ∷ s) i (inr h) =
    let k : suc m.variable ≤ x = mentions_above x (suc m.variable) s i.2 h in
    let j : low ≤ m.variable = i.0 in omega (arith, j, k)

pub mentioned_factor : (x low : ℕ) (s : List Monomial) → IsSumFrom low s → Mentions x s → factor_of x s ≢ 0ℚ
mentioned_factor x low [] i h = absurd h
mentioned_factor x low (m ∷ s) i (inl e) = λ z. i.1 (sym (factor_of-first low m s i) ∙ ap (λ y. factor_of y (m ∷ s)) (sym e) ∙ z)
mentioned_factor x low (m ∷ s) i (inr h) =
    let k : suc m.variable ≤ x = mentions_above x (suc m.variable) s i.2 h in
    λ z. mentioned_factor x (suc m.variable) s i.2 h (sym (factor_of-rest x m s (λ e. omega (arith, k, e))) ∙ z)

pub factor_mentioned : (x : ℕ) (s : List Monomial) → factor_of x s ≢ 0ℚ → Mentions x s
factor_mentioned x [] n = absurd (n refl)
factor_mentioned x (m ∷ s) n = go (nat_eq x m.variable) refl n (factor_mentioned x s)
  where
    go : (b : Bool) → nat_eq x m.variable ≡ b → when b m.factor +ℚ factor_of x s ≢ 0ℚ → (factor_of x s ≢ 0ℚ → Mentions x s) → Mentions x (m ∷ s)
    go true e k rest = inl (nat_eq-same x m.variable e)
    go false e k rest = inr (rest (λ z. k (ap (λ w. 0ℚ +ℚ w) z ∙ ring [] (int (pos 0) ⊕ int (pos 0)) (int (pos 0)) refl)))

pub unmentioned_factor : (x : ℕ) (s : List Monomial) → (Mentions x s → ⊥) → factor_of x s ≡ 0ℚ
unmentioned_factor x s n = elim (zero_or_not (factor_of x s)) [ inl e ↦ e | inr k ↦ absurd (n (factor_mentioned x s k)) ]

-- ---- the coefficients of a combination

factor_of-scaled_form : (x : ℕ) (k : ℚ) (f : Linear) → factor_of x (scaled_form k f).products ≡ k *ℚ factor_of x f.products
factor_of-scaled_form x k f =
    factor_of-is x (scaled_form k f).products ∙ sum_at-without_zeros (unit x) (scaled_products k f.products) ∙ sum_at-scaled_products (unit x) k f.products
    ∙ ap (λ w. k *ℚ w) (sym (factor_of-is x f.products))

factor_of-sum_form : (x : ℕ) (f g : Linear) → factor_of x (sum_form f g).products ≡ factor_of x f.products +ℚ factor_of x g.products
factor_of-sum_form x f g =
    factor_of-is x (sum_form f g).products ∙ sum_at-sum_products (unit x) f.products g.products
    ∙ ap₂ (λ v w. v +ℚ w) (sym (factor_of-is x f.products)) (sym (factor_of-is x g.products))

pub coefficient-combination : (x y : ℕ) (c d : Constraint) → coefficient y (combination x c d) ≡ inv_ℚ (coefficient x c) *ℚ coefficient y c +ℚ inv_ℚ (neg_ℚ (coefficient x d)) *ℚ coefficient y d
coefficient-combination x y c d =
    let k : ℚ = inv_ℚ (coefficient x c) in
    let j : ℚ = inv_ℚ (neg_ℚ (coefficient x d)) in
    factor_of-sum_form y (scaled_form k c.form) (scaled_form j d.form) ∙ ap₂ (λ v w. v +ℚ w) (factor_of-scaled_form y k c.form) (factor_of-scaled_form y j d.form)

cancelled : (x : ℕ) (c d : Constraint) → IsPositive (coefficient x c) → IsPositive (neg_ℚ (coefficient x d)) → coefficient x (combination x c d) ≡ 0ℚ
cancelled x c d h k =
    let p : ℚ = coefficient x c in
    let q : ℚ = coefficient x d in
    coefficient-combination x x c d
    ∙ ring (p ∷ q ∷ inv_ℚ p ∷ inv_ℚ (neg_ℚ q) ∷ []) (var 2 ⊗ var 0 ⊕ var 3 ⊗ var 1) (var 0 ⊗ var 2 ⊕ minus (minus (var 1) ⊗ var 3)) refl
    ∙ ap₂ (λ v w. v +ℚ neg_ℚ w) (inv_mul h) (inv_mul k)
    ∙ ring [] (int (pos 1) ⊕ minus (int (pos 1))) (int (pos 0)) refl

-- ---- the list without x

pub IsForm-combination : (x : ℕ) (c d : Constraint) → IsForm c.form → IsForm d.form → IsForm (combination x c d).form
IsForm-combination x c d i j =
    IsForm-sum_form (scaled_form (inv_ℚ (coefficient x c)) c.form) (scaled_form (inv_ℚ (neg_ℚ (coefficient x d))) d.form)
    (IsForm-scaled_form (inv_ℚ (coefficient x c)) c.form i) (IsForm-scaled_form (inv_ℚ (neg_ℚ (coefficient x d))) d.form j)

pub AreForms-eliminated : (x : ℕ) (l : List Constraint) → AreForms l → AreForms (eliminated x l)
AreForms-eliminated x l i e h = elim (has_either e (other_rows x l) (combinations x (lower_rows x l) (upper_rows x l)) h) [
  | inl k ↦ i e (other_is x l e k).0
  | inr k ↦
      let p = has_pair x e (lower_rows x l) (upper_rows x l) k in
      subst (λ c. IsForm c.form) (sym p.is) (IsForm-combination x p.lower p.upper (i p.lower (lower_is x l p.lower p.of_lowers).0) (i p.upper (upper_is x l p.upper p.of_uppers).0))
]

pub some_mentions : (y : ℕ) (l : List Constraint) (c : Constraint) → Has c l → Mentions y c.form.products → SomeMentions y l
some_mentions y [] c h m = absurd h
some_mentions y (d ∷ l) c (inl e) m = inl (subst (λ b. Mentions y b.form.products) e m)
some_mentions y (d ∷ l) c (inr h) m = inr (some_mentions y l c h m)

pub record Mentioning (y : ℕ) (l : List Constraint) : Type 0 where
  pub row : Constraint
  pub among : Has row l
  pub mentions : Mentions y row.form.products

pub mentioning : (y : ℕ) (l : List Constraint) → SomeMentions y l → Mentioning y l
mentioning y [] h = absurd h
mentioning y (c ∷ l) (inl m) = record { row = c; among = inl refl; mentions = m }
mentioning y (c ∷ l) (inr h) = let r = mentioning y l h in record { row = r.row; among = inr r.among; mentions = r.mentions }

-- the coefficient is zero of x
pub coefficient-eliminated : (x : ℕ) (l : List Constraint) (e : Constraint) → Has e (eliminated x l) → coefficient x e ≡ 0ℚ
coefficient-eliminated x l e h = elim (has_either e (other_rows x l) (combinations x (lower_rows x l) (upper_rows x l)) h) [
  | inl k ↦ (other_is x l e k).1
  | inr k ↦
      let p = has_pair x e (lower_rows x l) (upper_rows x l) k in
      ap (coefficient x) p.is ∙ cancelled x p.lower p.upper (lower_is x l p.lower p.of_lowers).1 (upper_is x l p.upper p.of_uppers).1
]

pub x_is_gone : (x : ℕ) (l : List Constraint) → AreForms l → SomeMentions x (eliminated x l) → ⊥
x_is_gone x l i h =
    let r = mentioning x (eliminated x l) h in
    mentioned_factor x 0 r.row.form.products (AreForms-eliminated x l i r.row r.among) r.mentions (coefficient-eliminated x l r.row r.among)

-- where neither row mentions y, the combination does not
pub neither : (x y : ℕ) (c d : Constraint) → coefficient y c ≡ 0ℚ → coefficient y d ≡ 0ℚ → coefficient y (combination x c d) ≡ 0ℚ
neither x y c d e k =
    coefficient-combination x y c d ∙ ap₂ (λ v w. inv_ℚ (coefficient x c) *ℚ v +ℚ inv_ℚ (neg_ℚ (coefficient x d)) *ℚ w) e k
    ∙ ring (inv_ℚ (coefficient x c) ∷ inv_ℚ (neg_ℚ (coefficient x d)) ∷ []) (var 0 ⊗ int (pos 0) ⊕ var 1 ⊗ int (pos 0)) (int (pos 0)) refl

one_of_them : (x y : ℕ) (c d : Constraint) → IsForm c.form → IsForm d.form → Mentions y (combination x c d).form.products → Mentions y c.form.products ⊎ Mentions y d.form.products
one_of_them x y c d i j m = go (zero_or_not (coefficient y c)) (zero_or_not (coefficient y d))
  where
    go : (coefficient y c ≡ 0ℚ) ⊎ (coefficient y c ≡ 0ℚ → ⊥) → (coefficient y d ≡ 0ℚ) ⊎ (coefficient y d ≡ 0ℚ → ⊥) → Mentions y c.form.products ⊎ Mentions y d.form.products
    go (inr n) k = inl (factor_mentioned y c.form.products n)
    go (inl e) (inr n) = inr (factor_mentioned y d.form.products n)
    go (inl e) (inl k) = absurd (mentioned_factor y 0 (combination x c d).form.products (IsForm-combination x c d i j) m (neither x y c d e k))

pub no_variable_joins : (x y : ℕ) (l : List Constraint) → AreForms l → SomeMentions y (eliminated x l) → SomeMentions y l
no_variable_joins x y l i h =
    let r = mentioning y (eliminated x l) h in
    elim (has_either r.row (other_rows x l) (combinations x (lower_rows x l) (upper_rows x l)) r.among) [
      | inl k ↦ some_mentions y l r.row (other_is x l r.row k).0 r.mentions
      | inr k ↦
          let p = has_pair x r.row (lower_rows x l) (upper_rows x l) k in
          let c = lower_is x l p.lower p.of_lowers in
          let d = upper_is x l p.upper p.of_uppers in
          elim (one_of_them x y p.lower p.upper (i p.lower c.0) (i p.upper d.0) (subst (λ e. Mentions y e.form.products) p.is r.mentions)) [
            | inl m ↦ some_mentions y l p.lower c.0 m
            | inr m ↦ some_mentions y l p.upper d.0 m
          ]
    ]
