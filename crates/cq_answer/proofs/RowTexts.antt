-- Rows take no notice of the names of variables that do not stand in them.
use Rattle.std.proofs.Common.{◌≡◌, ℕ, Bool, List, [], ◌∷◌, ◌++◌, codes, map, refl, ap, ap₂, ◌∙◌, inl, inr, if◌then◌else◌}
use Rattle.std.specs.Prelude.{◌⊎◌}
use Rattle.std.specs.List.{AllByRecursion}
use Rattle.spec_numbers.specs.Rational.{ℚ, 0ℚ, 1ℚ, neg_ℚ}
use Rattle.spec_numbers.specs.Sums.{Monomial}
use Rattle.spec_linear.specs.Form.{is_zero, variables}
use Rattle.spec_linear.specs.Solution.{Constraint, Has}
use Rattle.spec_linear.specs.Echelon.{Solved}
use Rattle.spec_linear.proofs.Orders.{in_order-has}
use Rattle.spec_numbers.specs.Texts.{Text}
use Rattle.spec_text.specs.Numbers.{number_text}
use Rattle.spec_answers.specs.RowText.{same_number, joined, related, product_text, sum_onto, linear_text, equation_text}
use Rattle.spec_answers.specs.Rows.{Inequality, Disequation, Rows, equation_variables, inequality_variables, disequation_variables, row_variables, comparison_text, inequality_text, disequation_text, row_texts}
use Rattle.spec_answers.specs.Forms.{IsScaled, AreAnswerRows}
use Rattle.spec_linear.specs.Echelon.{IsBefore}

-- ---- members of joined lists

pub has_left : (vs us : List ℕ) (v : ℕ) → Has v vs → Has v (vs ++ us)
has_left [] us v h = absurd h
has_left (w ∷ vs) us v (inl e) = inl e
has_left (w ∷ vs) us v (inr h) = inr (has_left vs us v h)

pub has_right : (vs us : List ℕ) (v : ℕ) → Has v us → Has v (vs ++ us)
has_right [] us v h = h
has_right (w ∷ vs) us v h = inr (has_right vs us v h)

has_either : (vs us : List ℕ) (v : ℕ) → Has v (vs ++ us) → Has v vs ⊎ Has v us
has_either [] us v h = inr h
has_either (w ∷ vs) us v (inl e) = inl (inl e)
has_either (w ∷ vs) us v (inr h) = elim (has_either vs us v h) [ inl k ↦ inl (inr k) | inr k ↦ inr k ]

-- ---- texts

module _ (name other : ℕ → Text) where
  abbrev Agrees : List ℕ → Type 0
  Agrees vs = (v : ℕ) → Has v vs → name v ≡ other v

  product_same : (m : Monomial) → name m.variable ≡ other m.variable → product_text name m ≡ product_text other m
  product_same m e =
      ap (λ t. if same_number m.factor 1ℚ then t else if same_number m.factor (neg_ℚ 1ℚ) then codes "-" ++ t else number_text m.factor ++ codes "*" ++ t) e

  sum_same : (sum : Text) (s : List Monomial) → Agrees (variables s) → sum_onto name sum s ≡ sum_onto other sum s
  sum_same sum [] h = refl
  sum_same sum (m ∷ s) h =
      ap (λ t. sum_onto name (joined sum t) s) (product_same m (h m.variable (inl refl)))
      ∙ sum_same (joined sum (product_text other m)) s (λ v k. h v (inr k))

  linear_same : (s : List Monomial) (q : ℚ) → Agrees (variables s) → linear_text name s q ≡ linear_text other s q
  linear_same [] q h = refl
  linear_same (m ∷ s) q h =
      ap (λ sum. if is_zero q then sum else joined sum (number_text q))
      (ap (λ t. sum_onto name t s) (product_same m (h m.variable (inl refl))) ∙ sum_same (product_text other m) s (λ v k. h v (inr k)))

  equations_same : (es : List Solved) → Agrees (equation_variables es) → map (equation_text name) es ≡ map (equation_text other) es
  equations_same [] h = refl
  equations_same (e ∷ es) h =
      ap₂ (λ t ts. t ∷ ts)
      (ap₂ (λ left right. related left (codes "=") right) (h e.variable (inl refl))
      (linear_same e.form.products e.form.constant (λ v k. h v (inr (has_left (variables e.form.products) (equation_variables es) v k)))))
      (equations_same es (λ v k. h v (inr (has_right (variables e.form.products) (equation_variables es) v k))))

  inequalities_same : (is : List Inequality) → Agrees (inequality_variables is) → map (inequality_text name) is ≡ map (inequality_text other) is
  inequalities_same [] h = refl
  inequalities_same (i ∷ is) h =
      ap₂ (λ t ts. t ∷ ts)
      (ap (λ left. related left (comparison_text i.comparison) (number_text i.bound)) (linear_same i.products 0ℚ (λ v k. h v (has_left (variables i.products) (inequality_variables is) v k))))
      (inequalities_same is (λ v k. h v (has_right (variables i.products) (inequality_variables is) v k)))

  disequations_same : (ds : List Disequation) → Agrees (disequation_variables ds) → map (disequation_text name) ds ≡ map (disequation_text other) ds
  disequations_same [] h = refl
  disequations_same (d ∷ ds) h =
      ap₂ (λ t ts. t ∷ ts)
      (ap (λ left. related left (codes "=\\=") (number_text d.bound)) (linear_same d.products 0ℚ (λ v k. h v (has_left (variables d.products) (disequation_variables ds) v k))))
      (disequations_same ds (λ v k. h v (has_right (variables d.products) (disequation_variables ds) v k)))

  -- names that agree on the variables of rows make the same texts
  pub rows_same : (r : Rows) → Agrees (row_variables r) → row_texts name r ≡ row_texts other r
  rows_same r h =
      let e = equation_variables r.equations in
      let i = inequality_variables r.inequalities in
      let d = disequation_variables r.disequations in
      ap₂ (λ a b. a ++ b)
      (ap₂ (λ a b. a ++ b) (equations_same r.equations (λ v k. h v (has_left (e ++ i) d v (has_left e i v k))))
      (inequalities_same r.inequalities (λ v k. h v (has_left (e ++ i) d v (has_right e i v k)))))
      (disequations_same r.disequations (λ v k. h v (has_right (e ++ i) d v k)))

-- ---- the variables of rows are in their order

module _ (order : List ℕ) where
  equations_within : (es : List Solved) → AllByRecursion (λ e. IsBefore order e.variable e.form.products) es → (v : ℕ) → Has v (equation_variables es) → Has v order
  equations_within [] all v h = absurd h
  equations_within (e ∷ es) all v (inl same) = in_order-has order (e.variable ∷ variables e.form.products) all.0.ordered v (inl same)
  equations_within (e ∷ es) all v (inr h) = elim (has_either (variables e.form.products) (equation_variables es) v h) [
    | inl k ↦ in_order-has order (e.variable ∷ variables e.form.products) all.0.ordered v (inr k)
    | inr k ↦ equations_within es all.1 v k
  ]

  inequalities_within : (is : List Inequality) → AllByRecursion (λ i. IsScaled order i.products) is → (v : ℕ) → Has v (inequality_variables is) → Has v order
  inequalities_within [] all v h = absurd h
  inequalities_within (i ∷ is) all v h = elim (has_either (variables i.products) (inequality_variables is) v h) [
    | inl k ↦ in_order-has order (variables i.products) all.0.ordered v k
    | inr k ↦ inequalities_within is all.1 v k
  ]

  disequations_within : (ds : List Disequation) → AllByRecursion (λ d. IsScaled order d.products) ds → (v : ℕ) → Has v (disequation_variables ds) → Has v order
  disequations_within [] all v h = absurd h
  disequations_within (d ∷ ds) all v h = elim (has_either (variables d.products) (disequation_variables ds) v h) [
    | inl k ↦ in_order-has order (variables d.products) all.0.ordered v k
    | inr k ↦ disequations_within ds all.1 v k
  ]

  pub rows_within : (l : List Constraint) (r : Rows) → AreAnswerRows order l r → (v : ℕ) → Has v (row_variables r) → Has v order
  rows_within l r form v h =
      let e = equation_variables r.equations in
      let i = inequality_variables r.inequalities in
      let d = disequation_variables r.disequations in
      elim (has_either (e ++ i) d v h) [
        | inl k ↦ elim (has_either e i v k) [
          | inl x ↦ equations_within r.equations form.projected.echelon.first v x
          | inr x ↦ inequalities_within r.inequalities form.scaled_inequalities v x
        ]
        | inr k ↦ disequations_within r.disequations form.scaled_disequations v k
      ]
