-- Constraints with the forms of reduced equations put into them keep their products in order and mention none of their variables.
use Rattle.std.proofs.Common.{◌≡◌, ◌≢◌, ◌⊎◌, inl, inr, ℕ, List, [], ◌∷◌, Bool, true, false, cond, not, arith, refl, sym, subst}
use Rattle.std.specs.Prelude.{map, ◌==◌, nat_lt}
use Rattle.std.specs.List.{AllByRecursion}
use Rattle.spec_numbers.specs.Rational.{ℚ, 0ℚ, ◌+ℚ◌, ◌*ℚ◌}
use Rattle.spec_numbers.specs.Sums.{Monomial, Mentions, factor_of, scaled_products}
use Rattle.spec_linear.specs.Form.{Linear, IsForm, IsSumFrom, is_zero, in_front, with_product, sum_products, without_zeros, without}
use Rattle.spec_linear.specs.Solution.{Constraint, Has}
use Rattle.spec_linear.proofs.Values.{is_zero-false}
use Rattle.spec_linear.proofs.Ordered.{IsSumFrom-without, IsForm-sum_form}
use Rattle.spec_linear.specs.Echelon.{Solved, MentionsNone}
use Rattle.spec_projection.specs.Lists.{AreForms}
use Rattle.spec_projection.specs.Substitution.{with_form_of, with_forms_of, put_into, solved_variables, AreReduced, AreFreeOf}
use Rattle.spec_projection.proofs.Members.{has_mapped, has_image}
use Rattle.spec_projection.proofs.Filled.{each, all_of, free_variable}

-- ---- products in order

-- products with factors that are not zero, in any order, added to a sum in order
IsSumFrom-added : (s t : List Monomial) → AllByRecursion (λ m. m.factor ≢ 0ℚ) s → IsSumFrom 0 t → IsSumFrom 0 (sum_products s t)
IsSumFrom-added [] t n i = i
IsSumFrom-added (m ∷ s) t n i =
    let one : Linear = record { products = m ∷ []; constant = 0ℚ } in
    let two : Linear = record { products = sum_products s t; constant = 0ℚ } in
    IsForm-sum_form one two (omega arith, n.0, tt) (IsSumFrom-added s t n.1 i)

without_zeros-nonzero : (s : List Monomial) → AllByRecursion (λ m. m.factor ≢ 0ℚ) (without_zeros s)
without_zeros-nonzero [] = tt
without_zeros-nonzero (m ∷ s) = go (is_zero m.factor) refl (without_zeros-nonzero s)
  where
    go : (b : Bool) → is_zero m.factor ≡ b → AllByRecursion (λ n. n.factor ≢ 0ℚ) (without_zeros s) → AllByRecursion (λ n. n.factor ≢ 0ℚ) (cond (not b) (m ∷ without_zeros s) (without_zeros s))
    go true e h = h
    go false e h = (is_zero-false m.factor e, h)

pub IsForm-with_forms_of : (es : List Solved) (f : Linear) → IsForm f → IsForm (with_forms_of es f)
IsForm-with_forms_of [] f i = i
IsForm-with_forms_of (e ∷ es) f i =
    IsForm-with_forms_of es (with_form_of e f)
    (IsSumFrom-added (without_zeros (scaled_products (factor_of e.variable f.products) e.form.products)) (without e.variable f.products)
    (without_zeros-nonzero (scaled_products (factor_of e.variable f.products) e.form.products)) (IsSumFrom-without 0 e.variable f.products i))

pub AreForms-put_into : (es : List Solved) (l : List Constraint) → AreForms l → AreForms (map (put_into es) l)
AreForms-put_into es l i c h =
    let k = has_mapped (put_into es) c l h in
    subst (λ d. IsForm d.form) (sym k.is) (IsForm-with_forms_of es k.from.form (i k.from k.member))

-- ---- what is mentioned

mentions-in_front : (x : ℕ) (m : Monomial) (s : List Monomial) → Mentions x (in_front m s) → (x ≡ m.variable) ⊎ Mentions x s
mentions-in_front x m s h = go (is_zero m.factor) h
  where
    go : (b : Bool) → Mentions x (cond b s (m ∷ s)) → (x ≡ m.variable) ⊎ Mentions x s
    go true k = inr k
    go false k = k

mentions-with_product : (x : ℕ) (p : Monomial) (s : List Monomial) → Mentions x (with_product p s) → (x ≡ p.variable) ⊎ Mentions x s
mentions-with_product x p [] h = mentions-in_front x p [] h
mentions-with_product x p (m ∷ s) h = go (nat_lt p.variable m.variable) (p.variable == m.variable) h (mentions-with_product x p s)
  where
    go : (b c : Bool)
        → Mentions x (cond b (in_front p (m ∷ s)) (cond c (in_front (record { variable = p.variable; factor = p.factor +ℚ m.factor }) s) (m ∷ with_product p s)))
        → (Mentions x (with_product p s) → (x ≡ p.variable) ⊎ Mentions x s) → (x ≡ p.variable) ⊎ Mentions x (m ∷ s)
    go true c k rest = mentions-in_front x p (m ∷ s) k
    go false true k rest = elim (mentions-in_front x (record { variable = p.variable; factor = p.factor +ℚ m.factor }) s k) [ inl e ↦ inl e | inr i ↦ inr (inr i) ]
    go false false (inl e) rest = inr (inl e)
    go false false (inr i) rest = elim (rest i) [ inl e ↦ inl e | inr j ↦ inr (inr j) ]

mentions-sum_products : (x : ℕ) (s t : List Monomial) → Mentions x (sum_products s t) → Mentions x s ⊎ Mentions x t
mentions-sum_products x [] t h = inr h
mentions-sum_products x (m ∷ s) t h = elim (mentions-with_product x m (sum_products s t) h) [
  | inl e ↦ inl (inl e)
  | inr i ↦ elim (mentions-sum_products x s t i) [ inl j ↦ inl (inr j) | inr j ↦ inr j ]
]

mentions-scaled : (x : ℕ) (k : ℚ) (s : List Monomial) → Mentions x (without_zeros (scaled_products k s)) → Mentions x s
mentions-scaled x k [] h = h
mentions-scaled x k (m ∷ s) h = go (is_zero (k *ℚ m.factor)) h (mentions-scaled x k s)
  where
    go : (b : Bool) → Mentions x (cond (not b) (record { variable = m.variable; factor = k *ℚ m.factor } ∷ without_zeros (scaled_products k s)) (without_zeros (scaled_products k s)))
        → (Mentions x (without_zeros (scaled_products k s)) → Mentions x s) → Mentions x (m ∷ s)
    go true i rest = inr (rest i)
    go false (inl e) rest = inl e
    go false (inr i) rest = inr (rest i)

mentions-without : (x y : ℕ) (s : List Monomial) → Mentions y (without x s) → Mentions y s × (y ≢ x)
mentions-without x y [] h = absurd h
mentions-without x y (m ∷ s) h = go (x == m.variable) refl h (mentions-without x y s)
  where
    go : (b : Bool) → (x == m.variable) ≡ b → Mentions y (cond (not b) (m ∷ without x s) (without x s)) → (Mentions y (without x s) → Mentions y s × (y ≢ x)) → Mentions y (m ∷ s) × (y ≢ x)
    go true e i rest = let r = rest i in (inr r.0, r.1)
    go false e (inl w) rest = (inl w, (λ z. grind arith))
    go false e (inr i) rest = let r = rest i in (inr r.0, r.1)

-- what a form with that of an equation mentions
pub mentions-with_form_of : (y : ℕ) (e : Solved) (f : Linear) → Mentions y (with_form_of e f).products → Mentions y e.form.products ⊎ (Mentions y f.products × (y ≢ e.variable))
mentions-with_form_of y e f h = elim (mentions-sum_products y (without_zeros (scaled_products (factor_of e.variable f.products) e.form.products)) (without e.variable f.products) h) [
  | inl i ↦ inl (mentions-scaled y (factor_of e.variable f.products) e.form.products i)
  | inr i ↦ inr (mentions-without e.variable y f.products i)
]

-- no variable is mentioned but those of f that are not solved for, and those of the equations' forms
pub mentions-with_forms_of : (P : ℕ → Type 0) (es : List Solved) (f : Linear) → ((e : Solved) → Has e es → (y : ℕ) → Mentions y e.form.products → P y)
    → ((y : ℕ) → Mentions y f.products → (Has y (solved_variables es) → ⊥) → P y) → (y : ℕ) → Mentions y (with_forms_of es f).products → P y
mentions-with_forms_of P [] f h k y m = k y m (λ i. i)
mentions-with_forms_of P (e ∷ es) f h k y m =
    mentions-with_forms_of P es (with_form_of e f) (λ d i. h d (inr i))
    (λ z i n. elim (mentions-with_form_of z e f i) [ inl j ↦ h e (inl refl) z j | inr j ↦ k z j.0 (λ o. elim o [ inl w ↦ j.1 w | inr u ↦ n u ]) ]) y m

pub put_into-free : (es : List Solved) (l : List Constraint) → AreReduced es → AreFreeOf es (map (put_into es) l)
put_into-free es l r c h =
    let k = has_mapped (put_into es) c l h in
    subst (λ d. MentionsNone es d.form.products) (sym k.is) (all_of (λ e. Mentions e.variable (with_forms_of es k.from.form).products → ⊥) es (λ e i m. never e i k.from.form m))
  where
    never : (e : Solved) → Has e es → (f : Linear) → Mentions e.variable (with_forms_of es f).products → ⊥
    never e i f m =
        mentions-with_forms_of (λ y. Has y (solved_variables es) → ⊥) es f
        (λ d j y n. free_variable es d.form.products (each (λ b. MentionsNone es b.form.products) es r.reduced d j) y n) (λ y n w. w)
        e.variable m (has_image (λ z. z.variable) e es i)
