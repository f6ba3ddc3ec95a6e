-- The values that a form has where a list holds weakly are those at which some rows of one variable hold.
use Rattle.std.proofs.Common.{◌≡◌, inl, inr, ℕ, suc, ◌+◌, ◌<◌, List, [], ◌∷◌, arith, pos, refl, ap, sym, subst, ◌∙◌}
use Rattle.spec_numbers.specs.Rational.{ℚ, 0ℚ, ◌+ℚ◌, ◌-ℚ◌, ◌*ℚ◌, neg_ℚ, IsNotNegative}
use Rattle.spec_numbers.specs.Sums.{Monomial, Mentions}
use Rattle.spec_numbers.proofs.Ring.{var, int, ◌⊕◌, minus}
use Rattle.spec_numbers.proofs.RationalLemmas.{ring}
use Rattle.spec_numbers.proofs.Sign.{Sign, is_zero, is_pos, is_neg, sign, nonneg_zero, not_both}
use Rattle.spec_numbers.proofs.Sums.{sum_at-agrees}
use Rattle.spec_linear.specs.declared.Relation.{Relation}
use Rattle.spec_linear.specs.declared.Relation.TheVariants.{Eq, Gt, Ge, Ne}
use Rattle.spec_linear.specs.Form.{Linear, value_at, variable_form, negated_form, difference_form, changed_at}
use Rattle.spec_linear.specs.Solution.{Constraint, Meets, Satisfies, Has, SomeMentions}
use Rattle.spec_linear.proofs.Values.{value_at-variable_form, value_at-negated_form, value_at-difference_form}
use Rattle.spec_linear.proofs.Denominators.{satisfies_agrees}
use Rattle.spec_linear.specs.Weak.{at_least_zero, with_weak, weak}
use Rattle.spec_projection.specs.Elimination.{IsInequality, coefficient}
use Rattle.spec_projection.specs.Partial.{AreInequalities}
use Rattle.spec_projection.proofs.Projected.{changed_elsewhere, changed_here}
use Rattle.spec_projection.proofs.Alone.{Left, left, all_variables, covers_all, line}
use Rattle.spec_projection.proofs.Upwards.{AllAt}

-- ---- the weak list as inequalities alone, each equation as two

abbrev halves_of : Relation → Linear → List Constraint → List Constraint
halves_of Eq f l = at_least_zero f ∷ at_least_zero (negated_form f) ∷ l
halves_of Gt f l = at_least_zero f ∷ l
halves_of Ge f l = at_least_zero f ∷ l
halves_of Ne f l = l

abbrev weakly : List Constraint → List Constraint
weakly [] = []
weakly (c ∷ l) = halves_of c.relation c.form (weakly l)

weak_row : (f : Linear) (l : List Constraint) → AreInequalities l → AreInequalities (at_least_zero f ∷ l)
weak_row f l i c (inl e) = subst (λ z. IsInequality z.relation) (sym e) tt
weak_row f l i c (inr h) = i c h

are_inequalities : (l : List Constraint) → AreInequalities (weakly l)
are_inequalities [] c h = absurd h
are_inequalities (d ∷ l) c h = by d.relation (are_inequalities l) c h
  where
    by : (r : Relation) → AreInequalities (weakly l) → AreInequalities (halves_of r d.form (weakly l))
    by Eq i = weak_row d.form (at_least_zero (negated_form d.form) ∷ weakly l) (weak_row (negated_form d.form) (weakly l) i)
    by Gt i = weak_row d.form (weakly l) i
    by Ge i = weak_row d.form (weakly l) i
    by Ne i = i

zero_nonneg : (q : ℚ) → q ≡ 0ℚ → IsNotNegative q
zero_nonneg q e = subst IsNotNegative (sym e) nonneg_zero

neg_zero : (q : ℚ) → q ≡ 0ℚ → neg_ℚ q ≡ 0ℚ
neg_zero q e = ap neg_ℚ e ∙ ring [] (minus (int (pos 0))) (int (pos 0)) refl

both_nonneg : (q : ℚ) → IsNotNegative q → IsNotNegative (neg_ℚ q) → q ≡ 0ℚ
both_nonneg q h k = go (sign q)
  where
    go : Sign q → q ≡ 0ℚ
    go (is_zero e) = e
    go (is_pos p) = absurd (not_both p k)
    go (is_neg p) = absurd (not_both p (subst IsNotNegative (ring (q ∷ []) (var 0) (minus (minus (var 0))) refl) h))

-- an equation as two inequalities
two_halves : (a : ℕ → ℚ) (f : Linear) → value_at a f ≡ 0ℚ → IsNotNegative (value_at a f) × IsNotNegative (value_at a (negated_form f))
two_halves a f h = (
  zero_nonneg (value_at a f) h,
  subst IsNotNegative (sym (value_at-negated_form a f)) (zero_nonneg (neg_ℚ (value_at a f)) (neg_zero (value_at a f) h)),
)

one_whole : (a : ℕ → ℚ) (f : Linear) → IsNotNegative (value_at a f) → IsNotNegative (value_at a (negated_form f)) → value_at a f ≡ 0ℚ
one_whole a f h k = both_nonneg (value_at a f) h (subst IsNotNegative (value_at-negated_form a f) k)

module _ (a : ℕ → ℚ) where
  to_weakly : (l : List Constraint) → Satisfies a (weak l) → Satisfies a (weakly l)
  to_weakly [] s = tt
  to_weakly (c ∷ l) s = by c.relation s (to_weakly l)
    where
      by : (r : Relation) → Satisfies a (with_weak r c.form (weak l)) → (Satisfies a (weak l) → Satisfies a (weakly l)) → Satisfies a (halves_of r c.form (weakly l))
      by Eq t f = (let h = two_halves a c.form t.0 in (h.0, (h.1, f t.1)))
      by Gt t f = (t.0, f t.1)
      by Ge t f = (t.0, f t.1)
      by Ne t f = f t

  from_weakly : (l : List Constraint) → Satisfies a (weakly l) → Satisfies a (weak l)
  from_weakly [] s = tt
  from_weakly (c ∷ l) s = by c.relation s (from_weakly l)
    where
      by : (r : Relation) → Satisfies a (halves_of r c.form (weakly l)) → (Satisfies a (weakly l) → Satisfies a (weak l)) → Satisfies a (with_weak r c.form (weak l))
      by Eq t f = (one_whole a c.form t.0 t.1.0, f t.1.1)
      by Gt t f = (t.0, f t.1)
      by Ge t f = (t.0, f t.1)
      by Ne t f = f t

-- ---- a variable that is not mentioned

abbrev above_products : List Monomial → ℕ
above_products [] = 0
above_products (m ∷ s) = suc m.variable + above_products s

abbrev above_list : List Constraint → ℕ
above_list [] = 0
above_list (c ∷ l) = above_products c.form.products + above_list l

mentions_below : (x : ℕ) (s : List Monomial) → Mentions x s → x < above_products s
mentions_below x [] h = absurd h
mentions_below x (m ∷ s) (inl e) = omega (arith, e)
mentions_below x (m ∷ s) (inr h) = let k : x < above_products s = mentions_below x s h in omega (arith, k)

some_below : (x : ℕ) (l : List Constraint) → SomeMentions x l → x < above_list l
some_below x [] h = absurd h
some_below x (c ∷ l) (inl m) = let k : x < above_products c.form.products = mentions_below x c.form.products m in omega (arith, k)
some_below x (c ∷ l) (inr h) = let k : x < above_list l = some_below x l h in omega (arith, k)

-- ---- the values of a form

module _ (l : List Constraint) (f : Linear) where
  -- a variable for the form's value
  pub z : ℕ
  z = above_products f.products + above_list (weak l)

  below_z : (x : ℕ) → x < above_products f.products + above_list (weak l) → x ≡ z → ⊥
  unfolding z
  below_z x h e = omega (arith, h, e)

  difference : Linear
  difference = difference_form (variable_form z) f

  value_at-difference : (a : ℕ → ℚ) → value_at a difference ≡ a z -ℚ value_at a f
  unfolding difference
  value_at-difference a = value_at-difference_form a (variable_form z) f ∙ ap (λ w. w -ℚ value_at a f) (value_at-variable_form a z)

  start : List Constraint
  start = at_least_zero difference ∷ at_least_zero (negated_form difference) ∷ weakly l

  start_is : AreInequalities start
  unfolding start
  start_is =
      weak_row difference (at_least_zero (negated_form difference) ∷ weakly l)
      (weak_row (negated_form difference) (weakly l) (are_inequalities l))

  rest : Left z start
  rest = left z (all_variables start) start start_is (covers_all z start)

  -- rows of the form's value alone
  pub value_rows : List Constraint
  value_rows = rest.rows

  pub value_rows_are : AreInequalities value_rows
  unfolding value_rows
  value_rows_are = rest.inequalities

  row_at : (a : ℕ → ℚ) (c : Constraint) → Has c rest.rows → value_at a c.form ≡ coefficient z c *ℚ a z +ℚ c.form.constant
  row_at a c h = line z c.form (λ y n. rest.alone y n c h) a

  all_at : (a : ℕ → ℚ) (rows : List Constraint) → ((c : Constraint) → Has c rows → Has c rest.rows) → Satisfies a rows → AllAt z rows (a z)
  all_at a [] i s = tt
  all_at a (c ∷ rows) i s = (subst (Meets c.relation) (row_at a c (i c (inl refl))) s.0, all_at a rows (λ d h. i d (inr h)) s.1)

  all_from : (a : ℕ → ℚ) (rows : List Constraint) → ((c : Constraint) → Has c rows → Has c rest.rows) → AllAt z rows (a z) → Satisfies a rows
  all_from a [] i s = tt
  all_from a (c ∷ rows) i s = (subst (Meets c.relation) (sym (row_at a c (i c (inl refl)))) s.0, all_from a rows (λ d h. i d (inr h)) s.1)

  -- where z is the form's value
  with_value : (ℕ → ℚ) → ℕ → ℚ
  with_value a = changed_at z (value_at a f) a

  with_value-z : (a : ℕ → ℚ) → with_value a z ≡ value_at a f
  unfolding with_value
  with_value-z a = changed_here a z (value_at a f) z refl

  with_value-list : (a : ℕ → ℚ) → Satisfies a (weak l) → Satisfies (with_value a) (weak l)
  unfolding with_value
  with_value-list a s =
      satisfies_agrees a (changed_at z (value_at a f) a) (weak l)
      (λ x m. sym (changed_elsewhere a z (value_at a f) x (below_z x (let k : x < above_list (weak l) = some_below x (weak l) m in omega (arith, k))))) s

  with_value-form : (a : ℕ → ℚ) → value_at (with_value a) f ≡ value_at a f
  unfolding with_value
  with_value-form a =
      ap (λ w. f.constant +ℚ w)
      (sum_at-agrees (changed_at z (value_at a f) a) a f.products
      (λ x m. changed_elsewhere a z (value_at a f) x (below_z x (let k : x < above_products f.products = mentions_below x f.products m in omega (arith, k)))))

  no_difference : (a : ℕ → ℚ) → value_at (with_value a) difference ≡ 0ℚ
  no_difference a =
      value_at-difference (with_value a) ∙ ap (λ w. w -ℚ value_at (with_value a) f) (with_value-z a ∙ sym (with_value-form a))
      ∙ ring (value_at (with_value a) f ∷ []) (var 0 ⊕ minus (var 0)) (int (pos 0)) refl

  starts : (a : ℕ → ℚ) → Satisfies a (weak l) → Satisfies (with_value a) start
  unfolding start
  starts a s =
      let h = two_halves (with_value a) difference (no_difference a) in
      (h.0, (h.1, to_weakly (with_value a) l (with_value-list a s)))

  pub from_solution : (a : ℕ → ℚ) → Satisfies a (weak l) → AllAt z value_rows (value_at a f)
  unfolding value_rows
  from_solution a s =
      subst (AllAt z rest.rows) (with_value-z a)
      (all_at (with_value a) rest.rows (λ c h. h) (rest.forth (with_value a) (starts a s)))

  pub to_solution : (q : ℚ) → AllAt z value_rows q → (a : ℕ → ℚ) × Satisfies a (weak l) × (value_at a f ≡ q)
  unfolding value_rows start
  to_solution q s =
      let b : (b : ℕ → ℚ) × (b z ≡ q) × Satisfies b start = rest.back (λ x. q) (all_from (λ x. q) rest.rows (λ c h. h) s) in
      let e : value_at b.0 difference ≡ 0ℚ = one_whole b.0 difference b.2.0 b.2.1.0 in (
        b.0,
        from_weakly b.0 l b.2.1.1,
        ring (b.0 z ∷ value_at b.0 f ∷ []) (var 1) (var 0 ⊕ minus (var 0 ⊕ minus (var 1))) refl
            ∙ ap (λ w. b.0 z -ℚ w) (sym (value_at-difference b.0) ∙ e)
            ∙ ring (b.0 z ∷ []) (var 0 ⊕ minus (int (pos 0))) (var 0) refl ∙ b.1,
      )
