-- Solvable rows have a point.
use Rattle.std.proofs.Common.{◌≡◌, inl, inr, ℕ, List, [], ◌∷◌, ◌++◌, Bool, true, false, not, cond, refl, sym, ap, subst, ◌∙◌}
use Rattle.std.specs.Prelude.{◌==◌, ◌||◌, filter}
use Rattle.std.specs.List.{list_any, AllByRecursion}
use Rattle.spec_numbers.specs.Rational.{ℚ, 0ℚ, ◌+ℚ◌}
use Rattle.spec_numbers.specs.Sums.{Mentions}
use Rattle.spec_numbers.proofs.Sums.{sum_at-agrees}
use Rattle.spec_numbers.proofs.Tests.{nat_eq-self, nat_eq-apart, or_left, or_right}
use Rattle.spec_linear.specs.Form.{value_at, changed_at}
use Rattle.spec_linear.specs.Solution.{Constraint, Has, Solvable}
use Rattle.spec_linear.specs.Echelon.{Solved, equations, solved_variables, AreDistinct, MentionsNone}
use Rattle.spec_projection.specs.Substitution.{AreReduced}
use Rattle.spec_projection.proofs.Members.{has_filtered, has_image}
use Rattle.spec_points.specs.Points.{with_value, IsChosen, AreChosen, unsolved, IsPoint}
use Rattle.spec_points.proofs.Chosen.{some_chosen}
use Rattle.spec_points.proofs.Holding.{member_none}

-- ---- values one after the other

-- only the values of the variables matter
pub chosen_agrees : (xs : List ℕ) (l : List Constraint) (v w : ℕ → ℚ) → ((y : ℕ) → Has y xs → v y ≡ w y) → AreChosen l xs v → AreChosen l xs w
chosen_agrees [] l v w e c = tt
chosen_agrees (x ∷ xs) l v w e c = (
  subst (IsChosen l x) (e x (inl refl)) c.0,
  chosen_agrees xs (with_value l x (w x)) v w (λ y h. e y (inr h)) (subst (λ (q : ℚ). AreChosen (with_value l x q) xs v) (e x (inl refl)) c.1),
)

changed_here : (x : ℕ) (q : ℚ) (v : ℕ → ℚ) → changed_at x q v x ≡ q
changed_here x q v = ap (λ (b : Bool). cond b q (v x)) (nat_eq-self x)

changed_elsewhere : (x y : ℕ) (q : ℚ) (v : ℕ → ℚ) → (x ≡ y → ⊥) → changed_at x q v y ≡ v y
changed_elsewhere x y q v n = ap (λ (b : Bool). cond b q (v y)) (nat_eq-apart x y n)

values_chosen : (xs : List ℕ) → AreDistinct xs → (l : List Constraint) → Solvable l → (v : ℕ → ℚ) × AreChosen l xs v
values_chosen [] d l s = ((λ y. 0ℚ), tt)
values_chosen (x ∷ xs) d l s =
    let q = some_chosen l x s in
    let r = values_chosen xs d.1 (with_value l x q.0) q.1.works in
    let v : ℕ → ℚ = changed_at x q.0 r.0 in
    let here : q.0 ≡ v x = sym (changed_here x q.0 r.0) in (
      v,
      (
        subst (IsChosen l x) here q.1,
        subst (λ (z : ℚ). AreChosen (with_value l x z) xs v) here
            (chosen_agrees xs (with_value l x q.0) r.0 v (λ y h. sym (changed_elsewhere x y q.0 r.0 (λ e. d.0 (subst (λ z. Has z xs) (sym e) h)))) r.1),
      ),
    )

-- ---- the variables that are solved for

pub any_true : (x : ℕ) (ys : List ℕ) → Has x ys → list_any (λ y. y == x) ys ≡ true
any_true x [] h = absurd h
any_true x (y ∷ ys) (inl e) = or_left (y == x) (list_any (λ z. z == x) ys) (subst (λ z. (z == x) ≡ true) e (nat_eq-self x))
any_true x (y ∷ ys) (inr h) = or_right (y == x) (list_any (λ z. z == x) ys) (any_true x ys h)

not_solved : (es : List Solved) (order : List ℕ) (x : ℕ) → Has x (unsolved es order) → Has x (solved_variables es) → ⊥
not_solved es order x h k =
    let passes : not (list_any (λ y. y == x) (solved_variables es)) ≡ true = (has_filtered (λ z. not (list_any (λ y. y == z) (solved_variables es))) x order h).1 in
    let any : list_any (λ y. y == x) (solved_variables es) ≡ true = any_true x (solved_variables es) k in
    let no : false ≡ true = sym (ap not any) ∙ passes in cc

pub distinct_filtered : (test : ℕ → Bool) (xs : List ℕ) → AreDistinct xs → AreDistinct (filter test xs)
distinct_filtered test [] d = tt
distinct_filtered test (x ∷ xs) d = go (test x) (distinct_filtered test xs d.1)
  where
    go : (b : Bool) → AreDistinct (filter test xs) → AreDistinct (cond b (x ∷ filter test xs) (filter test xs))
    go true r = ((λ h. d.0 (has_filtered test x xs h).0), r)
    go false r = r

-- the values, and at each variable that is solved for that of its equation
abbrev with_solved : List Solved → (ℕ → ℚ) → ℕ → ℚ
with_solved [] v y = v y
with_solved (e ∷ es) v y = cond (e.variable == y) (value_at v e.form) (with_solved es v y)

elsewhere : (es : List Solved) (v : ℕ → ℚ) (y : ℕ) → (Has y (solved_variables es) → ⊥) → with_solved es v y ≡ v y
elsewhere [] v y n = refl
elsewhere (e ∷ es) v y n =
    ap (λ (b : Bool). cond b (value_at v e.form) (with_solved es v y)) (nat_eq-apart e.variable y (λ i. n (inl (sym i))))
    ∙ elsewhere es v y (λ h. n (inr h))

at_solved : (es : List Solved) (v : ℕ → ℚ) → AreDistinct (solved_variables es) → (e : Solved) → Has e es → with_solved es v e.variable ≡ value_at v e.form
at_solved [] v d e h = absurd h
at_solved (c ∷ es) v d e (inl i) =
    subst (λ (z : Solved). with_solved (c ∷ es) v z.variable ≡ value_at v z.form) (sym i)
    (ap (λ (b : Bool). cond b (value_at v c.form) (with_solved es v c.variable)) (nat_eq-self c.variable))
at_solved (c ∷ es) v d e (inr h) =
    let other : c.variable ≡ e.variable → ⊥ =
    λ i. d.0 (subst (λ z. Has z (solved_variables es)) (sym i) (has_image (λ (z : Solved). z.variable) e es h)) in
    ap (λ (b : Bool). cond b (value_at v c.form) (with_solved es v e.variable)) (nat_eq-apart c.variable e.variable other)
    ∙ at_solved es v d.1 e h

all_from : (P : Solved → Type 0) (es : List Solved) → ((e : Solved) → Has e es → P e) → AllByRecursion P es
all_from P [] h = tt
all_from P (e ∷ es) h = (h e (inl refl), all_from P es (λ d k. h d (inr k)))

pub one_of_all : (P : Solved → Type 0) (es : List Solved) → AllByRecursion P es → (e : Solved) → Has e es → P e
one_of_all P [] h e k = absurd k
one_of_all P (c ∷ es) h e (inl i) = subst P (sym i) h.0
one_of_all P (c ∷ es) h e (inr k) = one_of_all P es h.1 e k

module _ (es : List Solved) (others : List Constraint) (order : List ℕ) (distinct : AreDistinct order) (reduced : AreReduced es)
    (solvable : Solvable (equations es ++ others)) where
  chosen : (v : ℕ → ℚ) × AreChosen (equations es ++ others) (unsolved es order) v
  chosen =
      values_chosen (unsolved es order) (distinct_filtered (λ x. not (list_any (λ y. y == x) (solved_variables es))) order distinct) (equations es ++ others) solvable

  abbrev values : ℕ → ℚ
  values = with_solved es chosen.0

  form_alike : (e : Solved) → Has e es → value_at values e.form ≡ value_at chosen.0 e.form
  form_alike e h =
      ap (λ (s : ℚ). e.form.constant +ℚ s)
      (sum_at-agrees values chosen.0 e.form.products
      (λ x m. elsewhere es chosen.0 x (λ k. member_none es x e.form.products (one_of_all (λ d. MentionsNone es d.form.products) es reduced.reduced e h) k m)))

  pub a_point : (v : ℕ → ℚ) × IsPoint es others order v
  a_point = (
    values,
    record {
      chosen = chosen_agrees (unsolved es order) (equations es ++ others) chosen.0 values
          (λ y h. sym (elsewhere es chosen.0 y (not_solved es order y h))) chosen.1;
      solved = all_from (λ e. values e.variable ≡ value_at values e.form) es (λ e h. at_solved es chosen.0 reduced.distinct e h ∙ sym (form_alike e h));
    },
  )
