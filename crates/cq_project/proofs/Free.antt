-- The variables for which no equation of an echelon form is solved are the columns of a dictionary of the equations.
use Rattle.std.proofs.Common.{◌≡◌, ◌⊎◌, inl, inr, ℕ, zero, suc, ◌<◌, List, [], ◌∷◌, Bool, true, false, cond, nat_eq, length, arith, pos, refl, ap, ap₂, sym, subst, ◌∙◌}
use Rattle.std.specs.Prelude.{map, filter, not}
use Rattle.std.specs.List.{list_any}
use Rattle.spec_numbers.specs.Rational.{ℚ, 0ℚ, 1ℚ, ◌+ℚ◌, ◌*ℚ◌, neg_ℚ}
use Rattle.spec_numbers.specs.Sums.{Mentions, when, unit, factor_of}
use Rattle.spec_numbers.proofs.Ring.{var, int, ◌⊕◌, ◌⊗◌, minus}
use Rattle.spec_numbers.proofs.RationalLemmas.{ring}
use Rattle.spec_linear.specs.declared.Relation.TheVariants.{Eq}
use Rattle.spec_linear.specs.Form.{Linear, IsForm, value_at, variable_form}
use Rattle.spec_linear.specs.Solution.{Constraint, Meets, Satisfies, number, Solves, AreEquations, Entails, Has, MentionsOnly}
use Rattle.spec_linear.proofs.Lists.{entails_same}
use Rattle.spec_linear.proofs.Points.{solves_same}
use Rattle.spec_linear.proofs.Ordered.{constant_is}
use Rattle.spec_linear.proofs.Values.{value_at-variable_form}
use Rattle.spec_numbers.proofs.Sums.{factor_of-is}
use Rattle.spec_numbers.proofs.Tests.{nat_eq-same, nat_eq-self, nat_eq-apart, one_is, or_left, or_right}
use Rattle.spec_linear.specs.Echelon.{Solved, equation, equations, solved_variables, AreDistinct, MentionsNone, variables, IsBefore, IsEchelon}
use Rattle.spec_linear.proofs.Filled.{equation-says, value_at-agrees}
use Rattle.spec_linear.proofs.Orders.{in_order-has, mentions-has}
use Rattle.spec_projection.specs.Substitution.{AreReduced}
use Rattle.spec_projection.proofs.Members.{has_mapped, has_filtered, has_passed, satisfies_all}
use Rattle.spec_projection.proofs.Mentions.{some_mentions, mentioned_factor}
use Rattle.spec_projection.proofs.Filled.{each, filled, filled-free, filled-equations, free_variable}
use Rattle.spec_projection.proofs.Echelons.{echelon_reduced, equation_follows}
use Rattle.spec_simplex.specs.LimitsDictionary.{Quantity, variable, member, member_at, IsQuantity, SomeFormMentions, IsSet, Expression, amount, sum_over, expressed, form_of, AllZero, IsWritten, AreOne, IsDictionary}
use Rattle.cq_equations.specs.Describes.{members_from}
use Rattle.cq_equations.proofs.Feasible.{in_members, of_members, all_zero, zero_of, same_list, holds_at}
use Rattle.cq_project.specs.Putting.{value_of}
use Rattle.cq_project.proofs.Totals.{total, total_same, total_factors, total_at_unit}

-- ---- the free variables
abbrev pub is_free : List Solved → ℕ → Bool
is_free es x = not (list_any (nat_eq x) (solved_variables es))

abbrev pub free_of : List Solved → List ℕ → List ℕ
free_of es order = filter (is_free es) order

-- the zero set, and the columns
abbrev pub zeros_of : List Constraint → List Quantity
zeros_of l = members_from 0 l

abbrev pub columns_of : List Solved → List ℕ → List Quantity
columns_of es order = map variable (free_of es order)

is_any : (x : ℕ) (xs : List ℕ) → list_any (nat_eq x) xs ≡ true → Has x xs
is_any x [] e = let d : false ≡ true = e in cc
is_any x (y ∷ xs) e = elim (one_is (nat_eq x y) (list_any (nat_eq x) xs) e) [ inl h ↦ inl (nat_eq-same x y h) | inr h ↦ inr (is_any x xs h) ]

any_is : (x : ℕ) (xs : List ℕ) → Has x xs → list_any (nat_eq x) xs ≡ true
any_is x [] h = absurd h
any_is x (y ∷ xs) (inl e) = or_left (nat_eq x y) (list_any (nat_eq x) xs) (ap (nat_eq x) (sym e) ∙ nat_eq-self x)
any_is x (y ∷ xs) (inr h) = or_right (nat_eq x y) (list_any (nat_eq x) xs) (any_is x xs h)

not_solved : (es : List Solved) (x : ℕ) → is_free es x ≡ true → Has x (solved_variables es) → ⊥
not_solved es x f h = let d : false ≡ true = sym (ap not (any_is x (solved_variables es) h)) ∙ f in cc

distinct_filtered : (test : ℕ → Bool) (xs : List ℕ) → AreDistinct xs → AreDistinct (filter test xs)
distinct_filtered test [] d = tt
distinct_filtered test (x ∷ xs) d = by (test x) (distinct_filtered test xs d.1)
  where
    by : (b : Bool) → AreDistinct (filter test xs) → AreDistinct (cond b (x ∷ filter test xs) (filter test xs))
    by true k = ((λ h. d.0 (has_filtered test x xs h).0), k)
    by false k = k

-- ---- the forms of the variables
abbrev pub row_of : List Solved → ℕ → Linear
row_of [] x = variable_form x
row_of (e ∷ es) x = cond (nat_eq e.variable x) e.form (row_of es x)

-- where it is solved for, that form, and else the variable
pub data RowOf (es : List Solved) (x : ℕ) (f : Linear) : Type 0 where
  is_solved : (e : Solved) → Has e es → x ≡ e.variable → f ≡ e.form → RowOf es x f
  stays_free : (Has x (solved_variables es) → ⊥) → f ≡ variable_form x → RowOf es x f

pub row_is : (es : List Solved) (x : ℕ) → RowOf es x (row_of es x)
row_is [] x = stays_free (λ h. h) refl
row_is (e ∷ es) x = by (nat_eq e.variable x) refl (row_is es x)
  where
    later : (f : Linear) → (nat_eq e.variable x ≡ false) → RowOf es x f → RowOf (e ∷ es) x f
    later f n (is_solved d h v w) = is_solved d (inr h) v w
    later f n (stays_free h w) = stays_free (λ k. elim k [ inl u ↦ (let d : true ≡ false = sym (nat_eq-self x) ∙ ap (λ z. nat_eq z x) u ∙ n in cc) | inr i ↦ h i ]) w

    by : (b : Bool) → nat_eq e.variable x ≡ b → RowOf es x (row_of es x) → RowOf (e ∷ es) x (cond b e.form (row_of es x))
    by true n r = is_solved e (inl refl) (sym (nat_eq-same e.variable x n)) refl
    by false n r = later (row_of es x) n r

pub value_row : (es : List Solved) (a : ℕ → ℚ) (x : ℕ) → value_of es a x ≡ value_at a (row_of es x)
value_row [] a x = sym (value_at-variable_form a x)
value_row (e ∷ es) a x = by (nat_eq e.variable x) (value_row es a x)
  where
    by : (b : Bool) → value_of es a x ≡ value_at a (row_of es x) → cond b (value_at a e.form) (value_of es a x) ≡ value_at a (cond b e.form (row_of es x))
    by true r = refl
    by false r = r

has_or_not : (x : ℕ) (xs : List ℕ) → Has x xs ⊎ (Has x xs → ⊥)
has_or_not x xs = by (list_any (nat_eq x) xs) refl
  where
    by : (b : Bool) → list_any (nat_eq x) xs ≡ b → Has x xs ⊎ (Has x xs → ⊥)
    by true e = inl (is_any x xs e)
    by false e = inr (λ h. let d : true ≡ false = sym (any_is x xs h) ∙ e in cc)

-- the entries of a form
abbrev on_variable : (ℕ → ℚ) → Quantity → ℚ
on_variable g (variable x) = g x
on_variable g (member i) = 0ℚ

abbrev pub expression_of : Linear → Expression
expression_of f = record { constant = f.constant; entry = on_variable (λ x. factor_of x f.products) }

sum_variables : (l : List Constraint) (v : ℕ → ℚ) (g : Quantity → ℚ) (xs : List ℕ) → sum_over (λ q. g q *ℚ amount l v q) (map variable xs) ≡ total v (λ x. g (variable x)) xs
sum_variables l v g [] = refl
sum_variables l v g (x ∷ xs) = ap₂ (λ a b. g (variable x) *ℚ a +ℚ b) (value_at-variable_form v x) (sum_variables l v g xs)

set_variables : (xs : List ℕ) → AreDistinct xs → IsSet (map variable xs)
set_variables [] d = tt
set_variables (x ∷ xs) d = ((λ h. let k = has_mapped variable (variable x) xs h in d.0 (subst (λ z. Has z xs) (one x k.from k.is) k.member)), set_variables xs d.1)
  where
    one : (x y : ℕ) → variable x ≡ variable y → y ≡ x
    one x y e = cc

has_place : (l : List Constraint) (c : Constraint) → Has c l → (i : ℕ) × (i < length l) × (member_at l i ≡ c)
has_place [] c h = absurd h
has_place (d ∷ l) c (inl e) = (0, omega arith, sym e)
has_place (d ∷ l) c (inr h) = let r = has_place l c h in (suc r.0, omega (arith, r.1), r.2)

pub relation_at : (l : List Constraint) → AreEquations l → (i : ℕ) → i < length l → (member_at l i).relation ≡ Eq
relation_at [] e i h = absurd (omega (arith, h))
relation_at (c ∷ l) e zero h = e.0
relation_at (c ∷ l) e (suc i) h = relation_at l e.1 i (omega (arith, h))

module _ (order : List ℕ) (l : List Constraint) (es : List Solved) (distinct : AreDistinct order) (are_equations : AreEquations l) (echelon : IsEchelon order l es) (only : MentionsOnly order l) where
  abbrev zeros : List Quantity
  zeros = zeros_of l

  abbrev columns : List Quantity
  columns = columns_of es order

  free_distinct : AreDistinct (free_of es order)
  free_distinct = distinct_filtered (is_free es) order distinct

  reduced : AreReduced es
  reduced = echelon_reduced order l es distinct echelon

  is_equation : (c : Constraint) → Has c l → c.relation ≡ Eq
  is_equation c h = let p = has_place l c h in sym (ap (λ d. d.relation) p.2) ∙ relation_at l are_equations p.0 p.1

  -- the equations hold where the zero set is zero
  zero_satisfies : (v : ℕ → ℚ) → AllZero l v zeros → Satisfies v l
  zero_satisfies v z = satisfies_all v l (λ c h.
      let p = has_place l c h in
      subst (λ r. Meets r (value_at v c.form)) (sym (is_equation c h)) (sym (ap (λ d. value_at v d.form) p.2) ∙ zero_of l v zeros (member p.0) z (in_members p.0 l p.1)))

  member_zero : (v : ℕ → ℚ) → Satisfies v l → (i : ℕ) → i < length l → amount l v (member i) ≡ 0ℚ
  member_zero v s i h = subst (λ r. Meets r (value_at v (member_at l i).form)) (relation_at l are_equations i h) (holds_at v l i s h)

  satisfies_zero : (v : ℕ → ℚ) → Satisfies v l → AllZero l v zeros
  satisfies_zero v s = all_zero l v zeros (λ q h. let m = of_members 0 l q h in let e : q ≡ member m.0 = m.2 ∙ ap member (omega arith) in ap (amount l v) e ∙ member_zero v s m.0 m.1)

  -- a form over the free variables is written by its own numbers
  free_form : (f : Linear) → ((x : ℕ) → Mentions x f.products → Has x (free_of es order)) → (v : ℕ → ℚ) → value_at v f ≡ expressed l v columns (expression_of f)
  free_form f h v =
      ap (λ r. f.constant +ℚ r)
      (sym (total_factors v f.products (free_of es order) free_distinct h) ∙ sym (sum_variables l v (on_variable (λ x. factor_of x f.products)) (free_of es order)))

  pub is_over_free : (x : ℕ) → Has x order → (y : ℕ) → Mentions y (row_of es x).products → Has y (free_of es order)
  is_over_free x h y m = by (row_of es x) (row_is es x) m
    where
      free_there : (y : ℕ) → Has y order → (Has y (solved_variables es) → ⊥) → Has y (free_of es order)
      free_there y k n = has_passed (is_free es) y order k (free_test (list_any (nat_eq y) (solved_variables es)) refl)
        where
          free_test : (b : Bool) → list_any (nat_eq y) (solved_variables es) ≡ b → not b ≡ true
          free_test true e = absurd (n (is_any y (solved_variables es) e))
          free_test false e = refl

      by : (f : Linear) → RowOf es x f → Mentions y f.products → Has y (free_of es order)
      by f (is_solved e k v w) i =
          let j = subst (λ (g : Linear). Mentions y g.products) w i in
          free_there y
          (in_order-has order (e.variable ∷ variables e.form.products) (each (λ d. IsBefore order d.variable d.form.products) es echelon.first e k).ordered y (inr (mentions-has y e.form.products j)))
          (free_variable es e.form.products (each (λ d. MentionsNone es d.form.products) es echelon.reduced e k) y j)
      by f (stays_free n w) i =
          let one : (z : ℕ) → Mentions z (variable_form x).products → z ≡ x = λ z k. elim k [ inl u ↦ u | inr u ↦ absurd u ] in
          let same : y ≡ x = one y (subst (λ (g : Linear). Mentions y g.products) w i) in
          subst (λ z. Has z (free_of es order)) (sym same) (free_there x h n)

  -- where the equations hold, the variables have the values of their rows
  as_valued : (v : ℕ → ℚ) → AllZero l v zeros → (x : ℕ) → v x ≡ value_of es v x
  as_valued v z x = says (row_of es x) (row_is es x) ∙ sym (value_row es v x)
    where
      says : (f : Linear) → RowOf es x f → v x ≡ value_at v f
      says f (is_solved e k i w) =
          ap v i ∙ equation-says v e ((entails_same l (equation e)).0 (each (λ d. Entails l (equation d)) es echelon.entailed e k) v (zero_satisfies v z)) ∙ ap (value_at v) (sym w)
      says f (stays_free n w) = sym (value_at-variable_form v x) ∙ ap (value_at v) (sym w)

  -- a form with the values that another has over the rows is over the free variables
  module _ (f g : Linear) (over : (x : ℕ) → Mentions x f.products → Has x order) (ordered : IsForm g) (values : (a : ℕ → ℚ) → value_at a g ≡ value_at (value_of es a) f) where
    unit_elsewhere : (y z : ℕ) → (y ≡ z → ⊥) → unit y z ≡ 0ℚ
    unit_elsewhere y z n = ap (λ b. when b 1ℚ) (nat_eq-apart y z n)

    no_change : (y : ℕ) → (Has y (free_of es order) → ⊥) → value_at (unit y) g ≡ value_at (λ x. 0ℚ) g
    no_change y n =
        values (unit y)
        ∙ value_at-agrees (value_of es (unit y)) (value_of es (λ x. 0ℚ)) f (λ x m.
        value_row es (unit y) x
        ∙ value_at-agrees (unit y) (λ x. 0ℚ) (row_of es x) (λ z i. unit_elsewhere y z (λ e. n (subst (λ u. Has u (free_of es order)) (sym e) (is_over_free x (over x m) z i))))
        ∙ sym (value_row es (λ x. 0ℚ) x))
        ∙ sym (values (λ x. 0ℚ))

    no_factor : (y : ℕ) → (Has y (free_of es order) → ⊥) → factor_of y g.products ≡ 0ℚ
    no_factor y n =
        let w : g.constant +ℚ factor_of y g.products ≡ g.constant = ap (λ r. g.constant +ℚ r) (factor_of-is y g.products) ∙ no_change y n ∙ constant_is g in
        ring (g.constant ∷ factor_of y g.products ∷ []) (var 1) (minus (var 0) ⊕ (var 0 ⊕ var 1)) refl ∙ ap (λ r. neg_ℚ g.constant +ℚ r) w
        ∙ ring (g.constant ∷ []) (minus (var 0) ⊕ var 0) (int (pos 0)) refl

    pub over_free : (y : ℕ) → Mentions y g.products → Has y (free_of es order)
    over_free y m = elim (has_or_not y (free_of es order)) [ inl h ↦ h | inr n ↦ absurd (mentioned_factor y 0 g.products ordered m (no_factor y n)) ]

    -- the first is written by the numbers of the second
    pub form_written : IsWritten l (zeros_of l) (columns_of es order) f (expression_of g)
    form_written = record {
      same = λ v z. value_at-agrees v (value_of es v) f (λ x m. as_valued v z x) ∙ sym (values v) ∙ free_form g over_free v;
    }

  member_written : (i : ℕ) → i < length l → IsWritten l zeros columns (member_at l i).form (record { constant = 0ℚ; entry = λ q. 0ℚ })
  member_written i h = record {
    same = λ v z. member_zero v (zero_satisfies v z) i h ∙ sym (ap (λ r. 0ℚ +ℚ r) (none v columns) ∙ ring [] (int (pos 0) ⊕ int (pos 0)) (int (pos 0)) refl);
  }
    where
      none : (v : ℕ → ℚ) (s : List Quantity) → sum_over (λ q. 0ℚ *ℚ amount l v q) s ≡ 0ℚ
      none v [] = refl
      none v (q ∷ s) = ap (λ r. 0ℚ *ℚ amount l v q +ℚ r) (none v s) ∙ ring (amount l v q ∷ []) (int (pos 0) ⊗ var 0 ⊕ int (pos 0)) (int (pos 0)) refl

  -- ---- the free variables can have any values
  filled_satisfies : (a : ℕ → ℚ) → Satisfies (filled es a) l
  filled_satisfies a = satisfies_all (filled es a) l (λ c h.
      (entails_same (equations es) c).0 (equation_follows order l es distinct echelon c only h (λ x m. some_mentions x l c h m) (is_equation c h)) (filled es a) (filled-equations es reduced a))

  at_filled : (a : ℕ → ℚ) (e : Expression) → expressed l (filled es a) columns e ≡ e.constant +ℚ total a (λ x. e.entry (variable x)) (free_of es order)
  at_filled a e =
      ap (λ r. e.constant +ℚ r)
      (sum_variables l (filled es a) e.entry (free_of es order)
      ∙ total_same (filled es a) a (λ x. e.entry (variable x)) (λ x. e.entry (variable x)) (free_of es order)
      (λ x h. ap (λ r. e.entry (variable x) *ℚ r) (filled-free es a x (not_solved es x (has_filtered (is_free es) x order h).1))))

  module _ (f : Linear) (d e : Expression) (of_d : IsWritten l zeros columns f d) (of_e : IsWritten l zeros columns f e) where
    same_at : (a : ℕ → ℚ) → d.constant +ℚ total a (λ x. d.entry (variable x)) (free_of es order) ≡ e.constant +ℚ total a (λ x. e.entry (variable x)) (free_of es order)
    same_at a =
        let z = satisfies_zero (filled es a) (filled_satisfies a) in
        sym (at_filled a d) ∙ sym (of_d.same (filled es a) z) ∙ of_e.same (filled es a) z ∙ at_filled a e

    none_at_zero : (g : ℕ → ℚ) (xs : List ℕ) → total (λ x. 0ℚ) g xs ≡ 0ℚ
    none_at_zero g [] = refl
    none_at_zero g (x ∷ xs) = ap (λ r. g x *ℚ 0ℚ +ℚ r) (none_at_zero g xs) ∙ ring (g x ∷ []) (var 0 ⊗ int (pos 0) ⊕ int (pos 0)) (int (pos 0)) refl

    alone : (g : ℕ → ℚ) (q : ℚ) → q +ℚ total (λ x. 0ℚ) g (free_of es order) ≡ q
    alone g q = ap (λ r. q +ℚ r) (none_at_zero g (free_of es order)) ∙ ring (q ∷ []) (var 0 ⊕ int (pos 0)) (var 0) refl

    same_constant : d.constant ≡ e.constant
    same_constant = sym (alone (λ x. d.entry (variable x)) d.constant) ∙ same_at (λ x. 0ℚ) ∙ alone (λ x. e.entry (variable x)) e.constant

    same_entry : (x : ℕ) → Has x (free_of es order) → d.entry (variable x) ≡ e.entry (variable x)
    same_entry x h =
        let w : e.constant +ℚ d.entry (variable x) ≡ e.constant +ℚ e.entry (variable x) =
        ap₂ (λ p q. p +ℚ q) (sym same_constant) (sym (total_at_unit (λ y. d.entry (variable y)) x (free_of es order) free_distinct h))
        ∙ same_at (unit x) ∙ ap (λ q. e.constant +ℚ q) (total_at_unit (λ y. e.entry (variable y)) x (free_of es order) free_distinct h) in
        ring (e.constant ∷ d.entry (variable x) ∷ []) (var 1) (minus (var 0) ⊕ (var 0 ⊕ var 1)) refl ∙ ap (λ s. neg_ℚ e.constant +ℚ s) w
        ∙ ring (e.constant ∷ e.entry (variable x) ∷ []) (minus (var 0) ⊕ (var 0 ⊕ var 1)) (var 1) refl

    only_way : AreOne columns d e
    only_way = record {
      constant = same_constant;
      entries = λ q h. let k = has_mapped variable q (free_of es order) h in ap d.entry k.is ∙ same_entry k.from k.member ∙ ap e.entry (sym k.is);
    }

  module _ (asked : List Linear) (known : (x : ℕ) → IsQuantity l asked (variable x) → Has x order) (each_known : (x : ℕ) → Has x order → SomeFormMentions x asked) where
    some_way : (q : Quantity) → IsQuantity l asked q → (e : Expression) × IsWritten l zeros columns (form_of l q) e
    some_way (variable x) h = (
      expression_of (row_of es x),
      record { same = λ v z. value_at-variable_form v x ∙ as_valued v z x ∙ value_row es v x ∙ free_form (row_of es x) (is_over_free x (known x h)) v },
    )
    some_way (member i) h = (record { constant = 0ℚ; entry = λ q. 0ℚ }, member_written i h)

    zero_of_member : (q : Quantity) → Has q zeros → (i : ℕ) × (i < length l) × (q ≡ member i)
    zero_of_member q h = let m = of_members 0 l q h in (m.0, m.1, m.2 ∙ ap member (omega arith))

    apart : (x i : ℕ) → variable x ≡ member i → ⊥
    apart x i e = cc

    pub free_dictionary : IsDictionary l asked (zeros_of l) (columns_of es order)
    free_dictionary = record {
      zeros_are_quantities = λ q h. let m = zero_of_member q h in subst (IsQuantity l asked) (sym m.2) m.1;
      zero = λ q h p s.
          let m = zero_of_member q h in
          let t : Solves p l = subst (Solves p) (same_list l (relation_at l are_equations)) s in
          ap (amount l (number p)) m.2 ∙ member_zero (number p) ((solves_same p l).0 t) m.0 m.1;
      columns_are_quantities = λ q h.
          let k = has_mapped variable q (free_of es order) h in
          subst (IsQuantity l asked) (sym k.is) (inr (each_known k.from (has_filtered (is_free es) k.from order k.member).0));
      once = set_variables (free_of es order) free_distinct;
      outside = λ q h z.
          let k = has_mapped variable q (free_of es order) h in
          let m = zero_of_member q z in
          apart k.from m.0 (sym k.is ∙ m.2);
      some_way = some_way;
      one_way = λ q i d e of_d of_e. only_way (form_of l q) d e of_d of_e;
    }
