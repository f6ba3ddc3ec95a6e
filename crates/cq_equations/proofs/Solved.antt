-- A table that speaks of a list and is solved for it shows the list in solved form.
use Rattle.std.proofs.Common.{◌≡◌, ◌≢◌, ℕ, suc, ◌+◌, ◌<◌, List, [], ◌∷◌, length, Option, None, Some, Bool, true, arith, refl, ap, ap₂, sym, subst, ◌∙◌, pos, inl, inr, slice_get}
use Rattle.std.specs.List.{AllByRecursion}
use Rattle.std.specs.Option.{option_and_then}
use Rattle.spec_numbers.specs.Rational.{ℚ, 0ℚ, 1ℚ, ◌+ℚ◌, ◌*ℚ◌}
use Rattle.spec_numbers.specs.Sums.{Mentions, sum_at}
use Rattle.spec_numbers.proofs.Ring.{var, int, ◌⊕◌, ◌⊗◌}
use Rattle.spec_numbers.proofs.RationalLemmas.{ring}
use Rattle.spec_numbers.proofs.Sign.{one_not_zero}
use Rattle.spec_linear.specs.Form.{Linear, value_at}
use Rattle.spec_linear.specs.Solution.{Constraint, Has, HoldsAt, Satisfies, Meets}
use Rattle.spec_linear.proofs.Denominators.{satisfies_agrees}
use Rattle.spec_linear.proofs.Values.{value_at-variable_form}
use Rattle.spec_linear.proofs.Denominators.{has_right}
use Rattle.spec_simplex.specs.LimitsDictionary.{variable, member, member_at, IsQuantity, SomeFormMentions, amount}
use Rattle.spec_linear.specs.Echelon.{InOrder, IsBefore, variables}
use Rattle.spec_linear.specs.SolvedForm.{Agrees, IsSolvedForm}
use Rattle.spec_linear.proofs.Filled.{value_at-agrees}
use Rattle.cq_frac.specs.declared.VarId.{VarId}
use Rattle.cq_frac.specs.declared.row.Entry.{Entry}
use Rattle.cq_frac.specs.Row.{Row}
use Rattle.cq_frac.specs.Rows as row
use Rattle.cq_frac.specs.Rows.{IsRowFrom, everywhere, choose}
use Rattle.cq_frac.specs.Numbers.{right_side, IsOver}
use Rattle.cq_frac.proofs.Units.{row_weaker}
use Rattle.cq_dict.specs.declared.table.Role.{Role}
use Rattle.cq_dict.specs.declared.table.Role.TheVariants.{Live, Dropped, Basic}
use Rattle.cq_dict.specs.Roles.{IsAt, is_live, is_dropped}
use Rattle.cq_equations.specs.declared.table.Name.{Name}
use Rattle.cq_equations.specs.Describes.{Agree}
use Rattle.cq_equations.specs.Contents.{Named, IsStored, IsNamed, variables_of, variable_in, place_of, place_of_variable, products_of, form_of_role, solved_in, variable_forms}
use Rattle.cq_dict.proofs.Roles.{role_live, at_below}
use Rattle.cq_dict.proofs.Free.{sum_agrees}
use Rattle.cq_equations.proofs.Dictionary.{has_either}
use Rattle.cq_equations.proofs.Feasible.{Chosen, choice, in_members, zero_of, holds_at}
use Rattle.cq_frac.proofs.Shifts.{passes}
use Rattle.cq_equations.proofs.Names.{get_at, at_get, place_named, place_absent, has_or_not, named_has, named_place, AreVariables, numbers_by, entries_in_order}

-- ---- the forms of variables

pub forms_mention : (x : ℕ) (order : List ℕ) → SomeFormMentions x (variable_forms order) → Has x order
forms_mention x [] h = h
forms_mention x (y ∷ order) (inl (inl e)) = inl e
forms_mention x (y ∷ order) (inl (inr h)) = absurd h
forms_mention x (y ∷ order) (inr h) = inr (forms_mention x order h)

pub mentioned_form : (x : ℕ) (order : List ℕ) → Has x order → SomeFormMentions x (variable_forms order)
mentioned_form x [] h = h
mentioned_form x (y ∷ order) (inl e) = inl (inl e)
mentioned_form x (y ∷ order) (inr h) = inr (mentioned_form x order h)

-- ---- the products of a row

module _ (names : List Name) where
  abbrev pub naming : ℕ → ℕ
  naming c = variable_in (slice_get names c)

  pub products-sum : (a : ℕ → ℚ) (s : List Entry) → sum_at a (products_of names s) ≡ row.sum_at (λ c. a (naming c)) s
  products-sum a [] = refl
  products-sum a (m ∷ s) = ap (λ w. m.factor *ℚ a (naming m.quantity) +ℚ w) (products-sum a s)

  products-variables : (s : List Entry) → numbers_by naming s ≡ variables (products_of names s)
  products-variables [] = refl
  products-variables (m ∷ s) = ap (λ w. naming m.quantity ∷ w) (products-variables s)

  products-nonzero : (p : ℕ → Bool) (lo : ℕ) (s : List Entry) → IsRowFrom p lo s → AllByRecursion (λ m. m.factor ≢ 0ℚ) (products_of names s)
  products-nonzero p lo [] r = tt
  products-nonzero p lo (m ∷ s) r = (r.2, products-nonzero p (m.quantity + 1) s r.3)

  products-mention : (y : ℕ) (s : List Entry) → Mentions y (products_of names s) → (m : Entry) × row.Has m s × (y ≡ naming m.quantity)
  products-mention y [] h = absurd h
  products-mention y (m ∷ s) (inl e) = (m, inl refl, e)
  products-mention y (m ∷ s) (inr h) = let r = products-mention y s h in (r.0, inr r.1, r.2)

  pub named-naming : (c : ℕ) (v : VarId) → IsNamed names c v → naming c ≡ v.0
  named-naming c v h = ap variable_in h.get

-- every member holds where it is zero
solves_from : (v : ℕ → ℚ) (l : List Constraint) → ((i : ℕ) → i < length l → HoldsAt v (member_at l i)) → Satisfies v l
solves_from v [] h = tt
solves_from v (c ∷ l) h = (h 0 (omega arith), solves_from v l (λ i k. h (suc i) (omega (arith, k))))

module _ (l : List Constraint) (t : Named) (s : IsStored l t) where
  pub known_variable : (x : ℕ) → Has x (variables_of t.names) → IsQuantity l (variable_forms (variables_of t.names)) (variable x)
  known_variable x h = inr (mentioned_form x (variables_of t.names) h)

  -- a live column is a variable
  pub live_named : (c : ℕ) → is_live t.roles c ≡ true → (v : VarId) × IsNamed t.names c v
  live_named c h = s.named.columns c h

  -- ---- rows and forms

  pub row_of : (x : ℕ) (f : Linear) → solved_in t x ≡ Some f → (r : Row) × IsAt t.roles (place_of_variable t.names x) (Basic r) × (record { products = products_of t.names r.live; constant = r.constant } ≡ f)
  row_of x f e = go (slice_get t.roles (place_of_variable t.names x)) refl e
    where
      go : (o : Option Role) → slice_get t.roles (place_of_variable t.names x) ≡ o → option_and_then (form_of_role t.names) o ≡ Some f →
          (r : Row) × IsAt t.roles (place_of_variable t.names x) (Basic r) × (record { products = products_of t.names r.live; constant = r.constant } ≡ f)
      go None w h = cc
      go (Some Live) w h = cc
      go (Some Dropped) w h = cc
      go (Some (Basic r)) w h = (r, get_at t.roles (place_of_variable t.names x) (Basic r) w, (cc))

  pub solved_row : (x : ℕ) (r : Row) → IsAt t.roles (place_of_variable t.names x) (Basic r) → solved_in t x ≡ Some (record { products = products_of t.names r.live; constant = r.constant })
  solved_row x r a = ap (option_and_then (form_of_role t.names)) (at_get t.roles (place_of_variable t.names x) (Basic r) a)

  pub live_free : (x : ℕ) → IsAt t.roles (place_of_variable t.names x) Live → solved_in t x ≡ None
  live_free x a = ap (option_and_then (form_of_role t.names)) (at_get t.roles (place_of_variable t.names x) Live a)

  row_known : (x : ℕ) (r : Row) → IsAt t.roles (place_of_variable t.names x) (Basic r) → Has x (variables_of t.names)
  row_known x r a =
      elim (has_or_not x (variables_of t.names)) [
        | inl h ↦ h
        | inr n ↦ let b = at_below t.roles (place_of_variable t.names x) (Basic r) a in absurd (omega (arith, b, place_absent t.names x n, s.named.size))
      ]

  over_of : (i : ℕ) (r : Row) → IsAt t.roles i (Basic r) → IsOver (is_live t.roles) (is_dropped t.roles) r
  over_of i r a = s.named.table.rows i r a

  -- the variables of a row's entries
  row_variables : (x : ℕ) (r : Row) → IsAt t.roles (place_of_variable t.names x) (Basic r) → AreVariables (naming t.names) 0 t.names (record { quantity = place_of_variable t.names x; factor = 1ℚ } ∷ r.live)
  row_variables x r a m (inl e) =
      let v = place_named t.names x (row_known x r a) in
      let q : m.quantity ≡ place_of_variable t.names x = ap (λ (y : Entry). y.quantity) e in
      (place_of_variable t.names x, omega (arith, q), (v.0, v.1, ap (naming t.names) q ∙ named-naming t.names (place_of_variable t.names x) v.0 v.1))
  row_variables x r a m (inr h) =
      let v = live_named m.quantity (passes (is_live t.roles) 0 r.live m (over_of (place_of_variable t.names x) r a).live_row h) in
      (m.quantity, omega arith, (v.0, v.1, named-naming t.names m.quantity v.0 v.1))

  before_row : (x : ℕ) (r : Row) → IsAt t.roles (place_of_variable t.names x) (Basic r) → IsBefore (variables_of t.names) x (products_of t.names r.live)
  before_row x r a =
      let v = place_named t.names x (row_known x r a) in
      let first : naming t.names (place_of_variable t.names x) ≡ x = named-naming t.names (place_of_variable t.names x) v.0 v.1 ∙ v.2 in
      let b : IsRowFrom everywhere (place_of_variable t.names x + 1) r.live = row_weaker (is_live t.roles) everywhere (place_of_variable t.names x + 1) r.live (λ c h. refl) (s.behind.behind (place_of_variable t.names x) r a) in
      record {
        ordered =
            subst (λ y. InOrder (variables_of t.names) (y ∷ variables (products_of t.names r.live))) first
            (subst (λ ys. InOrder (variables_of t.names) (naming t.names (place_of_variable t.names x) ∷ ys)) (products-variables t.names r.live)
            (entries_in_order (naming t.names) 0 t.names (record { quantity = place_of_variable t.names x; factor = 1ℚ } ∷ r.live) (omega arith, refl, one_not_zero, b) (row_variables x r a)));
        nonzero = products-nonzero t.names everywhere (place_of_variable t.names x + 1) r.live b;
      }

  before : (x : ℕ) (f : Linear) → solved_in t x ≡ Some f → IsBefore (variables_of t.names) x f.products
  before x f e = let r = row_of x f e in subst (λ (g : Linear). IsBefore (variables_of t.names) x g.products) r.2 (before_row x r.0 r.1)

  free : (x y : ℕ) (f : Linear) → solved_in t x ≡ Some f → Mentions y f.products → solved_in t y ≡ None
  free x y f e m =
      let r = row_of x f e in
      let n = products-mention t.names y r.0.live (subst (λ (g : Linear). Mentions y g.products) (sym r.2) m) in
      let l = passes (is_live t.roles) 0 r.0.live n.0 (over_of (place_of_variable t.names x) r.0 r.1).live_row n.1 in
      let v = live_named n.0.quantity l in
      let w : v.0.0 ≡ y = sym (named-naming t.names n.0.quantity v.0 v.1) ∙ sym n.2 in
      let p : place_of_variable t.names y ≡ n.0.quantity = ap (place_of_variable t.names) (sym w) ∙ named_place t.names n.0.quantity v.0 s.named.distinct v.1 in
      live_free y (subst (λ c. IsAt t.roles c Live) (sym p) (role_live t.roles n.0.quantity l))

  -- ---- solutions

  -- where the list is satisfied, the dropped columns are zero
  pub dropped_zero : (v x : ℕ → ℚ) → Satisfies v l → Agree l (variable_forms (variables_of t.names)) (place_of t.names) v x → (c : ℕ) → is_dropped t.roles c ≡ true → x c ≡ 0ℚ
  dropped_zero v x h a c k =
      let q = s.describes.each_gone c k in
      let m = s.solved.only q.0 q.1 in
      let w = subst (λ r. Meets r (value_at v (member_at l m.0).form)) (s.solved.equations m.0 m.1) (holds_at v l m.0 h m.1) in
      ap x (sym q.2) ∙ a.same q.0 (s.describes.columns q.0 (has_right q.0 s.live s.gone q.1)) ∙ ap (amount l v) m.2 ∙ w

  -- and a row says what its form says
  pub row_says : (v x : ℕ → ℚ) → Satisfies v l → Agree l (variable_forms (variables_of t.names)) (place_of t.names) v x → (r : Row) → IsOver (is_live t.roles) (is_dropped t.roles) r →
      right_side x r ≡ value_at v (record { products = products_of t.names r.live; constant = r.constant })
  row_says v x h a r o =
      ap₂ (λ u w. r.constant +ℚ (u +ℚ w))
      (sum_agrees (is_live t.roles) 0 x (λ c. v (naming t.names c)) r.live o.live_row column ∙ sym (products-sum t.names v r.live))
      (sum_agrees (is_dropped t.roles) 0 x (λ c. 0ℚ) r.dropped o.dropped_row (dropped_zero v x h a) ∙ zero_sum r.dropped)
      ∙ ring (r.constant ∷ sum_at v (products_of t.names r.live) ∷ []) (var 0 ⊕ (var 1 ⊕ int (pos 0))) (var 0 ⊕ var 1) refl
    where
      zero_sum : (s : List Entry) → row.sum_at (λ c. 0ℚ) s ≡ 0ℚ
      zero_sum [] = refl
      zero_sum (m ∷ s) = ap (λ w. m.factor *ℚ 0ℚ +ℚ w) (zero_sum s) ∙ ring (m.factor ∷ []) (var 0 ⊗ int (pos 0) ⊕ int (pos 0)) (int (pos 0)) refl

      column : (c : ℕ) → is_live t.roles c ≡ true → x c ≡ v (naming t.names c)
      column c k =
          let w = live_named c k in
          let q : Has w.0.0 (variables_of t.names) = named_has t.names c w.0 w.1 in
          ap x (sym (named_place t.names c w.0 s.named.distinct w.1)) ∙ a.same (variable w.0.0) (known_variable w.0.0 q) ∙ value_at-variable_form v w.0.0
          ∙ ap v (sym (named-naming t.names c w.0 w.1))

  pub satisfied-agrees : (a : ℕ → ℚ) → Satisfies a l → Agrees a (solved_in t)
  satisfied-agrees a h x f e =
      let r = row_of x f e in
      let o = s.describes.forth a in
      sym (value_at-variable_form a x) ∙ sym (o.2.same (variable x) (known_variable x (row_known x r.0 r.1))) ∙ o.1.rows (place_of_variable t.names x) r.0 r.1
      ∙ row_says a o.0 h o.2 r.0 (over_of (place_of_variable t.names x) r.0 r.1) ∙ ap (value_at a) r.2

  agrees-satisfied : (a : ℕ → ℚ) → Agrees a (solved_in t) → Satisfies a l
  agrees-satisfied a h = satisfies_agrees c.v a l (λ x m. same x (s.known x m)) v_satisfies
    where
      c : Chosen l (variable_forms (variables_of t.names)) t.roles (place_of t.names) s.live s.gone s.named.table s.describes s.solved (λ c. a (naming t.names c))
      c = choice l (variable_forms (variables_of t.names)) t.roles (place_of t.names) s.live s.gone s.named.table s.describes s.solved (λ c. a (naming t.names c))

      v_satisfies : Satisfies c.v l
      v_satisfies = solves_from c.v l (λ i k. subst (λ r. Meets r (value_at c.v (member_at l i).form)) (sym (s.solved.equations i k)) (zero_of l c.v _ (member i) c.zero (in_members i l k)))

      v_agrees : Agrees c.v (solved_in t)
      v_agrees = satisfied-agrees c.v v_satisfies

      same_free : (x : ℕ) → Has x (variables_of t.names) → solved_in t x ≡ None → c.v x ≡ a x
      same_free x k e =
          elim (s.describes.others (variable x) (known_variable x k)) [
            | inl w ↦ elim (has_either (variable x) s.live s.gone w) [
              | inl i ↦
                  let v = place_named t.names x k in
                  sym (value_at-variable_form c.v x) ∙ c.value (variable x) i ∙ ap a (named-naming t.names (place_of_variable t.names x) v.0 v.1 ∙ v.2)
              | inr g ↦ let m = s.solved.only (variable x) g in let f = m.2 in cc
            ]
            | inr r ↦ let f = sym e ∙ solved_row x r.0 r.1 in cc
          ]

      mentioned_known : (x y : ℕ) (f : Linear) → solved_in t x ≡ Some f → Mentions y f.products → Has y (variables_of t.names)
      mentioned_known x y f e m =
          let r = row_of x f e in
          let n = products-mention t.names y r.0.live (subst (λ (g : Linear). Mentions y g.products) (sym r.2) m) in
          let v = live_named n.0.quantity (passes (is_live t.roles) 0 r.0.live n.0 (over_of (place_of_variable t.names x) r.0 r.1).live_row n.1) in
          subst (λ z. Has z (variables_of t.names)) (sym (named-naming t.names n.0.quantity v.0 v.1) ∙ sym n.2) (named_has t.names n.0.quantity v.0 v.1)

      same : (x : ℕ) → Has x (variables_of t.names) → c.v x ≡ a x
      same x k = go (solved_in t x) refl
        where
          go : (o : Option Linear) → solved_in t x ≡ o → c.v x ≡ a x
          go None e = same_free x k e
          go (Some f) e = v_agrees x f e ∙ value_at-agrees c.v a f (λ y m. same_free y (mentioned_known x y f e m) (free x y f e m)) ∙ sym (h x f e)

  pub solved_form : IsSolvedForm (variables_of t.names) l (solved_in t)
  solved_form = record {
    distinct = s.named.distinct;
    known = s.known;
    before = before;
    free = free;
    same = λ a. (satisfied-agrees a, agrees-satisfied a);
  }
