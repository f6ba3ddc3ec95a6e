-- The steps of telling an equation keep the store's table one that speaks of its list.
use Rattle.std.proofs.Common.{◌≡◌, ◌↔◌, ℕ, pos, ◌+◌, List, [], ◌∷◌, ◌++◌, length, Bool, true, false, not, ◌||◌, nat_eq, cond, arith, refl, ap, ap₂, sym, subst, ◌∙◌, ◌⊎◌, inl, inr, length-append, append-nil, append_assoc}
use Rattle.std.specs.Prelude.{filter}
use Rattle.std.specs.List.{list_any}
use Rattle.spec_numbers.specs.Rational.{ℚ, 0ℚ, ◌+ℚ◌}
use Rattle.spec_numbers.specs.Sums.{Monomial, Mentions}
use Rattle.spec_numbers.proofs.Ring.{var, int, ◌⊕◌}
use Rattle.spec_numbers.proofs.RationalLemmas.{ring}
use Rattle.spec_linear.specs.Form.{Linear, IsForm, value_at}
use Rattle.spec_linear.specs.Solution.{Constraint, number, Has, Satisfies, Unsolvable, SomeMentions}
use Rattle.spec_linear.specs.declared.Relation.TheVariants.{Eq}
use Rattle.spec_linear.proofs.Points.{solves_same}
use Rattle.spec_linear.proofs.Values.{value_at-variable_form}
use Rattle.spec_simplex.specs.LimitsDictionary.{Quantity, variable, member, IsQuantity}
use Rattle.spec_simplex.specs.Overflow.{Makes}
use Rattle.spec_linear.specs.Echelon.{AreDistinct, variables}
use Rattle.cq_frac.specs.declared.Operation.{Operation}
use Rattle.cq_frac.specs.declared.row.Entry.{Entry}
use Rattle.cq_frac.specs.Row.{Row}
use Rattle.cq_frac.specs.Rows as row
use Rattle.cq_frac.specs.Rows.{IsRowFrom}
use Rattle.cq_frac.specs.Numbers.{right_side}
use Rattle.cq_frac.proofs.Units.{row_weaker, same_number}
use Rattle.cq_dict.specs.declared.table.Role.{Role}
use Rattle.cq_dict.specs.declared.table.Role.TheVariants.{Live, Basic}
use Rattle.cq_dict.specs.Roles.{is_live, AreOverColumns, IsMet, Expresses, FormPair, PivotPair, IsEliminated}
use Rattle.cq_equations.specs.declared.table.Name.TheVariants.{Variable, Member}
use Rattle.cq_equations.specs.Describes.{Agree, Describes, NoOtherRows, placed, with_equation}
use Rattle.cq_equations.specs.Contents.{Named, AreNamed, IsStored, variables_of, place_of, members_in, products_of, variable_forms}
use Rattle.cq_equations.specs.Entering.{AddsVariables, none_added, one_added, AddsMember, Joins, follows, eliminates, Contradicts}
use Rattle.cq_dict.proofs.Roles.{role_live, live_at, at_last}
use Rattle.cq_equations.proofs.Roles.{at_append, append_back}
use Rattle.cq_equations.proofs.Names.{place_more, member_more, member_last, variables_of-append, members_in-append, named_more}
use Rattle.cq_frac.proofs.Shifts.{passes}
use Rattle.cq_equations.proofs.Causes.{at_work, solved_in_use, form_pairs, pivot_pairs, placed_sum}
use Rattle.cq_equations.proofs.Joining.{IsTurned, turned_is, same_or_not, append_table}
use Rattle.cq_equations.proofs.Joining as joining
use Rattle.cq_equations.proofs.Asking as asking
use Rattle.cq_equations.proofs.Keeping.{keeps, keeps_solved, keeps_rows}
use Rattle.cq_equations.proofs.Behind.{reaches_still}
use Rattle.cq_equations.proofs.Solved.{forms_mention, mentioned_form, row_says}
use Rattle.cq_equations.proofs.Variables.{variable_joins, live_more}
use Rattle.spec_numbers.proofs.Tests.{nat_eq-self}
use Rattle.spec_linear.proofs.Orders.{mentions-has}

-- ---- asked forms that make the same quantities

module _ (l : List Constraint) (asked asked' : List Linear) (roles : List Role) (place : Quantity → ℕ) (live gone : List Quantity) (same : (q : Quantity) → IsQuantity l asked q ↔ IsQuantity l asked' q) where
  pub agree_same : (v x : ℕ → ℚ) → Agree l asked place v x → Agree l asked' place v x
  agree_same v x a = record { same = λ q i. a.same q ((same q).1 i) }

  pub describes_same : Describes l asked roles place live gone → Describes l asked' roles place live gone
  describes_same d = record {
    forth = λ v. let x = d.forth v in (x.0, x.1, agree_same v x.0 x.2);
    back = λ x m. let v = d.back x m in (v.0, agree_same v.0 x v.1);
    columns = λ q h. (same q).0 (d.columns q h);
    once = d.once;
    apart = d.apart;
    live_is = d.live_is;
    gone_is = d.gone_is;
    each_live = d.each_live;
    each_gone = d.each_gone;
    others = λ q i. d.others q ((same q).1 i);
  }

  pub rows_same : NoOtherRows l asked roles place → NoOtherRows l asked' roles place
  rows_same n i r h = let q = n i r h in (q.0, (same q.0).0 q.1, q.2)

-- ---- new variables

pub is_among : (x : ℕ) (order : List ℕ) → Has x order → list_any (nat_eq x) order ≡ true
is_among x [] h = absurd h
is_among x (y ∷ order) (inl e) = first (nat_eq x y) (subst (λ k. nat_eq x k ≡ true) e (nat_eq-self x))
  where
    first : (b : Bool) → b ≡ true → (b || list_any (nat_eq x) order) ≡ true
    first true e = refl
    first false e = cc
is_among x (y ∷ order) (inr h) = later (nat_eq x y) (is_among x order h)
  where
    later : (b : Bool) → list_any (nat_eq x) order ≡ true → (b || list_any (nat_eq x) order) ≡ true
    later true e = refl
    later false e = e

pub among_is : (x : ℕ) (order : List ℕ) → list_any (nat_eq x) order ≡ true → Has x order
among_is x [] h = cc
among_is x (y ∷ order) h = go (nat_eq x y) refl (λ k. among_is x order k) h
  where
    go : (b : Bool) → nat_eq x y ≡ b → (list_any (nat_eq x) order ≡ true → Has x order) → (b || list_any (nat_eq x) order) ≡ true → (x ≡ y) ⊎ Has x order
    go true e rest k = inl (same_number x y e)
    go false e rest k = inr (rest k)

-- those of the variables that are not in the order
abbrev pub fresh : List ℕ → List ℕ → List ℕ
fresh order xs = filter (λ x. not (list_any (nat_eq x) order)) xs

pub has_fresh : (order xs : List ℕ) (x : ℕ) → Has x (fresh order xs) → Has x xs × (Has x order → ⊥)
has_fresh order [] x h = absurd h
has_fresh order (y ∷ xs) x h = go (list_any (nat_eq y) order) refl (λ k. has_fresh order xs x k) h
  where
    go : (b : Bool) → list_any (nat_eq y) order ≡ b → (Has x (fresh order xs) → Has x xs × (Has x order → ⊥)) → Has x (cond (not b) (y ∷ fresh order xs) (fresh order xs)) → Has x (y ∷ xs) × (Has x order → ⊥)
    go true e rest k = let r = rest k in (inr r.0, r.1)
    go false e rest (inl w) = (inl w, (λ k. let f : list_any (nat_eq y) order ≡ true = is_among y order (subst (λ z. Has z order) w k) in cc))
    go false e rest (inr k) = let r = rest k in (inr r.0, r.1)

pub fresh_or_old : (order xs : List ℕ) (x : ℕ) → Has x xs → Has x order ⊎ Has x (fresh order xs)
fresh_or_old order [] x h = absurd h
fresh_or_old order (y ∷ xs) x h = go (list_any (nat_eq y) order) refl (λ k. fresh_or_old order xs x k) h
  where
    go : (b : Bool) → list_any (nat_eq y) order ≡ b → (Has x xs → Has x order ⊎ Has x (fresh order xs)) → (x ≡ y) ⊎ Has x xs → Has x order ⊎ Has x (cond (not b) (y ∷ fresh order xs) (fresh order xs))
    go true e rest (inl w) = inl (subst (λ z. Has z order) (sym w) (among_is y order e))
    go true e rest (inr k) = rest k
    go false e rest (inl w) = inr (inl w)
    go false e rest (inr k) = elim (rest k) [ inl m ↦ inl m | inr m ↦ inr (inr m) ]

pub variables-mention : (x : ℕ) (s : List Monomial) → Has x (variables s) → Mentions x s
variables-mention x [] h = h
variables-mention x (m ∷ s) (inl e) = inl e
variables-mention x (m ∷ s) (inr h) = inr (variables-mention x s h)

pub added_order : (old new : Named) (xs : List ℕ) → AddsVariables old xs new → variables_of new.names ≡ variables_of old.names ++ xs
added_order old new xs a = go a
  where
    go : {xs : List ℕ} {new : Named} → AddsVariables old xs new → variables_of new.names ≡ variables_of old.names ++ xs
    go none_added = sym (append-nil (variables_of old.names))
    go (one_added xs mid a x n) = variables_of-append mid.names (Variable x ∷ []) ∙ ap (λ s. s ++ x.0 ∷ []) (go a) ∙ append_assoc (variables_of old.names) xs (x.0 ∷ [])

pub added_stored : (l : List Constraint) (old new : Named) (xs : List ℕ) → IsStored l old → AddsVariables old xs new → IsStored l new
added_stored l old new xs s a = go a
  where
    go : {xs : List ℕ} {new : Named} → AddsVariables old xs new → IsStored l new
    go none_added = s
    go (one_added xs mid a x n) = let m = go a in variable_joins mid m.named x n l m

-- ---- the form of an equation

module _ (l : List Constraint) (t : Named) (s : IsStored l t) (f : Linear) (known : (x : ℕ) → Mentions x f.products → Has x (variables_of t.names)) where
  -- forms of known variables make no new quantities
  module _ (order : List ℕ) (few : (x : ℕ) → Has x order → Has x (variables_of t.names)) (all : (x : ℕ) → Has x (variables_of t.names) → Mentions x f.products ⊎ Has x order) where
    pub same_quantities : (q : Quantity) → IsQuantity l (variable_forms (variables_of t.names)) q ↔ IsQuantity l (f ∷ variable_forms order) q
    same_quantities (variable x) = (
      (λ h. elim h [ inl k ↦ inl k | inr k ↦ elim (all x (forms_mention x (variables_of t.names) k)) [ inl m ↦ inr (inl m) | inr m ↦ inr (inr (mentioned_form x order m)) ] ]),
      (λ h. elim h [
        | inl k ↦ inl k
        | inr k ↦ elim k [ inl m ↦ inr (mentioned_form x (variables_of t.names) (known x m)) | inr m ↦ inr (mentioned_form x (variables_of t.names) (few x (forms_mention x order m))) ]
      ]),
    )
    same_quantities (member i) = ((λ h. h), (λ h. h))

    pub asked_describes : Describes l (f ∷ variable_forms order) t.roles (place_of t.names) s.live s.gone
    asked_describes = describes_same l (variable_forms (variables_of t.names)) (f ∷ variable_forms order) t.roles (place_of t.names) s.live s.gone same_quantities s.describes

    pub asked_rows : NoOtherRows l (f ∷ variable_forms order) t.roles (place_of t.names)
    asked_rows = rows_same l (variable_forms (variables_of t.names)) (f ∷ variable_forms order) t.roles (place_of t.names) s.live s.gone same_quantities s.rows

    -- the pairs of adding the form
    pub adding_makes : IsForm f → (o : Operation) (a b : ℚ) → FormPair t.roles (placed (place_of t.names) f.products) f.constant o a b → Makes (at_work l (f ∷ variable_forms order)) o a b
    adding_makes ordered o a b p =
        form_pairs l (f ∷ variable_forms order) t.roles (place_of t.names) s.live s.gone s.named.table asked_describes
        (solved_in_use l (f ∷ variable_forms order) t.roles (place_of t.names) s.live s.gone s.named.table asked_describes s.solved) f (inl refl) ordered p

    -- the pairs of the exchange
    pub exchanging_makes : (asked : Named) (m : AddsMember t f asked) (c : ℕ) (o : Operation) (a b : ℚ) → PivotPair asked.roles (length t.roles) c o a b → Makes (at_work l (f ∷ variable_forms order)) o a b
    exchanging_makes asked m c o a b p =
        pivot_pairs l (f ∷ variable_forms order) (t.roles ++ Basic m.row ∷ []) (place_of t.names) s.live s.gone (append_table t.roles m.row s.named.table m.expresses.over)
        (asking.describes l f (variable_forms order) t.roles (place_of t.names) s.live s.gone s.named.table asked_describes s.solved m.row m.expresses)
        (solved_in_use l (f ∷ variable_forms order) (t.roles ++ Basic m.row ∷ []) (place_of t.names) s.live s.gone (append_table t.roles m.row s.named.table m.expresses.over)
        (asking.describes l f (variable_forms order) t.roles (place_of t.names) s.live s.gone s.named.table asked_describes s.solved m.row m.expresses)
        (asking.still l f (variable_forms order) t.roles (place_of t.names) s.live s.gone s.named.table asked_describes s.solved m.row m.expresses))
        (asking.known l f (variable_forms order) t.roles (place_of t.names) s.live s.gone s.named.table asked_describes s.solved m.row m.expresses asked_rows)
        (length t.roles) c (subst (λ z. PivotPair z (length t.roles) c o a b) m.roles p)

  own : (x : ℕ) → Has x (variables_of t.names) → Mentions x f.products ⊎ Has x (variables_of t.names)
  own x h = inr h

  asked_own : Describes l (f ∷ variable_forms (variables_of t.names)) t.roles (place_of t.names) s.live s.gone
  asked_own = asked_describes (variables_of t.names) (λ x h. h) own

  rows_own : NoOtherRows l (f ∷ variable_forms (variables_of t.names)) t.roles (place_of t.names)
  rows_own = asked_rows (variables_of t.names) (λ x h. h) own

  -- ---- the numbers once the form is the last member's

  order_same : variables_of (t.names ++ Member ∷ []) ≡ variables_of t.names
  order_same = variables_of-append t.names (Member ∷ []) ∙ append-nil (variables_of t.names)

  known_quantity : (x : ℕ) → IsQuantity l (f ∷ variable_forms (variables_of t.names)) (variable x) → Has x (variables_of t.names)
  known_quantity x (inl h) = s.known x h
  known_quantity x (inr (inl h)) = known x h
  known_quantity x (inr (inr h)) = forms_mention x (variables_of t.names) h

  same_place : (q : Quantity) → IsQuantity l (f ∷ variable_forms (variables_of t.names)) q → place_of (t.names ++ Member ∷ []) q ≡ place_of t.names q
  same_place (variable x) h = place_more t.names (Member ∷ []) x (known_quantity x h)
  same_place (member i) h = member_more t.names (Member ∷ []) i (omega (arith, h, s.members))

  new_place : place_of (t.names ++ Member ∷ []) (member (length l)) ≡ length t.roles
  new_place = ap (λ i. place_of (t.names ++ Member ∷ []) (member i)) (sym s.members) ∙ member_last t.names ∙ s.named.size

  longer : length (with_equation l f) ≡ length l + 1
  longer = length-append l (record { relation = Eq; form = f } ∷ [])

  more_known : (x : ℕ) → SomeMentions x (with_equation l f) → Has x (variables_of (t.names ++ Member ∷ []))
  more_known x h = subst (Has x) (sym order_same) (elim (joining.mentions_back x l f h) [ inl k ↦ s.known x k | inr k ↦ known x k ])

  more_members : members_in (t.names ++ Member ∷ []) ≡ length (with_equation l f)
  more_members = omega (arith, members_in-append t.names (Member ∷ []), s.members, longer)

  -- facts of the longer list, with the order of the longer names
  asked_order : (P : List Linear → Type 0) → P (variable_forms (variables_of t.names)) → P (variable_forms (variables_of (t.names ++ Member ∷ [])))
  asked_order P h = subst (λ o. P (variable_forms o)) (sym order_same) h

  wide_named : (new : List Role) → AreOverColumns new → length new ≡ length t.roles + 1 → ((c : ℕ) → is_live new c ≡ true → is_live t.roles c ≡ true) → AreNamed (record { names = t.names ++ Member ∷ []; roles = new })
  wide_named new table size back = record {
    table = table;
    size = length-append t.names (Member ∷ []) ∙ ap (λ n. n + 1) s.named.size ∙ sym size;
    distinct = subst AreDistinct (sym order_same) s.named.distinct;
    columns = λ c h. let w = s.named.columns c (back c h) in (w.0, named_more t.names (Member ∷ []) c w.0 w.1);
  }

  module _ (r : Row) (ex : Expresses t.roles (λ x. f.constant +ℚ row.sum_at x (placed (place_of t.names) f.products)) r) where
    wide_table : AreOverColumns (t.roles ++ Basic r ∷ [])
    wide_table = append_table t.roles r s.named.table ex.over

    wide_back : (c : ℕ) → is_live (t.roles ++ Basic r ∷ []) c ≡ true → is_live t.roles c ≡ true
    wide_back c h = elim (append_back t.roles (Basic r) Live c (role_live (t.roles ++ Basic r ∷ []) c h)) [ inl k ↦ live_at t.roles c Live k | inr k ↦ let w = k.1 in cc ]

    pub named_asked : AreNamed (record { names = t.names ++ Member ∷ []; roles = t.roles ++ Basic r ∷ [] })
    named_asked = wide_named (t.roles ++ Basic r ∷ []) wide_table (length-append t.roles (Basic r ∷ [])) wide_back

    -- the equation follows
    pub follows_stored : r.live ≡ [] → r.constant ≡ 0ℚ → IsStored (with_equation l f) (record { names = t.names ++ Member ∷ []; roles = t.roles ++ Basic r ∷ [] })
    follows_stored nl nc = record {
      named = named_asked;
      live = s.live;
      gone = s.gone;
      describes = asked_order (λ v. Describes (with_equation l f) v (t.roles ++ Basic r ∷ []) (place_of (t.names ++ Member ∷ [])) s.live s.gone)
          (keeps l f (variable_forms (variables_of t.names)) t.roles (place_of t.names) (place_of (t.names ++ Member ∷ [])) same_place new_place s.live s.gone s.named.table asked_own s.solved r ex nl nc);
      solved = keeps_solved l f (variable_forms (variables_of t.names)) t.roles (place_of t.names) (place_of (t.names ++ Member ∷ [])) same_place new_place s.live s.gone s.named.table asked_own s.solved r ex nl nc;
      rows = asked_order (λ v. NoOtherRows (with_equation l f) v (t.roles ++ Basic r ∷ []) (place_of (t.names ++ Member ∷ [])))
          (keeps_rows l f (variable_forms (variables_of t.names)) t.roles (place_of t.names) (place_of (t.names ++ Member ∷ [])) same_place new_place s.live s.gone s.named.table asked_own s.solved r ex nl nc rows_own);
      behind = record {
        behind = λ i w h.
            elim (append_back t.roles (Basic r) (Basic w) i h) [
              | inl k ↦ row_weaker (is_live t.roles) (is_live (t.roles ++ Basic r ∷ [])) (i + 1) w.live (live_more t.roles (Basic r ∷ [])) (s.behind.behind i w k)
              | inr k ↦ let e : w ≡ r = let z = k.1 in cc in subst (IsRowFrom (is_live (t.roles ++ Basic r ∷ [])) (i + 1)) (sym (ap (λ (y : Row). y.live) e ∙ nl)) tt
            ];
      };
      known = more_known;
      members = more_members;
    }

    -- the equation contradicts the list
    pub contradiction : r.live ≡ [] → (r.constant ≡ 0ℚ → ⊥) → Unsolvable (with_equation l f)
    contradiction nl nz p h =
        let v = number p in
        let k = split v l ((solves_same p (with_equation l f)).0 h) in
        let x = s.describes.forth v in
        let e : right_side x.0 r ≡ value_at v f =
        ex.value_is x.0 x.1 ∙ ap (λ w. f.constant +ℚ w) (placed_sum (place_of t.names) v x.0 f.products (λ y m. x.2.same (variable y) (inr (mentioned_form y (variables_of t.names) (known y m))) ∙ value_at-variable_form v y)) in
        nz (constant_there v r nl ∙ sym (row_says l t s v x.0 k.0 x.2 r ex.over) ∙ e ∙ k.1)
      where
        split : (v : ℕ → ℚ) (l : List Constraint) → Satisfies v (with_equation l f) → Satisfies v l × (value_at v f ≡ 0ℚ)
        split v [] h = (tt, h.0)
        split v (c ∷ l) h = let r = split v l h.1 in ((h.0, r.0), r.1)

        constant_there : (v : ℕ → ℚ) (r : Row) → r.live ≡ [] → r.constant ≡ value_at v (record { products = products_of t.names r.live; constant = r.constant })
        constant_there v r e = ring (r.constant ∷ []) (var 0) (var 0 ⊕ int (pos 0)) refl ∙ ap (λ y. value_at v (record { products = products_of t.names y; constant = r.constant })) (sym e)

    -- the equation is solved for a variable
    module _ (m : Entry) (rest : List Entry) (live_is : r.live ≡ m ∷ rest) (new : List Role) (table : AreOverColumns new) (same : (x : ℕ → ℚ) → IsMet x (t.roles ++ Basic r ∷ []) ↔ IsMet x new)
        (kinds : IsEliminated (t.roles ++ Basic r ∷ []) (length t.roles) m.quantity new) where
      column_live : is_live t.roles m.quantity ≡ true
      column_live = passes (is_live t.roles) 0 r.live m ex.over.live_row (subst (row.Has m) (sym live_is) (inl refl))

      turned : IsTurned (t.roles ++ Basic r ∷ []) (length t.roles) m.quantity new
      turned = turned_is (t.roles ++ Basic r ∷ []) new (length t.roles) m.quantity r (at_last t.roles (Basic r)) (at_append t.roles (Basic r ∷ []) m.quantity Live (role_live t.roles m.quantity column_live)) kinds

      split_at : (q : Quantity) (a : List Quantity) → Has q a → (before after : List Quantity) × (a ≡ before ++ q ∷ after)
      split_at q [] h = absurd h
      split_at q (r ∷ a) (inl e) = ([], a, ap (λ z. z ∷ a) (sym e))
      split_at q (r ∷ a) (inr h) = let w = split_at q a h in (r ∷ w.0, w.1, ap (λ z. r ∷ z) w.2)

      pub eliminated_stored : IsStored (with_equation l f) (record { names = t.names ++ Member ∷ []; roles = new })
      eliminated_stored =
          let q = s.describes.each_live m.quantity column_live in
          let w = split_at q.0 s.live q.1 in
          let d : Describes l (f ∷ variable_forms (variables_of t.names)) t.roles (place_of t.names) (w.0 ++ q.0 ∷ w.1) s.gone = subst (λ z. Describes l (f ∷ variable_forms (variables_of t.names)) t.roles (place_of t.names) z s.gone) w.2 asked_own in
          let u : IsTurned (t.roles ++ Basic r ∷ []) (length t.roles) (place_of t.names q.0) new = subst (λ c. IsTurned (t.roles ++ Basic r ∷ []) (length t.roles) c new) (sym q.2) turned in
          record {
            named = wide_named new table (kinds.size ∙ length-append t.roles (Basic r ∷ [])) (λ c h. wide_back c (live_at (t.roles ++ Basic r ∷ []) c Live (turned.back_live c (role_live new c h)).1));
            live = w.0 ++ w.1;
            gone = member (length l) ∷ s.gone;
            describes = asked_order (λ v. Describes (with_equation l f) v new (place_of (t.names ++ Member ∷ [])) (w.0 ++ w.1) (member (length l) ∷ s.gone))
                (joining.describes l f (variable_forms (variables_of t.names)) t.roles (place_of t.names) (place_of (t.names ++ Member ∷ [])) same_place new_place w.0 q.0 w.1 s.gone s.named.table d s.solved r ex new wide_table table same u);
            solved = joining.still_solved l f (variable_forms (variables_of t.names)) t.roles (place_of t.names) (place_of (t.names ++ Member ∷ [])) same_place new_place w.0 q.0 w.1 s.gone s.named.table d s.solved r ex new wide_table table same u;
            rows = asked_order (λ v. NoOtherRows (with_equation l f) v new (place_of (t.names ++ Member ∷ [])))
                (joining.each_row l f (variable_forms (variables_of t.names)) t.roles (place_of t.names) (place_of (t.names ++ Member ∷ [])) same_place new_place w.0 q.0 w.1 s.gone s.named.table d s.solved r ex new wide_table table same u rows_own);
            behind = reaches_still t.roles s.named.table s.behind r m rest live_is ex.over new table same turned;
            known = more_known;
            members = more_members;
          }

  -- ---- the steps as the table makes them

  pub joins_stored : (new : Named) → Joins t f new → IsStored (with_equation l f) new × (variables_of new.names ≡ variables_of t.names)
  joins_stored new (follows m nl nc) = (
    subst (IsStored (with_equation l f)) (sym (ap₂ (λ n z. record { names = n; roles = z }) m.names m.roles)) (follows_stored m.row m.expresses nl nc),
    ap variables_of m.names ∙ order_same,
  )
  joins_stored new (eliminates asked m e) = (
    subst (λ n. IsStored (with_equation l f) (record { names = n; roles = new.roles })) (sym (e.names ∙ m.names))
        (eliminated_stored m.row m.expresses e.first e.rest e.live new.roles e.table (subst (λ z. (x : ℕ → ℚ) → IsMet x z ↔ IsMet x new.roles) m.roles e.same) (subst (λ z. IsEliminated z (length t.roles) e.first.quantity new.roles) m.roles e.kinds)),
    ap variables_of (e.names ∙ m.names) ∙ order_same,
  )

  pub contradicts_unsolvable : Contradicts t f → Unsolvable (with_equation l f)
  contradicts_unsolvable c = contradiction c.member.row c.member.expresses c.live c.constant
