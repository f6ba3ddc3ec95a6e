-- Exchanges of the search are exchanges of a feasible dictionary of the list by the rule of the least numbers.
use Rattle.std.proofs.Common.{◌≡◌, ◌↔◌, ℕ, zero, suc, pred, ◌<◌, List, length, Bool, true, false, ◌||◌, Option, None, Some, inl, inr, arith, refl, ap, sym, subst, ◌∙◌}
use Rattle.std.specs.Prelude.{slice_get}
use Rattle.std.proofs.lemmas.Option.{none-some, slice_get_within}
use Rattle.spec_numbers.proofs.Tests.{one_is, or_left, or_right}
use Rattle.spec_numbers.specs.Sums.{factor_of}
use Rattle.spec_linear.specs.Form.{Linear}
use Rattle.spec_linear.specs.Solution.{Constraint, Has}
use Rattle.spec_linear.specs.Certificate as of_list
use Rattle.spec_projection.specs.Elimination.{IsInequality}
use Rattle.spec_simplex.specs.Dictionary.{IsDictionary}
use Rattle.spec_simplex.specs.Rule.{IsDue}
use Rattle.spec_simplex.specs.LimitsDictionary.{Quantity, member, member_at, IsQuantity, IsRestricted, form_of, IsWritten}
use Rattle.spec_simplex.specs.Chains.{IsNumbering, IsWrittenWith, Shows, IsBlandChain}
use Rattle.cq_frac.specs.declared.VarId.{VarId}
use Rattle.cq_dict.specs.declared.table.Role.{Role}
use Rattle.cq_dict.specs.declared.table.Role.TheVariants.{Live, Dropped, Basic}
use Rattle.cq_dict.specs.Roles.{IsAt, IsRow, is_live, is_dropped, is_row, is_restricted, role_at, constant_at, factor_at}
use Rattle.cq_dict.proofs.Roles.{role_is, at_below, at_exists, live_at, dropped_at, row_is, row_of, factor_is, live_is_no_row, dropped_is_no_row}
use Rattle.cq_simplex.specs.Dictionary.{dictionary, IsReached}
use Rattle.cq_equations.proofs.Causes.{at_work}
use Rattle.cq_tableau.specs.declared.names.Name.{Name}
use Rattle.cq_tableau.specs.declared.names.Name.TheVariants.{Variable, Member}
use Rattle.cq_tableau.specs.Forms as of_forms
use Rattle.cq_tableau.specs.Forms.{form_at}
use Rattle.cq_tableau.specs.Quantities.{name_of, quantity_of, place, quantity_here, numbered, stands_apart}
use Rattle.cq_tableau.proofs.Tied.{constant_row, factor_same}
use Rattle.cq_tableau.proofs.Numbering.{IsPicked, of_picked, proper}
use Rattle.cq_tableau.proofs.Shortened.{visible, visible_is, not_hidden, hide, still_due, hidden_chain}
use Rattle.spec_simplex.proofs.Solutions.{true_not_false}
use Rattle.cq_tableau.proofs.Working.{IsAtWork, Here, unnumbered, inequality_apart, member_is, there, live, zeros, expression, one_place, same_place, here_below, restricted_here, restricted_flag, quantity_named, form_named, pick_in, picks_here, live_named, outside, feasible, written_at, name_back}

module _ (l : List Constraint) (names : List Name) (asked forms : List Linear) (roles : List Role) (flags : List Bool) (w : IsAtWork l names asked forms roles flags)
    (one : (i j : ℕ) → i < length roles → j < length roles → slice_get names i ≡ None → slice_get names j ≡ None → i ≡ j)
    (last : (i j : ℕ) (t : Name) → slice_get names i ≡ Some t → slice_get names j ≡ None → i < j) where
  -- the rows of equations, and of what has no name
  abbrev pub hidden : ℕ → Bool
  hidden i = stands_apart l (slice_get names i)

  here_is : (n : ℕ) (t : Name) → slice_get names n ≡ Some t → numbered l names n ≡ quantity_of t
  here_is n t e = ap (quantity_here l) e

  nowhere_is : (n : ℕ) → slice_get names n ≡ None → numbered l names n ≡ member (length l)
  nowhere_is n e = ap (quantity_here l) e

  no_quantity : (n : ℕ) (t : Name) → slice_get names n ≡ Some t → member (length l) ≡ quantity_of t → ⊥
  no_quantity n t e f = let k : length l < length l = subst (IsQuantity l asked) (sym f) (quantity_named l names asked forms roles flags w n t e) in absurd (omega (arith, k))

  number_of : (n : ℕ) (q : Quantity) (h : Here l names asked forms roles flags w q) → h.number ≡ n → numbered l names n ≡ q
  number_of n q h e = ap (numbered l names) (sym e) ∙ here_is h.number (name_of q) h.named ∙ name_back q

  -- ---- the numbering
  numbering : IsNumbering (numbered l names) (length roles)
  numbering = record {
    once = λ i j a b e. once i j a b (slice_get names i) refl (slice_get names j) refl e;
    ascends = λ i j a b g h e f k. ascends i j a b (slice_get names i) refl (slice_get names j) refl e f k;
  }
    where
      once : (i j : ℕ) → i < length roles → j < length roles → (o : Option Name) → slice_get names i ≡ o → (p : Option Name) → slice_get names j ≡ p
          → numbered l names i ≡ numbered l names j → i ≡ j
      once i j a b None e None f h = one i j a b e f
      once i j a b None e (Some t) f h = absurd (no_quantity j t f (sym (nowhere_is i e) ∙ h ∙ here_is j t f))
      once i j a b (Some t) e None f h = absurd (no_quantity i t e (sym (nowhere_is j f) ∙ sym h ∙ here_is i t e))
      once i j a b (Some t) e (Some u) f h = one_place l names asked forms roles flags w i j t u e f (sym (here_is i t e) ∙ h ∙ here_is j u f)

      no_variable : (x : VarId) (a : ℕ) → quantity_of (Variable x) ≡ member a → ⊥
      no_variable x a e = cc

      number_is : (i a : ℕ) → member i ≡ member a → i ≡ a
      number_is i a e = cc

      named_member : (n : ℕ) (t : Name) → slice_get names n ≡ Some t → (a : ℕ) → quantity_of t ≡ member a → (slice_get names n ≡ Some (Member (suc a))) × (a < length l)
      named_member n t e a f = (
        e ∙ ap Some (sym (proper names (unnumbered l names asked forms roles flags w) w.once n t e)) ∙ ap (λ q. Some (name_of q)) f,
        subst (IsQuantity l asked) f (quantity_named l names asked forms roles flags w n t e),
      )

      ascends : (i j a b : ℕ) (o : Option Name) → slice_get names i ≡ o → (p : Option Name) → slice_get names j ≡ p → numbered l names i ≡ member a → numbered l names j ≡ member b → a < b → i < j
      ascends i j a b None e None f g h k =
          let x = number_is (length l) a (sym (nowhere_is i e) ∙ g) in
          let y = number_is (length l) b (sym (nowhere_is j f) ∙ h) in
          absurd (omega (arith, x, y, k))
      ascends i j a b None e (Some t) f g h k =
          let x = number_is (length l) a (sym (nowhere_is i e) ∙ g) in
          let y = (named_member j t f b (sym (here_is j t f) ∙ h)).1 in
          absurd (omega (arith, x, y, k))
      ascends i j a b (Some t) e None f g h k = last i j t e f
      ascends i j a b (Some t) e (Some u) f g h k =
          w.ascends i j (suc a) (suc b) (named_member i t e a (sym (here_is i t e) ∙ g)).0 (named_member j u f b (sym (here_is j u f) ∙ h)).0 (omega (arith, k))

  -- ---- flags
  flag_is : (n : ℕ) → (is_restricted flags n ≡ true) ↔ IsRestricted l (numbered l names n)
  flag_is n = (
    λ r.
        let o = w.owned n r in
        subst (IsRestricted l) (sym (here_is n (Member o.number) o.named)) (of_number o.number o.constraint o.told_at o.relation_is),
    back (slice_get names n) refl,
  )
    where
      of_number : (i : ℕ) (c : Constraint) → of_list.member l i ≡ Some c → IsInequality c.relation → IsRestricted l (member (pred i))
      of_number zero c e r = absurd (none-some c e)
      of_number (suc i) c e r = (slice_get_within l i c e, subst (λ (d : Constraint). IsInequality d.relation) (sym (member_is l i c e)) r)

      back : (o : Option Name) → slice_get names n ≡ o → IsRestricted l (numbered l names n) → is_restricted flags n ≡ true
      back None e r = let k = subst (IsRestricted l) (nowhere_is n e) r in absurd (omega (arith, k.0))
      back (Some (Variable x)) e r = absurd (subst (IsRestricted l) (here_is n (Variable x) e) r)
      back (Some (Member zero)) e r = absurd (unnumbered l names asked forms roles flags w n e)
      back (Some (Member (suc i))) e r =
          let k = subst (IsRestricted l) (here_is n (Member (suc i)) e) r in
          w.flagged n (record { number = suc i; named = e; constraint = member_at l i; told_at = there l i k.0; relation_is = k.1 })

  unrestricted : (n : ℕ) → hidden n ≡ true → is_restricted flags n ≡ false
  unrestricted n h = go (is_restricted flags n) refl
    where
      of_number : (i : ℕ) (c : Constraint) → of_list.member l i ≡ Some c → IsInequality c.relation → stands_apart l (Some (Member i)) ≡ false
      of_number zero c e r = absurd (none-some c e)
      of_number (suc i) c e r = inequality_apart (member_at l i).relation (subst (λ (d : Constraint). IsInequality d.relation) (sym (member_is l i c e)) r)

      go : (b : Bool) → is_restricted flags n ≡ b → is_restricted flags n ≡ false
      go false e = e
      go true e =
          let o = w.owned n e in
          absurd (true_not_false (hidden n) h (ap (stands_apart l) o.named ∙ of_number o.number o.constraint o.told_at o.relation_is))

  -- hidden quantities are no live columns
  no_column : (n : ℕ) → hidden n ≡ true → is_live roles n ≡ false
  no_column n h = go (is_live roles n) refl
    where
      go : (b : Bool) → is_live roles n ≡ b → is_live roles n ≡ false
      go false e = e
      go true e =
          let t = live_named l names asked forms roles flags w n e in
          absurd (outside l names asked forms roles flags w (quantity_of t.0)
          (pick_in l names asked forms roles flags w (is_live roles) n t.0 t.1 e)
          (pick_in l names asked forms roles flags w (λ n. is_dropped roles n || stands_apart l (slice_get names n)) n t.0 t.1
          (or_right (is_dropped roles n) (hidden n) h)))

  -- ---- the dictionary
  -- a row's numbers
  row_factor : (n : ℕ) → is_row roles n ≡ true → (c : ℕ) → factor_of c (of_forms.row_of n (role_at roles n)).live ≡ factor_at roles n c
  row_factor n h c =
      let r = row_of roles n h in
      ap (λ s. factor_of c (of_forms.row_of n s).live) (role_is roles n (Basic r.0) r.1) ∙ factor_same c r.0.live ∙ sym (factor_is roles n r.0 r.1 c)

  row_written : (n : ℕ) → is_row roles n ≡ true → (f : Linear) → form_at forms n ≡ f
      → IsWrittenWith (at_work l asked) (zeros l names asked forms roles flags w) (live l names asked forms roles flags w) (numbered l names) (is_live roles) f (constant_at roles n) (factor_at roles n)
  row_written n h f e = record {
    expression = expression l names asked forms roles flags w n;
    written =
        subst (λ g. IsWritten l (zeros l names asked forms roles flags w) (live l names asked forms roles flags w) g (expression l names asked forms roles flags w n)) e
        (written_at l names asked forms roles flags w n (let r = row_of roles n h in at_below roles n (Basic r.0) r.1));
    numbers = record {
      constant_is = constant_row n (role_at roles n);
      entries_are = λ c k.
          let t = live_named l names asked forms roles flags w c k in
          ap (λ z. factor_of z (of_forms.row_of n (role_at roles n)).live)
          (ap (place names) (here_is c t.0 t.1) ∙ same_place l names asked forms roles flags w c t.0 t.1)
          ∙ row_factor n h c;
    };
  }

  same_number : (p : ℕ → Bool) (n : ℕ) (t : Name) → slice_get names n ≡ Some t → (k : IsPicked p 0 names (quantity_of t)) → p n ≡ true
  same_number p n t e k =
      subst (λ m. p m ≡ true) (one_place l names asked forms roles flags w k.place n k.name t k.there e (sym k.is)) (picks_here l names asked forms roles flags w p (quantity_of t) k)

  module _ (a : ℕ) (a_row : IsRow roles a) where
    row_not_column : (n : ℕ) (t : Name) → slice_get names n ≡ Some t → is_row roles n ≡ true → Has (quantity_of t) (live l names asked forms roles flags w) → ⊥
    row_not_column n t e r h =
        true_not_false (is_row roles n) r (live_is_no_row roles n (same_number (is_live roles) n t e (of_picked (is_live roles) 0 names (quantity_of t) h)))

    row_not_zero : (n : ℕ) (t : Name) → slice_get names n ≡ Some t → is_row roles n ≡ true → hidden n ≡ false → Has (quantity_of t) (zeros l names asked forms roles flags w) → ⊥
    row_not_zero n t e r s h =
        elim (one_is (is_dropped roles n) (hidden n) (same_number (λ n. is_dropped roles n || stands_apart l (slice_get names n)) n t e
        (of_picked (λ n. is_dropped roles n || stands_apart l (slice_get names n)) 0 names (quantity_of t) h))) [
          | inl d ↦ true_not_false (is_row roles n) r (dropped_is_no_row roles n d)
          | inr k ↦ true_not_false (hidden n) k s
        ]

    shown_named : (n : ℕ) → hidden n ≡ false → (t : Name) × (slice_get names n ≡ Some t)
    shown_named n h = go (slice_get names n) refl
      where
        go : (o : Option Name) → slice_get names n ≡ o → (t : Name) × (slice_get names n ≡ Some t)
        go (Some t) e = (t, e)
        go None e = absurd (true_not_false (hidden n) (ap (stands_apart l) e) h)

    shows : Shows (at_work l asked) (zeros l names asked forms roles flags w) (live l names asked forms roles flags w) (numbered l names) (form_at forms a) (hide hidden (dictionary roles a))
    shows = record {
      columns_are = λ c. (
        λ h. let t = live_named l names asked forms roles flags w c h in
            subst (λ q. Has q (live l names asked forms roles flags w)) (sym (here_is c t.0 t.1)) (pick_in l names asked forms roles flags w (is_live roles) c t.0 t.1 h),
        λ h. column_back c (slice_get names c) refl h,
      );
      each_column = λ q h. let k = of_picked (is_live roles) 0 names q h in (k.place, here_is k.place k.name k.there ∙ sym k.is);
      rows_are = λ n h.
          let t = shown_named n (not_hidden (hidden n) (is_row roles n) h) in
          let r = visible_is (hidden n) (is_row roles n) h in
          let e = here_is n t.0 t.1 in (
            subst (IsQuantity l asked) (sym e) (quantity_named l names asked forms roles flags w n t.0 t.1),
            λ k. row_not_column n t.0 t.1 r (subst (λ q. Has q (live l names asked forms roles flags w)) e k),
            λ k. row_not_zero n t.0 t.1 r (not_hidden (hidden n) (is_row roles n) h) (subst (λ q. Has q (zeros l names asked forms roles flags w)) e k),
          );
      each_restricted = λ q r x y.
          let h = restricted_here l names asked forms roles flags w q r in
          let s = at_exists roles h.number (here_below l names asked forms roles flags w q h) in
          (h.number, ap (λ b. visible b (is_row roles h.number)) (shown_restricted q r) ∙ role_row q h x y s.0 s.1, number_of h.number q h refl);
      rows = λ n h.
          let t = shown_named n (not_hidden (hidden n) (is_row roles n) h) in
          row_written n (visible_is (hidden n) (is_row roles n) h) (form_of l (numbered l names n))
          (form_named l names asked forms roles flags w n t.0 t.1 ∙ ap (form_of l) (sym (here_is n t.0 t.1)));
      asked = row_written a (row_is roles a a_row.0 a_row.1) (form_at forms a) refl;
    }
      where
        column_back : (c : ℕ) (o : Option Name) → slice_get names c ≡ o → Has (numbered l names c) (live l names asked forms roles flags w) → is_live roles c ≡ true
        column_back c None e h =
            let k = of_picked (is_live roles) 0 names (numbered l names c) h in
            absurd (no_quantity k.place k.name k.there (sym (nowhere_is c e) ∙ k.is))
        column_back c (Some t) e h =
            same_number (is_live roles) c t e (of_picked (is_live roles) 0 names (quantity_of t) (subst (λ q. Has q (live l names asked forms roles flags w)) (here_is c t e) h))

        shown_restricted : (q : Quantity) (r : IsRestricted l q) → hidden (restricted_here l names asked forms roles flags w q r).number ≡ false
        shown_restricted q r =
            let n = (restricted_here l names asked forms roles flags w q r).number in
            go n (hidden n) refl (restricted_flag l names asked forms roles flags w q r)
          where
            go : (n : ℕ) (b : Bool) → hidden n ≡ b → is_restricted flags n ≡ true → hidden n ≡ false
            go n false e f = e
            go n true e f = absurd (true_not_false (is_restricted flags n) f (unrestricted n e))

        role_row : (q : Quantity) (h : Here l names asked forms roles flags w q) → (Has q (live l names asked forms roles flags w) → ⊥) → (Has q (zeros l names asked forms roles flags w) → ⊥)
            → (s : Role) → IsAt roles h.number s → is_row roles h.number ≡ true
        role_row q h x y Live k =
            absurd (x (subst (λ r. Has r (live l names asked forms roles flags w)) (name_back q)
            (pick_in l names asked forms roles flags w (is_live roles) h.number (name_of q) h.named (live_at roles h.number Live k))))
        role_row q h x y Dropped k =
            absurd (y (subst (λ r. Has r (zeros l names asked forms roles flags w)) (name_back q)
            (pick_in l names asked forms roles flags w (λ n. is_dropped roles n || stands_apart l (slice_get names n)) h.number (name_of q) h.named
            (or_left (is_dropped roles h.number) (hidden h.number) (dropped_at roles h.number Dropped k)))))
        role_row q h x y (Basic r) k = row_is roles h.number r k

    -- ---- a chain of the search
    pub bland : Has (form_at forms a) asked → (new : List Role) (n : ℕ) → IsReached flags a roles n new → (c r : ℕ) → IsDue (is_restricted flags) (dictionary new a) c r
        → IsBlandChain (at_work l asked) n
    bland i new n reached c r due =
        let ch = hidden_chain hidden (is_restricted flags) unrestricted (length roles) (dictionary roles a) (dictionary new a) n reached.chain no_column in
        record {
          form = form_at forms a;
          is_asked = i;
          zeros = zeros l names asked forms roles flags w;
          columns = live l names asked forms roles flags w;
          feasible = feasible l names asked forms roles flags w;
          size = length roles;
          quantity = numbered l names;
          numbering = numbering;
          restricted = is_restricted flags;
          flags = λ q h. flag_is q;
          first = hide hidden (dictionary roles a);
          is_dictionary = subst (IsDictionary (length roles)) ch.begins (ch.is 0);
          shows = shows;
          last = hide hidden (dictionary new a);
          chain = ch;
          column = c;
          row = r;
          another = still_due hidden (is_restricted flags) unrestricted (dictionary new a) c r due;
        }
