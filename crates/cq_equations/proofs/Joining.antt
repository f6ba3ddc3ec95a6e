-- An equation joins: the table after its row was exchanged with a live column and dropped speaks of the longer list.
use Rattle.std.proofs.Common.{◌≡◌, ◌↔◌, ℕ, zero, suc, ◌+◌, ◌<◌, List, [], ◌∷◌, ◌++◌, length, Bool, true, false, nat_eq, arith, refl, ap, ap₂, sym, subst, ◌∙◌, ◌⊎◌, inl, inr, length-append}
use Rattle.spec_numbers.specs.Rational.{ℚ, 0ℚ, ◌+ℚ◌}
use Rattle.spec_numbers.specs.Sums.{Mentions}
use Rattle.spec_linear.specs.Form.{Linear, value_at}
use Rattle.spec_linear.specs.Solution.{Constraint, Has, SomeMentions}
use Rattle.spec_linear.specs.declared.Relation.TheVariants.{Eq}
use Rattle.spec_linear.proofs.Denominators.{has_left, has_right}
use Rattle.spec_linear.proofs.Values.{value_at-variable_form}
use Rattle.spec_simplex.specs.LimitsDictionary.{Quantity, variable, member, member_at, IsSet, IsQuantity, amount}
use Rattle.cq_frac.specs.Row.{Row}
use Rattle.cq_frac.specs.Rows as row
use Rattle.cq_frac.specs.Numbers.{IsOver}
use Rattle.cq_frac.proofs.Units.{same_number, row_weaker}
use Rattle.cq_dict.specs.declared.table.Role.{Role}
use Rattle.cq_dict.specs.declared.table.Role.TheVariants.{Live, Dropped, Basic}
use Rattle.cq_dict.specs.Roles.{IsAt, is_live, is_dropped, AreOverColumns, IsMet, Expresses, IsEliminated}
use Rattle.cq_equations.specs.Describes.{Agree, Describes, IsSolved, NoOtherRows, placed, with_equation}
use Rattle.cq_dict.proofs.Roles.{role_live, role_dropped, at_one, live_at, dropped_at, at_last, at_below, live_on, live_back, dropped_on, dropped_back, row_on, row_back}
use Rattle.cq_equations.proofs.Roles.{at_append, append_back}
use Rattle.cq_dict.proofs.Free.{free, sum_agrees, same_numbers}
use Rattle.cq_equations.proofs.Dictionary.{has_either}
use Rattle.cq_equations.proofs.Causes.{placed_sum}
use Rattle.spec_numbers.proofs.Tests.{nat_eq-self}

-- the kinds after a row and a column are exchanged, and the row's quantity, now a column, is dropped
pub record IsTurned (roles : List Role) (row column : ℕ) (new : List Role) : Type 0 where
  pub drops : IsAt new row Dropped
  pub enters : (r : Row) × IsAt new column (Basic r)
  pub live : (i : ℕ) → (i ≡ row → ⊥) → (i ≡ column → ⊥) → IsAt roles i Live → IsAt new i Live
  pub dropped : (i : ℕ) → IsAt roles i Dropped → IsAt new i Dropped
  pub rows : (i : ℕ) (r : Row) → (i ≡ row → ⊥) → IsAt roles i (Basic r) → (s : Row) × IsAt new i (Basic s)
  pub back_live : (i : ℕ) → IsAt new i Live → (i ≡ column → ⊥) × IsAt roles i Live
  pub back_dropped : (i : ℕ) → IsAt new i Dropped → (i ≡ row) ⊎ IsAt roles i Dropped
  pub back_rows : (i : ℕ) (r : Row) → IsAt new i (Basic r) → (i ≡ column) ⊎ ((i ≡ row → ⊥) × ((s : Row) × IsAt roles i (Basic s)))

pub same_or_not : (i j : ℕ) → (i ≡ j) ⊎ (i ≡ j → ⊥)
same_or_not i j = go (nat_eq i j) refl
  where
    go : (b : Bool) → nat_eq i j ≡ b → (i ≡ j) ⊎ (i ≡ j → ⊥)
    go true e = inl (same_number i j e)
    go false e = inr (λ z. let t : nat_eq i j ≡ true = subst (λ k. nat_eq k j ≡ true) (sym z) (nat_eq-self j) in cc)

pub turned_is : (roles new : List Role) (n c : ℕ) (own : Row) → IsAt roles n (Basic own) → IsAt roles c Live → IsEliminated roles n c new → IsTurned roles n c new
turned_is roles new n c own at_row at_column e = record {
  drops = e.leaves;
  enters = e.enters;
  live = λ i h k w. live_on roles new i (e.others i h k) w;
  dropped = λ i w. dropped_on roles new i (e.others i (row_apart i w) (column_apart i w)) w;
  rows = λ i r h w. row_on roles new i (e.others i h (λ z. basic_apart i r w z)) (r, w);
  back_live = λ i w.
      let m : i ≡ c → ⊥ = λ z. new_column i Live z w (λ r f. cc) in
      let h : i ≡ n → ⊥ = λ z. let f : Live ≡ Dropped = at_one new n Live Dropped (subst (λ k. IsAt new k Live) z w) e.leaves in cc in
      (m, live_back roles new i (e.others i h m) w);
  back_dropped = λ i w.
      elim (same_or_not i n) [
        | inl z ↦ inl z
        | inr h ↦ inr (dropped_back roles new i (e.others i h (λ z. new_column i Dropped z w (λ r f. cc))) w)
      ];
  back_rows = λ i r w.
      elim (same_or_not i c) [
        | inl z ↦ inl z
        | inr m ↦
            let h : i ≡ n → ⊥ = λ z. let f : Basic r ≡ Dropped = at_one new n (Basic r) Dropped (subst (λ k. IsAt new k (Basic r)) z w) e.leaves in cc in
            inr (h, row_back roles new i (e.others i h m) (r, w))
      ];
}
  where
    row_apart : (i : ℕ) → IsAt roles i Dropped → i ≡ n → ⊥
    row_apart i w z = let f : Dropped ≡ Basic own = at_one roles n Dropped (Basic own) (subst (λ k. IsAt roles k Dropped) z w) at_row in cc

    column_apart : (i : ℕ) → IsAt roles i Dropped → i ≡ c → ⊥
    column_apart i w z = let f : Dropped ≡ Live = at_one roles c Dropped Live (subst (λ k. IsAt roles k Dropped) z w) at_column in cc

    basic_apart : (i : ℕ) (r : Row) → IsAt roles i (Basic r) → i ≡ c → ⊥
    basic_apart i r w z = let f : Basic r ≡ Live = at_one roles c (Basic r) Live (subst (λ k. IsAt roles k (Basic r)) z w) at_column in cc

    new_column : (i : ℕ) (s : Role) → i ≡ c → IsAt new i s → ((r : Row) → s ≡ Basic r → ⊥) → ⊥
    new_column i s z w never = never e.enters.0 (at_one new c s (Basic e.enters.0) (subst (λ k. IsAt new k s) z w) e.enters.1)

-- ---- lists of constraints

pub get_append : (l : List Constraint) (c : Constraint) (i : ℕ) → i < length l → member_at (l ++ c ∷ []) i ≡ member_at l i
get_append [] c i h = absurd (omega arith)
get_append (x ∷ l) c zero h = refl
get_append (x ∷ l) c (suc i) h = get_append l c i (omega arith)

pub get_end : (l : List Constraint) (c : Constraint) → member_at (l ++ c ∷ []) (length l) ≡ c
get_end [] c = refl
get_end (x ∷ l) c = get_end l c

pub mentions_back : (x : ℕ) (l : List Constraint) (f : Linear) → SomeMentions x (with_equation l f) → SomeMentions x l ⊎ Mentions x f.products
mentions_back x [] f (inl h) = inr h
mentions_back x [] f (inr h) = absurd h
mentions_back x (c ∷ l) f (inl h) = inl (inl h)
mentions_back x (c ∷ l) f (inr h) = elim (mentions_back x l f h) [ inl k ↦ inl (inr k) | inr k ↦ inr k ]

mentions_old : (x : ℕ) (l : List Constraint) (f : Linear) → SomeMentions x l → SomeMentions x (with_equation l f)
mentions_old x [] f h = absurd h
mentions_old x (c ∷ l) f (inl h) = inl h
mentions_old x (c ∷ l) f (inr h) = inr (mentions_old x l f h)

mentions_new : (x : ℕ) (l : List Constraint) (f : Linear) → Mentions x f.products → SomeMentions x (with_equation l f)
mentions_new x [] f h = inl h
mentions_new x (c ∷ l) f h = inr (mentions_new x l f h)

-- a quantity of the longer list is the new member's form, or one of the list
pub data Which (l : List Constraint) (f : Linear) (asked : List Linear) (q : Quantity) : Type 0 where
  new : q ≡ member (length l) → Which l f asked q
  old : (q ≡ member (length l) → ⊥) → IsQuantity l (f ∷ asked) q → Which l f asked q

pub which : (l : List Constraint) (f : Linear) (asked : List Linear) (q : Quantity) → IsQuantity (with_equation l f) asked q → Which l f asked q
which l f asked (variable x) h = old (λ e. cc) (elim h [ inl k ↦ elim (mentions_back x l f k) [ inl m ↦ inl m | inr m ↦ inr (inl m) ] | inr k ↦ inr (inr k) ])
which l f asked (member i) h = go (nat_eq i (length l)) refl
  where
    go : (b : Bool) → nat_eq i (length l) ≡ b → Which l f asked (member i)
    go true e = new (ap member (same_number i (length l) e))
    go false e =
        let n : i ≡ length l → ⊥ = λ z. let t : nat_eq i (length l) ≡ true = subst (λ k. nat_eq k (length l) ≡ true) (sym z) (nat_eq-self (length l)) in cc in
        old (λ z. let w : i ≡ length l = cc in n w) (omega (arith, h, n, length-append l (record { relation = Eq; form = f } ∷ [])))

pub kept : (l : List Constraint) (f : Linear) (asked : List Linear) (q : Quantity) → IsQuantity l (f ∷ asked) q → IsQuantity (with_equation l f) asked q
kept l f asked (variable x) (inl h) = inl (mentions_old x l f h)
kept l f asked (variable x) (inr (inl h)) = inl (mentions_new x l f h)
kept l f asked (variable x) (inr (inr h)) = inr h
kept l f asked (member i) h = omega (arith, h, length-append l (record { relation = Eq; form = f } ∷ []))

pub not_new : (l : List Constraint) (f : Linear) (asked : List Linear) (q : Quantity) → IsQuantity l (f ∷ asked) q → q ≡ member (length l) → ⊥
not_new l f asked (variable x) h e = cc
not_new l f asked (member i) h e = let w : i ≡ length l = cc in omega (arith, w, h)

pub same_amount : (l : List Constraint) (f : Linear) (asked : List Linear) (v : ℕ → ℚ) (q : Quantity) → IsQuantity l (f ∷ asked) q → amount (with_equation l f) v q ≡ amount l v q
same_amount l f asked v (variable x) h = refl
same_amount l f asked v (member i) h = ap (λ (c : Constraint). value_at v c.form) (get_append l (record { relation = Eq; form = f }) i h)

pub new_amount : (l : List Constraint) (f : Linear) (v : ℕ → ℚ) → amount (with_equation l f) v (member (length l)) ≡ value_at v f
new_amount l f v = ap (λ (c : Constraint). value_at v c.form) (get_end l (record { relation = Eq; form = f }))

-- taking one out of a list of quantities
out : (q r : Quantity) (s t : List Quantity) → Has q (s ++ r ∷ t) → (q ≡ r) ⊎ Has q (s ++ t)
out q r [] t (inl e) = inl e
out q r [] t (inr h) = inr h
out q r (x ∷ s) t (inl e) = inr (inl e)
out q r (x ∷ s) t (inr h) = elim (out q r s t h) [ inl e ↦ inl e | inr k ↦ inr (inr k) ]

back_in : (q r : Quantity) (s t : List Quantity) → Has q (s ++ t) → Has q (s ++ r ∷ t)
back_in q r [] t h = inr h
back_in q r (x ∷ s) t (inl e) = inl e
back_in q r (x ∷ s) t (inr h) = inr (back_in q r s t h)

here_in : (r : Quantity) (s t : List Quantity) → Has r (s ++ r ∷ t)
here_in r [] t = inl refl
here_in r (x ∷ s) t = inr (here_in r s t)

-- the set after one was taken out and another put in
set_swapped : (r m : Quantity) (s t g : List Quantity) → IsSet ((s ++ r ∷ t) ++ g) → (Has m ((s ++ r ∷ t) ++ g) → ⊥) → IsSet ((s ++ t) ++ m ∷ g)
set_swapped r m [] [] g h n = ((λ k. n (inr k)), h.1)
set_swapped r m [] (x ∷ t) g h n =
    ((λ k. elim (out x m t g k) [ inl e ↦ n (inr (inl (sym e))) | inr w ↦ h.1.0 w ]), set_swapped x m [] t g h.1 (λ k. n (inr k)))
set_swapped r m (x ∷ s) t g h n =
    ((λ k. elim (out x m (s ++ t) g k) [ inl e ↦ n (inl (sym e)) | inr w ↦ h.0 (more w) ]), set_swapped r m s t g h.1 (λ k. n (inr k)))
  where
    more : Has x ((s ++ t) ++ g) → Has x ((s ++ r ∷ t) ++ g)
    more w = elim (has_either x (s ++ t) g w) [ inl k ↦ has_left x (s ++ r ∷ t) g (back_in x r s t k) | inr k ↦ has_right x (s ++ r ∷ t) g k ]

not_twice : (r : Quantity) (s t g : List Quantity) → IsSet ((s ++ r ∷ t) ++ g) → Has r (s ++ t) → ⊥
not_twice r [] t g h k = h.0 (has_left r t g k)
not_twice r (x ∷ s) t g h (inl e) = h.0 (subst (λ y. Has y ((s ++ r ∷ t) ++ g)) e (has_left r (s ++ r ∷ t) g (here_in r s t)))
not_twice r (x ∷ s) t g h (inr k) = not_twice r s t g h.1 k

module _ (l : List Constraint) (f : Linear) (asked : List Linear) (roles : List Role) (place place' : Quantity → ℕ) (same_place : (q : Quantity) → IsQuantity l (f ∷ asked) q → place' q ≡ place q) (new_place : place' (member (length l)) ≡ length roles) (before : List Quantity) (q0 : Quantity) (after gone : List Quantity)
    (table : AreOverColumns roles) (d : Describes l (f ∷ asked) roles place (before ++ q0 ∷ after) gone) (solved : IsSolved l roles place gone)
    (r0 : Row) (ex : Expresses roles (λ x. f.constant +ℚ row.sum_at x (placed place f.products)) r0)
    (fresh : List Role) (table1 : AreOverColumns (roles ++ Basic r0 ∷ [])) (table3 : AreOverColumns fresh)
    (same : (x : ℕ → ℚ) → IsMet x (roles ++ Basic r0 ∷ []) ↔ IsMet x fresh) (turned : IsTurned (roles ++ Basic r0 ∷ []) (length roles) (place q0) fresh) where
  up : (i : ℕ) (s : Role) → IsAt roles i s → IsAt (roles ++ Basic r0 ∷ []) i s
  up i s h = at_append roles (Basic r0 ∷ []) i s h

  old_met : (x : ℕ → ℚ) → IsMet x (roles ++ Basic r0 ∷ []) → IsMet x roles
  old_met x m = record { rows = λ i r h. m.rows i r (up i (Basic r) h) }

  new_value : (v x : ℕ → ℚ) → IsMet x (roles ++ Basic r0 ∷ []) → Agree l (f ∷ asked) place v x → x (length roles) ≡ value_at v f
  new_value v x m a =
      m.rows (length roles) r0 (at_last roles (Basic r0)) ∙ ex.value_is x (old_met x m)
      ∙ ap (λ w. f.constant +ℚ w) (placed_sum place v x f.products (λ y h. a.same (variable y) (inr (inl h)) ∙ value_at-variable_form v y))

  agree_more : (v x : ℕ → ℚ) → IsMet x (roles ++ Basic r0 ∷ []) → Agree l (f ∷ asked) place v x → Agree (with_equation l f) asked place' v x
  agree_more v x m a = record {
    same = λ q i.
        elim (which l f asked q i) [
          | new e ↦
              ap (λ y. x (place' y)) e ∙ ap x (new_place) ∙ new_value v x m a
              ∙ sym (new_amount l f v) ∙ ap (amount (with_equation l f) v) (sym e)
          | old n h ↦ ap x (same_place q h) ∙ a.same q h ∙ sym (same_amount l f asked v q h)
        ];
  }

  forth : (v : ℕ → ℚ) → (x : ℕ → ℚ) × IsMet x fresh × Agree (with_equation l f) asked place' v x
  forth v =
      let o = d.forth v in
      let x = free (roles ++ Basic r0 ∷ []) table1 o.0 in
      let live : (c : ℕ) → is_live roles c ≡ true → x.0 c ≡ o.0 c = λ c h. x.2 c (live_at (roles ++ Basic r0 ∷ []) c Live (up c Live (role_live roles c h))) in
      let dropped : (c : ℕ) → is_dropped roles c ≡ true → x.0 c ≡ o.0 c = λ c h. x.3 c (dropped_at (roles ++ Basic r0 ∷ []) c Dropped (up c Dropped (role_dropped roles c h))) in
      let a : Agree l (f ∷ asked) place v x.0 = record {
        same = λ q i.
            elim (d.others q i) [
              | inl h ↦ elim (has_either q (before ++ q0 ∷ after) gone h) [
                | inl k ↦ live (place q) (d.live_is q k) ∙ o.2.same q i
                | inr k ↦ dropped (place q) (d.gone_is q k) ∙ o.2.same q i
              ]
              | inr r ↦
                  let t = table.rows (place q) r.0 r.1 in
                  x.1.rows (place q) r.0 (up (place q) (Basic r.0) r.1)
                  ∙ ap₂ (λ u w. r.0.constant +ℚ (u +ℚ w)) (sum_agrees (is_live roles) 0 x.0 o.0 r.0.live t.live_row live) (sum_agrees (is_dropped roles) 0 x.0 o.0 r.0.dropped t.dropped_row dropped)
                  ∙ sym (o.1.rows (place q) r.0 r.1) ∙ o.2.same q i
            ];
      } in
      (x.0, (same x.0).0 x.1, agree_more v x.0 x.1 a)

  back : (x : ℕ → ℚ) → IsMet x fresh → (v : ℕ → ℚ) × Agree (with_equation l f) asked place' v x
  back x m =
      let k = (same x).1 m in
      let v = d.back x (old_met x k) in
      (v.0, agree_more v.0 x k v.1)

  -- the columns are old columns, but for the new member's form
  class : (q : Quantity) → Has q ((before ++ after) ++ member (length l) ∷ gone) → (q ≡ member (length l)) ⊎ Has q ((before ++ q0 ∷ after) ++ gone)
  class q h =
      elim (out q (member (length l)) (before ++ after) gone h) [
        | inl e ↦ inl e
        | inr k ↦ inr (elim (has_either q (before ++ after) gone k) [ inl w ↦ has_left q (before ++ q0 ∷ after) gone (back_in q q0 before after w) | inr w ↦ has_right q (before ++ q0 ∷ after) gone w ])
      ]

  old_place : (q : Quantity) → Has q ((before ++ q0 ∷ after) ++ gone) → place' q ≡ place q
  old_place q h = same_place q (d.columns q h)

  below : (q : Quantity) → Has q ((before ++ q0 ∷ after) ++ gone) → place q < length roles
  below q h =
      elim (has_either q (before ++ q0 ∷ after) gone h) [
        | inl k ↦ at_below roles (place q) Live (role_live roles (place q) (d.live_is q k))
        | inr k ↦ at_below roles (place q) Dropped (role_dropped roles (place q) (d.gone_is q k))
      ]

  not_the_row : (q : Quantity) → Has q ((before ++ q0 ∷ after) ++ gone) → place q ≡ length roles → ⊥
  not_the_row q h e = omega (arith, below q h, e)

  new_is : (q : Quantity) → q ≡ member (length l) → place' q ≡ length roles
  new_is q e = ap place' e ∙ new_place

  apart : (q r : Quantity) → Has q ((before ++ after) ++ member (length l) ∷ gone) → Has r ((before ++ after) ++ member (length l) ∷ gone) → place' q ≡ place' r → q ≡ r
  apart q r h k e =
      elim (class q h) [
        | inl a ↦ elim (class r k) [ inl b ↦ a ∙ sym b | inr b ↦ absurd (not_the_row r b (sym (old_place r b) ∙ sym e ∙ new_is q a)) ]
        | inr a ↦ elim (class r k) [ inl b ↦ absurd (not_the_row q a (sym (old_place q a) ∙ e ∙ new_is r b)) | inr b ↦ d.apart q r a b (sym (old_place q a) ∙ e ∙ old_place r b) ]
      ]

  live_is : (q : Quantity) → Has q (before ++ after) → is_live fresh (place' q) ≡ true
  live_is q h =
      let k = back_in q q0 before after h in
      let w = has_left q (before ++ q0 ∷ after) gone k in
      let a = up (place q) Live (role_live roles (place q) (d.live_is q k)) in
      let c : place q ≡ place q0 → ⊥ = λ e. not_twice q0 before after gone d.once (subst (λ y. Has y (before ++ after)) (d.apart q q0 w (has_left q0 (before ++ q0 ∷ after) gone (here_in q0 before after)) e) h) in
      subst (λ n. is_live fresh n ≡ true) (sym (old_place q w)) (live_at fresh (place q) Live (turned.live (place q) (not_the_row q w) c a))

  gone_is : (q : Quantity) → Has q (member (length l) ∷ gone) → is_dropped fresh (place' q) ≡ true
  gone_is q (inl e) = subst (λ n. is_dropped fresh n ≡ true) (sym (new_is q e)) (dropped_at fresh (length roles) Dropped turned.drops)
  gone_is q (inr h) =
      subst (λ n. is_dropped fresh n ≡ true) (sym (old_place q (has_right q (before ++ q0 ∷ after) gone h)))
      (dropped_at fresh (place q) Dropped (turned.dropped (place q) (up (place q) Dropped (role_dropped roles (place q) (d.gone_is q h)))))

  each_live : (c : ℕ) → is_live fresh c ≡ true → (q : Quantity) × Has q (before ++ after) × (place' q ≡ c)
  each_live c h =
      let b = turned.back_live c (role_live fresh c h) in
      elim (append_back roles (Basic r0) Live c b.1) [
        | inl k ↦
            let q = d.each_live c (live_at roles c Live k) in
            elim (out q.0 q0 before after q.1) [
              | inl e ↦ absurd (b.0 (sym q.2 ∙ ap place e))
              | inr w ↦ (q.0, w, old_place q.0 (has_left q.0 (before ++ q0 ∷ after) gone q.1) ∙ q.2)
            ]
        | inr k ↦ let w = k.1 in cc
      ]

  each_gone : (c : ℕ) → is_dropped fresh c ≡ true → (q : Quantity) × Has q (member (length l) ∷ gone) × (place' q ≡ c)
  each_gone c h =
      elim (turned.back_dropped c (role_dropped fresh c h)) [
        | inl e ↦ (member (length l), inl refl, new_place ∙ sym e)
        | inr b ↦ elim (append_back roles (Basic r0) Dropped c b) [
          | inl k ↦ let q = d.each_gone c (dropped_at roles c Dropped k) in (q.0, inr q.1, old_place q.0 (has_right q.0 (before ++ q0 ∷ after) gone q.1) ∙ q.2)
          | inr k ↦ let w = k.1 in cc
        ]
      ]

  row_stays : (q : Quantity) → IsQuantity l (f ∷ asked) q → (r : Row) → IsAt roles (place q) (Basic r) → (s : Row) × IsAt fresh (place' q) (Basic s)
  row_stays q h r a =
      let b = at_below roles (place q) (Basic r) a in
      let s = turned.rows (place q) r (λ e. omega (arith, b, e)) (up (place q) (Basic r) a) in
      (s.0, subst (λ i. IsAt fresh i (Basic s.0)) (sym (same_place q h)) s.1)

  others : (q : Quantity) → IsQuantity (with_equation l f) asked q → Has q ((before ++ after) ++ member (length l) ∷ gone) ⊎ ((r : Row) × IsAt fresh (place' q) (Basic r))
  others q i =
      elim (which l f asked q i) [
        | new e ↦ inl (has_right q (before ++ after) (member (length l) ∷ gone) (inl e))
        | old n h ↦ elim (d.others q h) [
          | inl w ↦ elim (has_either q (before ++ q0 ∷ after) gone w) [
            | inl k ↦ elim (out q q0 before after k) [
              | inl e ↦ inr (turned.enters.0, subst (λ i. IsAt fresh i (Basic turned.enters.0)) (ap place (sym e) ∙ sym (same_place q h)) turned.enters.1)
              | inr k ↦ inl (has_left q (before ++ after) (member (length l) ∷ gone) k)
            ]
            | inr k ↦ inl (has_right q (before ++ after) (member (length l) ∷ gone) (inr k))
          ]
          | inr r ↦ inr (row_stays q h r.0 r.1)
        ]
      ]

  pub each_row : NoOtherRows l (f ∷ asked) roles place → (i : ℕ) (r : Row) → IsAt fresh i (Basic r) → (q : Quantity) × IsQuantity (with_equation l f) asked q × (place' q ≡ i)
  each_row known i r h =
      elim (turned.back_rows i r h) [
        | inl e ↦
            let w = has_left q0 (before ++ q0 ∷ after) gone (here_in q0 before after) in
            (q0, kept l f asked q0 (d.columns q0 w), old_place q0 w ∙ sym e)
        | inr b ↦ elim (append_back roles (Basic r0) (Basic b.1.0) i b.1.1) [
          | inl k ↦ let q = known i b.1.0 k in (q.0, kept l f asked q.0 q.1, same_place q.0 q.1 ∙ q.2)
          | inr k ↦ absurd (b.0 k.0)
        ]
      ]

  longer : length (with_equation l f) ≡ length l + 1
  longer = length-append l (record { relation = Eq; form = f } ∷ [])

  new_not_old : Has (member (length l)) ((before ++ q0 ∷ after) ++ gone) → ⊥
  new_not_old h = not_new l f asked (member (length l)) (d.columns (member (length l)) h) refl

  pub describes : Describes (with_equation l f) asked fresh place' (before ++ after) (member (length l) ∷ gone)
  describes = record {
    forth = forth;
    back = back;
    columns = λ q h. elim (class q h) [ inl e ↦ subst (IsQuantity (with_equation l f) asked) (sym e) (omega (arith, longer)) | inr k ↦ kept l f asked q (d.columns q k) ];
    once = set_swapped q0 (member (length l)) before after gone d.once new_not_old;
    apart = apart;
    live_is = live_is;
    gone_is = gone_is;
    each_live = each_live;
    each_gone = each_gone;
    others = others;
  }

  old_member : (i : ℕ) → i < length l → (r : Row) × IsAt roles (place (member i)) (Basic r) × (r.live ≡ []) × (r.constant ≡ 0ℚ) →
      (s : Row) × IsAt fresh (place' (member i)) (Basic s) × (s.live ≡ []) × (s.constant ≡ 0ℚ)
  old_member i h r =
      let b = at_below roles (place (member i)) (Basic r.0) r.1 in
      let s = turned.rows (place (member i)) r.0 (λ e. omega (arith, b, e)) (up (place (member i)) (Basic r.0) r.1) in
      let o = table.rows (place (member i)) r.0 r.1 in
      let er : Expresses fresh (λ x. x (place (member i))) r.0 = record {
        over = record {
          live_row = subst (row.IsRowFrom (is_live fresh) 0) (sym r.2) tt;
          dropped_row = row_weaker (is_dropped roles) (is_dropped fresh) 0 r.0.dropped (λ c k. dropped_at fresh c Dropped (turned.dropped c (up c Dropped (role_dropped roles c k)))) o.dropped_row;
        };
        value_is = λ x m. sym (((same x).1 m).rows (place (member i)) r.0 (up (place (member i)) (Basic r.0) r.1));
      } in
      let es : Expresses fresh (λ x. x (place (member i))) s.0 = record { over = table3.rows (place (member i)) s.0 s.1; value_is = λ x m. sym (m.rows (place (member i)) s.0 s.1) } in
      let n = same_numbers fresh table3 (λ x. x (place (member i))) s.0 r.0 es er in
      let p = same_place (member i) h in
      (s.0, subst (λ j. IsAt fresh j (Basic s.0)) (sym p) s.1, n.live ∙ r.2, n.constant ∙ r.3)

  pub still_solved : IsSolved (with_equation l f) fresh place' (member (length l) ∷ gone)
  still_solved = record {
    equations = λ i h. elim (which l f asked (member i) h) [
      | new e ↦ let w : i ≡ length l = cc in ap (λ j. (member_at (with_equation l f) j).relation) w ∙ ap (λ (c : Constraint). c.relation) (get_end l (record { relation = Eq; form = f }))
      | old n k ↦ ap (λ (c : Constraint). c.relation) (get_append l (record { relation = Eq; form = f }) i k) ∙ solved.equations i k
    ];
    members = λ i h. elim (which l f asked (member i) h) [
      | new e ↦ inl (inl e)
      | old n k ↦ elim (solved.members i k) [ inl g ↦ inl (inr g) | inr r ↦ inr (old_member i k r) ]
    ];
    only = λ q h. elim h [
      | inl e ↦ (length l, omega (arith, longer), e)
      | inr k ↦ let m = solved.only q k in (m.0, omega (arith, m.1, longer), m.2)
    ];
  }

-- one more row over the table's columns keeps it a table
pub append_table : (roles : List Role) (r0 : Row) → AreOverColumns roles → IsOver (is_live roles) (is_dropped roles) r0 → AreOverColumns (roles ++ Basic r0 ∷ [])
append_table roles r0 t o = record {
  rows = λ i r h.
      elim (append_back roles (Basic r0) (Basic r) i h) [
        | inl k ↦ wider r (t.rows i r k)
        | inr k ↦ let e : r ≡ r0 = let w = k.1 in cc in wider r (subst (λ (z : Row). IsOver (is_live roles) (is_dropped roles) z) (sym e) o)
      ];
}
  where
    wider : (r : Row) → IsOver (is_live roles) (is_dropped roles) r → IsOver (is_live (roles ++ Basic r0 ∷ [])) (is_dropped (roles ++ Basic r0 ∷ [])) r
    wider r o = record {
      live_row = row_weaker (is_live roles) (is_live (roles ++ Basic r0 ∷ [])) 0 r.live (λ c k. live_at (roles ++ Basic r0 ∷ []) c Live (at_append roles (Basic r0 ∷ []) c Live (role_live roles c k))) o.live_row;
      dropped_row = row_weaker (is_dropped roles) (is_dropped (roles ++ Basic r0 ∷ [])) 0 r.dropped (λ c k. dropped_at (roles ++ Basic r0 ∷ []) c Dropped (at_append roles (Basic r0 ∷ []) c Dropped (role_dropped roles c k))) o.dropped_row;
    }
