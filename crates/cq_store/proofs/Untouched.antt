-- An elimination leaves the rows that do not hold its column as they are: no variable of theirs gets a value, and no disequation of
-- theirs falls.
use Rattle.std.proofs.Common.{◌≡◌, ℕ, ◌+◌, ◌<◌, List, [], ◌∷◌, ◌++◌, length, Bool, true, Option, None, Some, inl, inr, arith, refl, ap, sym, subst, ◌∙◌}
use Rattle.std.specs.Prelude.{slice_get, slice_index, MatchOption}
use Rattle.std.specs.List.{Contains}
use Rattle.std.proofs.lemmas.List.{get_or_default}
use Rattle.std.proofs.lemmas.Option.{slice_get_within, same_Some}
use Rattle.spec_numbers.specs.Rational.{ℚ, 0ℚ}
use Rattle.spec_linear.specs.declared.Relation.{Relation}
use Rattle.spec_linear.specs.Form.{value_at}
use Rattle.spec_linear.specs.Solution.{Constraint}
use Rattle.spec_simplex.specs.Reach.{IsFlat, Moves, Stands}
use Rattle.spec_simplex.specs.Tableau.{Within, IsNothing}
use Rattle.spec_simplex.proofs.TableauWritten.{nothing_is}
use Rattle.cq_form.specs.Entries.{products_of}
use Rattle.cq_frac.specs.declared.VarId.{VarId}
use Rattle.cq_frac.specs.declared.row.Entry.{Entry}
use Rattle.cq_frac.specs.Row.{Row}
use Rattle.cq_frac.specs.Rows.{Has, IsRowFrom}
use Rattle.cq_dict.specs.declared.table.Role.{Role}
use Rattle.cq_dict.specs.declared.table.Role.TheVariants.{Dropped, Basic}
use Rattle.cq_dict.specs.Roles.{IsAt, IsRow, AreOverColumns, HasEntry, IsOfOneKind, IsEliminated, SameNumbers, is_live, is_dropped}
use Rattle.cq_dict.specs.Dict.{SameMeaning}
use Rattle.cq_dict.specs.Holders.{AreTouched}
use Rattle.cq_dict.proofs.Free.{same_numbers}
use Rattle.cq_dict.proofs.Held.{contains_or_not}
use Rattle.cq_dict.proofs.Roles.{at_below, dropped_at, role_is, live_on, dropped_on, row_on}
use Rattle.cq_tableau.specs.declared.names.Name.{Name}
use Rattle.cq_tableau.specs.declared.names.Name.TheVariants.{Variable}
use Rattle.cq_tableau.specs.Fixing.{AreOpenAmong}
use Rattle.cq_tableau.specs.Forms.{row_of, form_at, tableau}
use Rattle.cq_tableau.specs.Looked.{IsApart}
use Rattle.cq_tableau.specs.Stored.{IsMemberOf}
use Rattle.cq_tableau.specs.Values.{IsOpen, IsNumber, open_row, open_column, number_row, dropped_column}
use Rattle.cq_tableau.proofs.Tied.{entry_live}
use Rattle.cq_tableau.proofs.Steps.{form_more}
use Rattle.cq_store.specs.Equated.{IsRowBehind}
use Rattle.cq_tableau.specs.Faced.{IsNotZero, AllApart, AllApartAmong}
use Rattle.cq_store.proofs.Alone.{state}
use Rattle.cq_store.proofs.Equations.{live_still, still_dropped, roles_size}
use Rattle.cq_store.proofs.Stays.{Covers}
use Rattle.cq_store.proofs.Stops.{has_member}

-- entries whose columns pass another test
row_here : (p r : ℕ → Bool) (lo : ℕ) (s : List Entry) → IsRowFrom p lo s → ((m : Entry) → Has m s → r m.quantity ≡ true) → IsRowFrom r lo s
row_here p r lo [] h k = tt
row_here p r lo (m ∷ s) h k = (h.0, k m (inl refl), h.2, row_here p r (m.quantity + 1) s h.3 (λ n g. k n (inr g)))

-- ---- a quantity that does not hold the column
module _ (old new : List Role) (r c : ℕ) (entry : HasEntry old r c) (x : IsEliminated old r c new) (same : SameMeaning old new) (old_table : AreOverColumns old) (table : AreOverColumns new)
    (touched : List ℕ) (t : AreTouched old c touched) (z : ℕ) (away : Contains touched z → ⊥) where
  leaving : IsRow old r
  leaving = (entry.own, entry.is_row)

  entering_live : is_live old c ≡ true
  entering_live = entry_live (is_live old) 0 entry.own.live (old_table.rows r entry.own entry.is_row).live_row (record { quantity = c; factor = entry.factor }) entry.in_row

  not_leaving : z ≡ r → ⊥
  not_leaving e = away (subst (Contains touched) (sym e) (t.all r entry.own entry.is_row (record { quantity = c; factor = entry.factor }, inl entry.in_row, refl)))

  not_entering : z ≡ c → ⊥
  not_entering e = away (subst (Contains touched) (sym e) t.own)

  kind : IsOfOneKind old new z
  kind = x.others z not_leaving not_entering

  row_now : IsRow old z → IsRow new z
  row_now = row_on old new z kind

  module _ (own : Row) (at : IsAt old z (Basic own)) where
    live_there : (m : Entry) → Has m own.live → is_live new m.quantity ≡ true
    live_there m h =
        live_still old new r c leaving entering_live x m.quantity (entry_live (is_live old) 0 own.live (old_table.rows z own at).live_row m h)
        (λ e. away (t.all z own at (m, inl h, e)))

    dropped_there : (m : Entry) → Has m own.dropped → is_dropped new m.quantity ≡ true
    dropped_there m h =
        still_dropped old new r c leaving entering_live x m.quantity (entry_live (is_dropped old) 0 own.dropped (old_table.rows z own at).dropped_row m h)

    -- the old row gives its value among the new ones too, and one row alone does
    numbers_stay : SameNumbers (row_now (own, at)).0 own
    numbers_stay =
        let now = row_now (own, at) in
        let o = old_table.rows z own at in
        same_numbers new table (λ y. y z) now.0 own
        (record { over = table.rows z now.0 now.1; value_is = λ y m. sym (m.rows z now.0 now.1) })
        (record {
          over = record {
            live_row = row_here (is_live old) (is_live new) 0 own.live o.live_row live_there;
            dropped_row = row_here (is_dropped old) (is_dropped new) 0 own.dropped o.dropped_row dropped_there;
          };
          value_is = λ y m. sym (((same y).1 m).rows z own at);
        })

  pub open_still : IsOpen old z → IsOpen new z
  open_still (open_row own m rest at e) = let now = row_now (own, at) in open_row now.0 m rest now.1 ((numbers_stay own at).live ∙ e)
  open_still (open_column at) = open_column (live_on old new z kind at)

  number_still : (v : ℚ) → IsNumber old z v → IsNumber new z v
  number_still v (number_row own at e i) = let now = row_now (own, at) in number_row now.0 now.1 ((numbers_stay own at).live ∙ e) (i ∙ sym (numbers_stay own at).constant)
  number_still v (dropped_column at i) = dropped_column (dropped_on old new z kind at) i

  pub not_zero_still : IsNotZero old z → IsNotZero new z
  not_zero_still (inl h) = inl (open_still h)
  not_zero_still (inr h) = inr (h.0, number_still h.0 h.1, h.2)

-- ---- the disequations stand before
module _ (told : List Constraint) (names : List Name) (c : Constraint) (roles : List Role) (flags : List Bool) (q : ℕ) (b : IsRowBehind told names c roles flags q) where
  number_flat : (z : ℕ) (v : ℚ) → IsNumber roles z v → v ≡ 0ℚ → IsFlat (Within (tableau roles flags (b.stored.forms ++ c.form ∷ []))) (form_at (b.stored.forms ++ c.form ∷ []) z)
  number_flat z v (number_row own at e k) n w i =
      nothing_is (tableau roles flags (b.stored.forms ++ c.form ∷ [])) b.keeps.invariant.sound.written z (at_below roles z (Basic own) at)
      (subst (λ t. IsNothing (row_of z t)) (sym (role_is roles z (Basic own) at)) (record { constant = sym k ∙ n; live = ap products_of e })) w i
  number_flat z v (dropped_column at k) n w i = i z (dropped_at roles z Dropped at)

  member_below : (z : ℕ) → IsMemberOf IsApart told names z → z < length b.stored.forms
  member_below z m = subst (λ y. z < y) (b.stored.size ∙ sym b.stored.keeps.describes.size) (slice_get_within names _ _ m.named)

  member_form : (z : ℕ) (m : IsMemberOf IsApart told names z) → form_at (b.stored.forms ++ c.form ∷ []) z ≡ m.constraint.form
  member_form z m =
      let w = b.stored.members z m.number m.named in
      form_more b.stored.forms c.form z (member_below z m) ∙ sym w.form_is ∙ ap (λ (t : Constraint). t.form) (same_Some w.constraint m.constraint (sym w.told_at ∙ m.told_at))

  pub apart_before : (z : ℕ) → IsMemberOf IsApart told names z → IsNotZero roles z
  apart_before z m = elim (state roles z below_roles) [
    | inl o ↦ inl o
    | inr n ↦ inr (n.0, n.1, λ e. moving.apart (ap (value_at moving.at) (sym (member_form z m)) ∙ number_flat z n.0 n.1 e moving.at moving.inside))
  ]
    where
      below_roles : z < length roles
      below_roles =
          let l = member_below z m in let d = b.stored.keeps.describes.size in let y = roles_size told names c roles flags q b in omega (arith, l, d, y)

      moving : Moves (Within (tableau roles flags (b.stored.forms ++ c.form ∷ []))) m.constraint.form
      moving =
          subst (λ (r : Relation). Stands (Within (tableau roles flags (b.stored.forms ++ c.form ∷ []))) told r m.constraint.form) m.relation_is
          (b.keeps.invariant.stands m.constraint (has_member told m.number m.constraint m.told_at))

-- what a list contains stands at a place
place_in : (rows : List ℕ) (z : ℕ) → Contains rows z → (k : ℕ) × (k < length rows) × (slice_index rows k ≡ z)
place_in rows z h = (h.0, h.1, get_or_default rows h.0 0 z h.1 ∙ h.2)

-- ---- what was looked at is enough
module _ (told : List Constraint) (names : List Name) (c : Constraint) (roles : List Role) (flags : List Bool) (q column : ℕ) (b : IsRowBehind told names c roles flags q)
    (entry : HasEntry roles q column) (new : List Role) (x : IsEliminated roles q column new) (same : SameMeaning roles new) (table : AreOverColumns new)
    (touched : List ℕ) (t : AreTouched roles column touched) where
  pub all_apart : AllApartAmong touched told names new → AllApart told names new
  all_apart a z l m = elim (contains_or_not touched z) [
    | inl h ↦
        let p = place_in touched z h in
        subst (IsNotZero new) p.2 (a p.0 p.1 (subst (IsMemberOf IsApart told names) (sym p.2) m))
    | inr n ↦ not_zero_still roles new q column entry x same b.keeps.table table touched t z n (apart_before told names c roles flags q b z m)
  ]

  pub fallen_all : (fallen : Option ℕ) → MatchOption fallen (AllApartAmong touched told names new) (λ z. IsMemberOf IsApart told names z × IsNumber new z 0ℚ)
      → MatchOption fallen (AllApart told names new) (λ z. IsMemberOf IsApart told names z × IsNumber new z 0ℚ)
  fallen_all None a = all_apart a
  fallen_all (Some z) h = h

  pub covers_touched : (xs : List VarId) → AreOpenAmong touched names roles (length touched) xs → Covers names roles new xs
  covers_touched xs a = record {
    once = a.once;
    each = λ y h. let r = a.each y h in (slice_index touched r.0, slice_get_within names _ _ r.2.0, r.2);
    all = λ n y l e. elim (contains_or_not touched n) [
      | inl h ↦
          let p = place_in touched n h in
          elim (a.all p.0 y p.1 (subst (λ i. slice_get names i ≡ Some (Variable y)) (sym p.2) e)) [
            | inl g ↦ inl g
            | inr g ↦ inr (inl (g.0, subst (λ i. IsNumber roles i g.0) p.2 g.1))
          ]
      | inr k ↦ elim (state roles n (below_roles n l)) [
        | inl o ↦ inr (inr (open_still roles new q column entry x same b.keeps.table table touched t n k o))
        | inr v ↦ inr (inl v)
      ]
    ];
  }
    where
      below_roles : (n : ℕ) → n < length names → n < length roles
      below_roles n l = let s = b.stored.size in let y = roles_size told names c roles flags q b in omega (arith, l, s, y)
