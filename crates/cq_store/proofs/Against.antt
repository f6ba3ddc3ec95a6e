-- What an equation refutes whose form is below zero, or above, at each solution of the told list: by a certificate that is read off its
-- row, or by one that is sought.
use Rattle.std.proofs.Common.{◌≡◌, ℕ, suc, ◌+◌, List, [], ◌∷◌, ◌++◌, length, Bool, true, Option, None, Some, inl, inr, add-one, refl, ap, sym, subst, ◌∙◌}
use Rattle.std.specs.Prelude.{IfSome, IsSomeAnd}
use Rattle.std.specs.List.{AllByRecursion}
use Rattle.spec_numbers.specs.Rational.{ℚ, 0ℚ, 1ℚ, neg_ℚ, ◌<ℚ◌, IsPositive}
use Rattle.spec_numbers.specs.Sums.{Mentions}
use Rattle.spec_linear.specs.declared.Relation.{Relation}
use Rattle.spec_linear.specs.declared.Relation.TheVariants.{Eq, Ne}
use Rattle.spec_linear.specs.Form.{Linear, negated_form}
use Rattle.spec_linear.specs.Solution.{Constraint}
use Rattle.spec_linear.specs.Certificate.{member, Allows, IsAllowed, Refutes}
use Rattle.spec_simplex.specs.Asked.{NoQuestion, alone, of_joining, negated}
use Rattle.spec_simplex.specs.Entries.{entries, row_entries, AllNumbered}
use Rattle.spec_simplex.specs.Tableau.{IsWritten}
use Rattle.spec_simplex.proofs.Certificate.{once_refutes, equation_refutes}
use Rattle.cq_form.specs.Entries.{products_of}
use Rattle.cq_frac.specs.declared.Pair.{Pair}
use Rattle.cq_frac.specs.declared.row.Entry.{Entry}
use Rattle.cq_frac.specs.Row.{Row}
use Rattle.cq_frac.specs.Rows as rows
use Rattle.cq_dict.specs.declared.table.Role.{Role}
use Rattle.cq_dict.specs.declared.table.Role.TheVariants.{Basic}
use Rattle.cq_dict.specs.Roles.{Quantities, IsAt, is_dropped, is_restricted, role_at}
use Rattle.cq_dict.proofs.Roles.{at_below, role_is}
use Rattle.cq_tableau.specs.declared.names.Name.{Name}
use Rattle.cq_tableau.specs.Forms.{form_at, tableau, row_of}
use Rattle.cq_tableau.specs.Refuted.{number_in, IsRowCertificate}
use Rattle.cq_tableau.specs.Restored.{AsksGreatest, AreFormEntries, IsFormCertificate, RefusesFormEntries, SpendsFormEntries}
use Rattle.cq_tableau.specs.Stored.{IsKnown, IsStored}
use Rattle.cq_tableau.proofs.Certified.{all_numbered, live_all}
use Rattle.cq_tableau.proofs.Storing.{told_more, last_told}
use Rattle.cq_tableau.proofs.Tied.{entry_live}
use Rattle.cq_tableau.proofs.Weights.{Weighs, form_weighs}
use Rattle.cq_tableau.specs.Levelled.{HoldBelow, HoldAbove}
use Rattle.cq_tableau.specs.Turned.{opposite_row, turned}
use Rattle.cq_tableau.proofs.Turned.{turned_at}
use Rattle.cq_store.specs.Equated.{IsRowBehind, StaysBelow, IsShortBelow, IsShortAbove, IsOppositeCertificate, IsOppositeRowCertificate}
use Rattle.cq_store.specs.StoreValue.{MayRefuse, MayTake, Only, in_force}
use Rattle.cq_store.proofs.Approach.{negated_mentions, negative_below, below_entry, above_entry, own_form, restricted_form, dropped_form, opposite_speaks}
use Rattle.cq_store.proofs.Equations.{form_here}
use Rattle.cq_store.proofs.Moments.{between_of}
use Rattle.cq_store.proofs.Refusals.{form_entries_refused, form_entries_spent}

not_apart : (r : Relation) → r ≡ Eq → r ≡ Ne → ⊥
not_apart r a b = cc

-- ---- the equation, once or -1 times, and what holds its form, or the form's negative, below zero
module _ (told : List Constraint) (number : ℕ → ℕ) (c : Constraint) (i : c.relation ≡ Eq) (v : ℚ) (found : List (ℕ × ℚ)) (own : ℕ) (num : own ≡ length told + 1) (cert : List (ℕ × ℚ)) where
  falls_below : Weighs (told ++ c ∷ []) number c.form v found → v <ℚ 0ℚ → cert ≡ (own, 1ℚ) ∷ found → Refutes cert (told ++ c ∷ [])
  falls_below w below e =
      subst (λ y. Refutes y (told ++ c ∷ [])) (ap (λ t. (suc (length told), 1ℚ) ∷ t) w.is ∙ ap (λ j. (j, 1ℚ) ∷ found) (sym (num ∙ add-one (length told))) ∙ sym e)
      (once_refutes (told ++ c ∷ []) w.table number w.written c.form w.place w.numbered (suc (length told)) c (last_told told c) refl (not_apart c.relation i)
      (inl (subst (λ x. x <ℚ 0ℚ) (sym w.constant) below)))

  falls_above : Weighs (told ++ c ∷ []) number (negated_form c.form) v found → v <ℚ 0ℚ → cert ≡ (own, neg_ℚ 1ℚ) ∷ found → Refutes cert (told ++ c ∷ [])
  falls_above w below e =
      subst (λ y. Refutes y (told ++ c ∷ []))
      (ap (λ t. (suc (length told), neg_ℚ 1ℚ) ∷ t) w.is ∙ ap (λ j. (j, neg_ℚ 1ℚ) ∷ found) (sym (num ∙ add-one (length told))) ∙ sym e)
      (equation_refutes (told ++ c ∷ []) w.table number w.written c.form w.place w.numbered (suc (length told))
      (last_told told c ∙ ap (λ r. Some (record { relation = r; form = c.form })) i)
      (inl (subst (λ x. x <ℚ 0ℚ) (sym w.constant) below)))

-- ---- a certificate that is sought
module _ (told : List Constraint) (names : List Name) (q : Quantities) (s : IsStored told names q) (c : Constraint) (knows : (x : ℕ) → Mentions x c.form.products → IsKnown names x) where
  weighs : (f : Linear) (h : StaysBelow told f) (found : List (ℕ × ℚ)) → AreFormEntries names q f found → Weighs (told ++ c ∷ []) (number_in names) f h.value found
  weighs f h found x = form_weighs told (told ++ c ∷ []) (told_more told c) names q (between_of told names q s) f found x h.value h.greatest

  -- ---- below zero
  pub asks_below : StaysBelow told c.form → AsksGreatest names q c.form
  asks_below h = record { list = told; between = between_of told names q s; known = knows; value = h.value; greatest = h.greatest }

  pub below_refutes : c.relation ≡ Eq → StaysBelow told c.form → (number : ℕ) → number ≡ length told + 1 → (cert : List (ℕ × ℚ)) → IsFormCertificate names q c.form number cert
      → Refutes cert (told ++ c ∷ [])
  below_refutes i h number num cert x =
      falls_below told (number_in names) c i h.value x.found number num cert (weighs c.form h x.found x.entries) h.below x.is

  pub below_refused : (pair : Pair) → RefusesFormEntries names q c.form pair → MayRefuse told (Only c) NoQuestion pair
  below_refused pair r =
      form_entries_refused told names q (between_of told names q s) c.form knows told (Only c) NoQuestion (in_force alone) (of_joining c refl) pair r

  pub below_spent : (n : ℕ) → SpendsFormEntries names q c.form n → MayTake told (Only c) NoQuestion n
  below_spent n r = form_entries_spent told names q (between_of told names q s) c.form knows told (Only c) NoQuestion (in_force alone) (of_joining c refl) n r

  -- ---- above zero: the negative is below
  knows_opposite : (x : ℕ) → Mentions x (negated_form c.form).products → IsKnown names x
  knows_opposite x m = knows x (negated_mentions x c.form.products m)

  pub asks_above : StaysBelow told (negated_form c.form) → AsksGreatest names q (negated_form c.form)
  asks_above h = record { list = told; between = between_of told names q s; known = knows_opposite; value = h.value; greatest = h.greatest }

  pub above_refutes : c.relation ≡ Eq → StaysBelow told (negated_form c.form) → (number : ℕ) → number ≡ length told + 1 → (cert : List (ℕ × ℚ))
      → IsOppositeCertificate names q c.form number cert → Refutes cert (told ++ c ∷ [])
  above_refutes i h number num cert x =
      falls_above told (number_in names) c i h.value x.found number num cert (weighs (negated_form c.form) h x.found x.falls) h.below x.is

  pub above_refused : (pair : Pair) → RefusesFormEntries names q (negated_form c.form) pair → MayRefuse told (Only c) NoQuestion pair
  above_refused pair r =
      form_entries_refused told names q (between_of told names q s) (negated_form c.form) knows_opposite told (Only c) NoQuestion (in_force alone)
      (negated c.form (of_joining c refl)) pair r

  pub above_spent : (n : ℕ) → SpendsFormEntries names q (negated_form c.form) n → MayTake told (Only c) NoQuestion n
  above_spent n r =
      form_entries_spent told names q (between_of told names q s) (negated_form c.form) knows_opposite told (Only c) NoQuestion (in_force alone)
      (negated c.form (of_joining c refl)) n r

-- ---- a certificate that is read off the row
of_negated : (P : ℕ → Type 0) (t : List Entry) → ((m : Entry) → rows.Has m t → P m.quantity) → (m : Entry) → rows.Has m (rows.negated t) → P m.quantity
of_negated P [] h m z = absurd z
of_negated P (n ∷ t) h m (inl e) = subst (λ (y : Entry). P y.quantity) (sym e) (h n (inl refl))
of_negated P (n ∷ t) h m (inr z) = of_negated P t (λ y k. h y (inr k)) m z

row_weighs : (l : List Constraint) (number : ℕ → ℕ) (roles : List Role) (flags : List Bool) (forms : List Linear) → IsWritten (tableau roles flags forms)
    → (f : Linear) (q : ℕ) → form_at forms q ≡ f → (own : Row) → IsAt roles q (Basic own) → AllNumbered (tableau roles flags forms) l number (products_of own.live)
    → AllNumbered (tableau roles flags forms) l number (products_of own.dropped)
    → Weighs l number f own.constant (entries number (products_of own.live) ++ entries number (products_of own.dropped))
row_weighs l number roles flags forms w f q e own at a z =
    let here : row_of q (Basic own) ≡ row_of q (role_at roles q) = ap (row_of q) (sym (role_is roles q (Basic own) at)) in
    record {
      table = tableau roles flags forms;
      written = w;
      place = record { quantity = q; made = at_below roles q (Basic own) at; form_is = e };
      numbered = record {
        live = subst (λ r. AllNumbered (tableau roles flags forms) l number r.live) here a;
        dropped = subst (λ r. AllNumbered (tableau roles flags forms) l number r.dropped) here z;
      };
      constant = ap (λ r. r.constant) (sym here);
      is = ap (row_entries number) (sym here);
    }

module _ (told : List Constraint) (names : List Name) (c : Constraint) (roles : List Role) (flags : List Bool) (q : ℕ) (b : IsRowBehind told names c roles flags q) (equation : c.relation ≡ Eq)
    (own : Row) (at : IsAt roles q (Basic own)) (cert : List (ℕ × ℚ)) where
  numbered : (t : List Entry) → AllByRecursion (IsAllowed told) (entries (number_in names) (products_of t))
      → AllNumbered (tableau roles flags (b.stored.forms ++ c.form ∷ [])) (told ++ c ∷ []) (number_in names) (products_of t)
  numbered t a = all_numbered told names b.before b.stored c roles flags b.flags_are t a

  held : (t : List Entry) → ((m : Entry) → rows.Has m (rows.negated t) → IsPositive m.factor × (is_restricted flags m.quantity ≡ true))
      → AllNumbered (tableau roles flags (b.stored.forms ++ c.form ∷ [])) (told ++ c ∷ []) (number_in names) (products_of t)
  held t h = numbered t (live_all told names b.before b.stored c roles flags b.flags_are t (λ m k. (h m k).0) (λ m k. (h m k).1))

  row_below_refutes : HoldBelow flags own → IsRowCertificate told names (length told + 1) own cert → Refutes cert (told ++ c ∷ [])
  row_below_refutes h x =
      falls_below told (number_in names) c equation own.constant (entries (number_in names) (products_of own.live) ++ entries (number_in names) (products_of own.dropped))
      (length told + 1) refl cert
      (row_weighs (told ++ c ∷ []) (number_in names) roles flags (b.stored.forms ++ c.form ∷ []) b.keeps.invariant.sound.written c.form q
      (form_here told names c roles flags q b) own at (held own.live (below_entry flags own.live h.1)) (numbered own.dropped x.allowed))
      h.0 x.is

  -- the form's negative has the row with the other sign, over the same columns
  opposite_numbered : (t : List Entry) → ((m : Entry) → rows.Has m t → form_at (b.stored.forms ++ negated_form c.form ∷ []) m.quantity ≡ form_at (b.stored.forms ++ c.form ∷ []) m.quantity)
      → AllNumbered (tableau roles flags (b.stored.forms ++ c.form ∷ [])) (told ++ c ∷ []) (number_in names) (products_of t)
      → AllNumbered (tableau (turned roles q) flags (b.stored.forms ++ negated_form c.form ∷ [])) (told ++ c ∷ []) (number_in names) (products_of t)
  opposite_numbered [] e a = tt
  opposite_numbered (m ∷ t) e a = (
    subst (λ f. IsSomeAnd (member (told ++ c ∷ []) (number_in names m.quantity)) (λ k. (k.form ≡ f) × Allows k.relation (neg_ℚ m.factor))) (sym (e m (inl refl))) a.0,
    opposite_numbered t (λ y z. e y (inr z)) a.1,
  )

  row_above_refutes : HoldAbove flags own → IsOppositeRowCertificate told names (length told + 1) own cert → Refutes cert (told ++ c ∷ [])
  row_above_refutes h x =
      let d : (m : Entry) → rows.Has m own.dropped → is_dropped roles m.quantity ≡ true =
      λ m z. entry_live (is_dropped roles) 0 own.dropped (b.keeps.table.rows q own at).dropped_row m z in
      falls_above told (number_in names) c equation (neg_ℚ own.constant)
      (entries (number_in names) (products_of (rows.negated own.live)) ++ entries (number_in names) (products_of (rows.negated own.dropped))) (length told + 1) refl cert
      (row_weighs (told ++ c ∷ []) (number_in names) (turned roles q) flags (b.stored.forms ++ negated_form c.form ∷ [])
      (opposite_speaks told names c roles flags q b).sound.written (negated_form c.form) q (own_form told names c roles flags q b) (opposite_row own)
      (turned_at roles q (Basic own) at)
      (opposite_numbered (rows.negated own.live)
      (λ m z. restricted_form told names c roles flags q b m.quantity (of_negated (λ y. is_restricted flags y ≡ true) own.live (λ y k. (h.1 y k).1) m z))
      (held (rows.negated own.live) (above_entry flags own.live h.1)))
      (opposite_numbered (rows.negated own.dropped)
      (λ m z. dropped_form told names c roles flags q b m.quantity (of_negated (λ y. is_dropped roles y ≡ true) own.dropped d m z))
      (numbered (rows.negated own.dropped) x.allowed)))
      (negative_below own.constant h.0) x.is

module _ (told : List Constraint) (names : List Name) (c : Constraint) (roles : List Role) (flags : List Bool) (q : ℕ) (equation : c.relation ≡ Eq) where
  pub read_below : IsShortBelow told names c roles flags q → (o : Option (List (ℕ × ℚ)))
      → IfSome o (λ cert. (own : Row) → IsAt roles q (Basic own) → IsRowCertificate told names (length told + 1) own cert) → IfSome o (λ cert. Refutes cert (told ++ c ∷ []))
  read_below s None x = tt
  read_below s (Some cert) x =
      let r = s.behind.row in row_below_refutes told names c roles flags q s.behind equation r.0 r.1 cert s.held (x r.0 r.1)

  pub read_above : IsShortAbove told names c roles flags q → (o : Option (List (ℕ × ℚ)))
      → IfSome o (λ cert. (own : Row) → IsAt roles q (Basic own) → IsOppositeRowCertificate told names (length told + 1) own cert) → IfSome o (λ cert. Refutes cert (told ++ c ∷ []))
  read_above s None x = tt
  read_above s (Some cert) x =
      let r = s.behind.row in row_above_refutes told names c roles flags q s.behind equation r.0 r.1 cert s.held (x r.0 r.1)
