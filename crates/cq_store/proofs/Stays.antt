-- A weak inequality whose form is zero everywhere is stored, where each other member stands still.
use Rattle.std.proofs.Common.{◌≡◌, ℕ, zero, suc, ◌+◌, ◌<◌, List, [], ◌∷◌, ◌++◌, length, Bool, true, false, Some, ◌⊎◌, inl, inr, pos, arith, length-append, add-one, refl, ap, sym, subst, ◌∙◌}
use Rattle.std.specs.Prelude.{slice_get, slice_set}
use Rattle.std.proofs.lemmas.Option.{same_Some, slice_get_within}
use Rattle.spec_numbers.proofs.Tests.{nat_eq-self}
use Rattle.spec_numbers.proofs.Places.{get_push}
use Rattle.spec_numbers.specs.Rational.{ℚ, 0ℚ, 1ℚ, ◌+ℚ◌}
use Rattle.spec_numbers.specs.Sums.{Mentions, factor_of, when}
use Rattle.spec_numbers.proofs.Ring.{int, ◌⊕◌}
use Rattle.spec_numbers.proofs.RationalLemmas.{ring}
use Rattle.spec_numbers.proofs.Sign.{one_not_zero}
use Rattle.spec_linear.specs.declared.Relation.{Relation}
use Rattle.spec_linear.specs.declared.Relation.TheVariants.{Eq, Gt, Ge, Ne}
use Rattle.spec_linear.specs.Form.{Linear, variable_form}
use Rattle.spec_linear.specs.Solution.{Constraint, Has, Fixed}
use Rattle.spec_linear.specs.Certificate.{member}
use Rattle.spec_linear.specs.Weak.{at_least_zero}
use Rattle.spec_projection.specs.Elimination.{IsInequality}
use Rattle.spec_simplex.specs.Reach.{Rises, IsFlat, Moves, Again}
use Rattle.spec_simplex.specs.Tableau.{Within, IsSomething, by_constant, by_entry, Place}
use Rattle.spec_simplex.proofs.Steps.{joined_again}
use Rattle.spec_simplex.proofs.Members.{sound_there, told_last}
use Rattle.spec_simplex.proofs.TableauWritten.{moves, fixed, not_fixed}
use Rattle.cq_form.specs.Entries.{products_of}
use Rattle.cq_frac.specs.declared.row.Entry.{Entry}
use Rattle.cq_frac.specs.Rows.{IsRowFrom}
use Rattle.cq_dict.specs.declared.table.Role.{Role}
use Rattle.cq_dict.specs.declared.table.Role.TheVariants.{Live, Dropped, Basic}
use Rattle.cq_dict.specs.Roles.{Quantities, AreOverColumns, is_live, is_dropped, is_restricted, role_at}
use Rattle.cq_dict.proofs.Roles.{role_is}
use Rattle.cq_tableau.specs.declared.names.Name.{Name}
use Rattle.cq_tableau.specs.declared.names.Name.TheVariants.{Variable, Member}
use Rattle.cq_tableau.specs.Forms.{row_of, form_at, tableau}
use Rattle.cq_tableau.specs.Keeps.{Keeps, Speaks}
use Rattle.cq_tableau.specs.Asking.{AsksForm}
use Rattle.cq_tableau.specs.Stored.{IsKnown, IsMemberOf, IsStored, IsStoredBy, IsBetween}
use Rattle.cq_tableau.specs.Values.{IsOpen, IsNumber, open_row, open_column, number_row, dropped_column}
use Rattle.spec_simplex.specs.Fixing.{NewlyFixed}
use Rattle.cq_frac.specs.declared.VarId.{VarId}
use Rattle.spec_linear.specs.Echelon.{AreDistinct}
use Rattle.cq_tableau.specs.Newly.{AreNewlyFixed}
use Rattle.cq_tableau.specs.Fixing.{IsOpenHere, AreOpen, AreFixedNow}
use Rattle.cq_tableau.specs.Looked.{StandsAt, IsStrict, IsApart}
use Rattle.cq_tableau.specs.Faced.{HoldsAtZero, AllHold, IsNotZero, IsFace, IsOnFace}
use Rattle.cq_tableau.specs.Raised.{IsBest}
use Rattle.cq_tableau.proofs.Certified.{greatest_constant}
use Rattle.cq_tableau.proofs.Tied.{factor_same, entry_not_zero}
use Rattle.cq_tableau.proofs.Steps.{flag_more, flag_only, flag_set, flag_still, form_more, form_last, dropped_more}
use Rattle.cq_equations.specs.Told.{numbers_of}
use Rattle.cq_tableau.proofs.Storing.{keeps_last, member_by, unknown_not_fixed, known_or_not, asked_kept, placed_known}

-- ---- rows that are something
module _ (roles : List Role) (table : AreOverColumns roles) (n : ℕ) where
  open_something : IsOpen roles n → IsSomething (row_of n (role_at roles n))
  open_something (open_row own m rest a h) =
      subst (λ t. IsSomething (row_of n t)) (sym (role_is roles n (Basic own) a))
      (by_entry m.quantity
      (λ z. entry_not_zero (is_live roles) 0 (m ∷ rest) (subst (λ l. IsRowFrom (is_live roles) 0 l) h (table.rows n own a).live_row) m (inl refl)
      (sym (factor_same m.quantity (m ∷ rest)) ∙ ap (λ l. factor_of m.quantity (products_of l)) (sym h) ∙ z)))
  open_something (open_column a) =
      subst (λ t. IsSomething (row_of n t)) (sym (role_is roles n Live a))
      (by_entry n (λ z. one_not_zero (ring [] (int (pos 1)) (int (pos 1) ⊕ int (pos 0)) refl ∙ ap (λ b. when b 1ℚ +ℚ 0ℚ) (sym (nat_eq-self n)) ∙ z)))

  number_something : (v : ℚ) → IsNumber roles n v → (v ≡ 0ℚ → ⊥) → IsSomething (row_of n (role_at roles n))
  number_something v (number_row own a h i) z = subst (λ t. IsSomething (row_of n t)) (sym (role_is roles n (Basic own) a)) (by_constant (λ e. z (i ∙ e)))
  number_something v (dropped_column a i) z = absurd (z i)

  pub not_zero_something : IsNotZero roles n → IsSomething (row_of n (role_at roles n))
  not_zero_something (inl h) = open_something h
  not_zero_something (inr h) = number_something h.0 h.1 h.2

-- a member's place
pub place_of : (l : List Constraint) (k : Constraint) → Has k l → (i : ℕ) × (slice_get l i ≡ Some k)
place_of [] k h = absurd h
place_of (c ∷ l) k (inl e) = (zero, ap Some (sym e))
place_of (c ∷ l) k (inr h) = let r = place_of l k h in (suc r.0, r.1)

-- ---- the members stand
module _ (told : List Constraint) (names : List Name) (q : Quantities) (s : IsStored told names q) (f : Linear) (old : List Role) (flags : List Bool)
    (flagged : flags ≡ q.restricted ++ false ∷ []) (k : Keeps (s.forms ++ f ∷ []) told old flags) (n : ℕ) (size : length old ≡ length q.roles + 1)
    (new : List Role) (new_flags : List Bool) (held : HoldsAtZero n old flags new new_flags) (all : AllHold told names n old flags new new_flags) where
  abbrev own : Constraint
  own = at_least_zero (form_at (s.forms ++ f ∷ []) n)

  speaks : Speaks (s.forms ++ f ∷ []) (at_least_zero (form_at (s.forms ++ f ∷ []) n) ∷ told) new new_flags
  speaks = held.speaks (s.forms ++ f ∷ []) told k

  -- a member's quantity
  module _ (c : Constraint) (h : Has c told) where
    number : ℕ
    number = suc (place_of told c h).0

    at_number : member told (suc (place_of told c h).0) ≡ Some c
    at_number = (place_of told c h).1

    abbrev quantity : ℕ
    quantity = (s.placed (suc (place_of told c h).0) c at_number).0

    quantity_named : slice_get names (s.placed (suc (place_of told c h).0) c at_number).0 ≡ Some (Member (suc (place_of told c h).0))
    quantity_named = (s.placed (suc (place_of told c h).0) c at_number).1

    is_member : (R : Relation → Type 0) → R c.relation → IsMemberOf R told names (s.placed (suc (place_of told c h).0) c at_number).0
    is_member R r = record { number = suc (place_of told c h).0; named = quantity_named; constraint = c; told_at = at_number; relation_is = r }

    below_forms : (s.placed (suc (place_of told c h).0) c at_number).0 < length s.forms
    below_forms = subst (λ m. (s.placed (suc (place_of told c h).0) c at_number).0 < m) (s.size ∙ sym s.keeps.describes.size) (slice_get_within names _ _ quantity_named)

    form_here : form_at (s.forms ++ f ∷ []) (s.placed (suc (place_of told c h).0) c at_number).0 ≡ c.form
    form_here =
        let m = s.members _ _ quantity_named in
        form_more s.forms f _ below_forms ∙ sym m.form_is ∙ ap (λ (x : Constraint). x.form) (same_Some m.constraint c (sym m.told_at ∙ at_number))

    flag_here : IsInequality c.relation → is_restricted new_flags (s.placed (suc (place_of told c h).0) c at_number).0 ≡ true
    flag_here i =
        subst (λ g. is_restricted g (s.placed (suc (place_of told c h).0) c at_number).0 ≡ true) (sym held.same_flags)
        (flag_still flags n _ (subst (λ g. is_restricted g (s.placed (suc (place_of told c h).0) c at_number).0 ≡ true) (sym flagged)
        (flag_more q.restricted _ ∙ s.flagged _ (is_member IsInequality i))))

    stands : IsInequality c.relation → StandsAt told names (s.forms ++ f ∷ []) (at_least_zero (form_at (s.forms ++ f ∷ []) n) ∷ told) new new_flags
        (s.placed (suc (place_of told c h).0) c at_number).0
    stands i = all.stand (s.forms ++ f ∷ []) told k _ (flag_here i)

    abbrev Now : Type 0
    Now = Again (Within (tableau new new_flags (s.forms ++ f ∷ []))) (at_least_zero (form_at (s.forms ++ f ∷ []) n) ∷ told) c.relation c.form

    apart : IsApart c.relation → Moves (Within (tableau new new_flags (s.forms ++ f ∷ []))) c.form
    apart r =
        let b : (s.placed (suc (place_of told c h).0) c at_number).0 < length new =
        let w = below_forms in let d = s.keeps.describes.size in let e = held.size in omega (arith, w, d, e, size) in
        subst (λ g. Moves (Within (tableau new new_flags (s.forms ++ f ∷ []))) g) form_here
        (moves (tableau new new_flags (s.forms ++ f ∷ [])) speaks.sound.written _ b
        (not_zero_something new speaks.table _ (all.apart _ b (is_member IsApart r))))

    again : (r : Relation) → c.relation ≡ r → Again (Within (tableau new new_flags (s.forms ++ f ∷ []))) (at_least_zero (form_at (s.forms ++ f ∷ []) n) ∷ told) r c.form
    again Eq e = tt
    again Gt e =
        subst (λ g. Rises (at_least_zero (form_at (s.forms ++ f ∷ []) n) ∷ told) g) form_here
        (elim (stands (subst IsInequality (sym e) tt)) [ inl g ↦ g | inr g ↦ absurd (g.1 (is_member IsStrict e)) ])
    again Ge e =
        subst (λ g. IsFlat (Within (tableau new new_flags (s.forms ++ f ∷ []))) g ⊎ Rises (at_least_zero (form_at (s.forms ++ f ∷ []) n) ∷ told) g) form_here
        (elim (stands (subst IsInequality (sym e) tt)) [ inl g ↦ inr g | inr g ↦ inl g.0 ])
    again Ne e = apart e

  pub keeps_now : Keeps (s.forms ++ f ∷ []) (at_least_zero (form_at (s.forms ++ f ∷ []) n) ∷ told) new new_flags
  keeps_now = record {
    table = speaks.table;
    size = speaks.size;
    describes = speaks.describes;
    invariant = joined_again (tableau old flags (s.forms ++ f ∷ [])) (tableau new new_flags (s.forms ++ f ∷ [])) told (at_least_zero (form_at (s.forms ++ f ∷ []) n))
        k.invariant speaks.sound (λ v w z h. w z (held.still z h)) (inl (held.flat (s.forms ++ f ∷ []) told k)) (λ c h. again c h c.relation refl);
    dropped = speaks.dropped;
  }

-- ---- it is stored
module _ (told : List Constraint) (names : List Name) (q : Quantities) (s : IsStored told names q) (c : Constraint) (r : c.relation ≡ Ge)
    (knows : (x : ℕ) → Mentions x c.form.products → IsKnown names x) (old : List Role) (flags : List Bool) (ef : flags ≡ q.restricted ++ false ∷ [])
    (k : Keeps (s.forms ++ c.form ∷ []) told old flags) (dropped : (z : ℕ) → is_dropped old z ≡ true → is_dropped q.roles z ≡ true) (n : ℕ) (en : n ≡ length q.roles)
    (new : Quantities) (held : HoldsAtZero n old flags new.roles new.restricted) where
  old_size : length old ≡ length q.roles + 1
  old_size = sym k.describes.size ∙ length-append s.forms (c.form ∷ []) ∙ ap (λ m. m + 1) s.keeps.describes.size

  weakly : (r : Relation) → r ≡ Ge → (f : Linear) → at_least_zero f ≡ record { relation = r; form = f }
  weakly r e f = ap (λ t. record { relation = t; form = f }) (sym e)

  front_is : at_least_zero (form_at (s.forms ++ c.form ∷ []) n) ≡ c
  front_is = ap at_least_zero (ap (form_at (s.forms ++ c.form ∷ [])) (en ∙ sym s.keeps.describes.size) ∙ form_last s.forms c.form) ∙ weakly c.relation r c.form

  below_flags : n < length flags
  below_flags = let w = k.size in let o = old_size in omega (arith, w, o, en)

  flags_now : (z : ℕ) → Has z (n ∷ []) ⊎ (is_restricted flags z ≡ true)
      → (is_restricted q.restricted z ≡ true) ⊎ ((z ≡ length q.roles) × IsInequality c.relation)
  flags_now z (inl (inl h)) = inr (h ∙ en, subst IsInequality (sym r) tt)
  flags_now z (inl (inr h)) = absurd h
  flags_now z (inr h) = inl (sym (flag_more q.restricted z) ∙ subst (λ g. is_restricted g z ≡ true) ef h)

  face_by : (K : List Linear → List Constraint → List Role → List Bool → Type 0) → K (s.forms ++ c.form ∷ []) (told ++ c ∷ []) new.roles new.restricted
      → IsStoredBy K (told ++ c ∷ []) (names ++ Member (suc (length told)) ∷ []) new
  face_by K after =
      member_by K told names q new s c knows after (held.size ∙ old_size)
      (λ z h. flags_now z (flag_only flags n z (subst (λ g. is_restricted g z ≡ true) held.same_flags h)))
      (λ z h. subst (λ g. is_restricted g z ≡ true) (sym held.same_flags) (flag_still flags n z (subst (λ g. is_restricted g z ≡ true) (sym ef) (flag_more q.restricted z ∙ h))))
      (λ z h. elim (held.only z h) [ inl g ↦ inl g | inr g ↦ inr (inl (dropped z g)) ])
      (λ i. subst (λ g. is_restricted g (length q.roles) ≡ true) (sym held.same_flags)
      (subst (λ z. is_restricted (slice_set flags n true) z ≡ true) en (flag_set flags n below_flags)))

  pub face_stored : AllHold told names n old flags new.roles new.restricted → (number : ℕ) → number ≡ length told + 1
      → (new_names : List Name) → new_names ≡ names ++ Member number ∷ [] → IsStored (told ++ c ∷ []) new_names new
  face_stored all m num new_names names_are =
      subst (λ l. IsStored (told ++ c ∷ []) l new) (sym (names_are ∙ ap (λ m. names ++ Member m ∷ []) (num ∙ add-one (length told))))
      (face_by Keeps (keeps_last (s.forms ++ c.form ∷ []) told c new.roles new.restricted
      (subst (λ d. Keeps (s.forms ++ c.form ∷ []) (d ∷ told) new.roles new.restricted) front_is
      (keeps_now told names q s c.form old flags ef k n old_size new.roles new.restricted held all))))

  -- while it joins
  pub face_speaks : Speaks (s.forms ++ c.form ∷ []) (told ++ c ∷ []) new.roles new.restricted
  face_speaks =
      let h = subst (λ d. Speaks (s.forms ++ c.form ∷ []) (d ∷ told) new.roles new.restricted) front_is (held.speaks (s.forms ++ c.form ∷ []) told k) in
      record {
        table = h.table;
        size = h.size;
        describes = h.describes;
        sound = sound_there (tableau new.roles new.restricted (s.forms ++ c.form ∷ [])) (c ∷ told) (told ++ c ∷ []) (told_last told c) h.sound;
        dropped = λ e m o. h.dropped e ((told_last told c).back e m) o;
      }

  pub face_between : IsBetween (told ++ c ∷ []) (names ++ Member (suc (length told)) ∷ []) new
  face_between = face_by Speaks face_speaks

-- ---- which variables it fixes
module _ (forms : List Linear) (l : List Constraint) (roles : List Role) (flags : List Bool) (k : Keeps forms l roles flags) (n x : ℕ) (h : n < length roles)
    (is : form_at forms n ≡ variable_form x) where
  variable_there : Place (tableau roles flags forms) (variable_form x)
  variable_there = record { quantity = n; made = h; form_is = is }

  pub open_before : IsOpen roles n → (v : ℚ) → Fixed l x v → ⊥
  unfolding variable_there
  open_before (open_row own m rest a e) v f =
      let r = role_is roles n (Basic own) a in
      not_fixed (tableau roles flags forms) l k.invariant x variable_there m.quantity
      (λ z. entry_not_zero (is_live roles) 0 (m ∷ rest) (subst (λ t. IsRowFrom (is_live roles) 0 t) e (k.table.rows n own a).live_row) m (inl refl)
      (sym (factor_same m.quantity (m ∷ rest)) ∙ ap (λ t. factor_of m.quantity (products_of t)) (sym e) ∙ ap (λ t. factor_of m.quantity (row_of n t).live) (sym r) ∙ z)) v f
  open_before (open_column a) v f =
      not_fixed (tableau roles flags forms) l k.invariant x variable_there n
      (λ z. one_not_zero (ring [] (int (pos 1)) (int (pos 1) ⊕ int (pos 0)) refl ∙ ap (λ b. when b 1ℚ +ℚ 0ℚ) (sym (nat_eq-self n))
      ∙ ap (λ t. factor_of n (row_of n t).live) (sym (role_is roles n Live a)) ∙ z)) v f

  pub number_before : (v : ℚ) → IsNumber roles n v → Fixed l x v
  unfolding variable_there
  number_before v (number_row own a e i) =
      let r = role_is roles n (Basic own) a in
      subst (λ w. Fixed l x w) (sym i)
      (subst (λ t. Fixed l x (row_of n t).constant) r
      (fixed (tableau roles flags forms) l k.invariant x variable_there (ap (λ t. (row_of n t).live) r ∙ ap products_of e)))
  number_before v (dropped_column a i) =
      let r = role_is roles n Dropped a in
      subst (λ w. Fixed l x w) (sym i)
      (subst (λ t. Fixed l x (row_of n t).constant) r (fixed (tableau roles flags forms) l k.invariant x variable_there (ap (λ t. (row_of n t).live) r)))

-- open variables, among which is each that may have got a value: every other one had one before, or is open now
pub record Covers (names : List Name) (old new : List Role) (xs : List VarId) : Type 0 where
  pub once : AreDistinct (numbers_of xs)
  pub each : (x : ℕ) → Has x (numbers_of xs) → (n : ℕ) × (n < length names) × IsOpenHere names old n (record { 0 = x })
  pub all : (n : ℕ) (x : VarId) → n < length names → slice_get names n ≡ Some (Variable x) → Has x.0 (numbers_of xs) ⊎ (((v : ℚ) × IsNumber old n v) ⊎ IsOpen new n)

-- all open variables are such
pub covers_all : (names : List Name) (old new : List Role) (xs : List VarId) → AreOpen names old (length names) xs → Covers names old new xs
covers_all names old new xs a = record {
  once = a.once;
  each = a.each;
  all = λ n x l e. elim (a.all n x l e) [ inl h ↦ inl h | inr v ↦ inr (inl v) ];
}

-- those that were open and have a value now are just the newly fixed ones
pub newly_fixed : (told : List Constraint) (names : List Name) (q : Quantities) (s : IsStored told names q) (c : Constraint) (old : List Role) (flags : List Bool)
    → Keeps (s.forms ++ c.form ∷ []) told old flags → (open_ones fixed_ones : List VarId) (new_names : List Name) (new : Quantities) → Covers names old new.roles open_ones
    → AreFixedNow new_names new open_ones fixed_ones → IsStored (told ++ c ∷ []) new_names new
    → ((n x : ℕ) → slice_get new_names n ≡ Some (Variable (record { 0 = x })) → slice_get names n ≡ Some (Variable (record { 0 = x })))
    → AreNewlyFixed told (told ++ c ∷ []) (numbers_of fixed_ones)
newly_fixed told names q s c old flags k open_ones fixed_ones new_names new a b after named = record {
  once = b.once a.once;
  each = λ x. (gained x, found x);
}
  where
    below_roles : (n : ℕ) → n < length names → n < length old
    below_roles n h =
        let w = k.describes.size in let d = length-append s.forms (c.form ∷ []) in let e = s.keeps.describes.size in let z = s.size in omega (arith, h, w, d, e, z)

    form_of_variable : (n x : ℕ) → slice_get names n ≡ Some (Variable (record { 0 = x })) → form_at (s.forms ++ c.form ∷ []) n ≡ variable_form x
    form_of_variable n x e =
        form_more s.forms c.form n (subst (λ m. n < m) (s.size ∙ sym s.keeps.describes.size) (slice_get_within names n _ e)) ∙ s.variables n (record { 0 = x }) e

    gained : (x : ℕ) → Has x (numbers_of fixed_ones) → NewlyFixed told (told ++ c ∷ []) x
    gained x h =
        let r = b.each x h in
        let v = r.1 (told ++ c ∷ []) after in
        let o = a.each x r.0 in
        record {
          value = v.0;
          fixed = v.1;
          not_before = open_before (s.forms ++ c.form ∷ []) told old flags k o.0 x (below_roles o.0 o.1) (form_of_variable o.0 x o.2.0) o.2.1;
        }

    found : (x : ℕ) → NewlyFixed told (told ++ c ∷ []) x → Has x (numbers_of fixed_ones)
    found x f = elim (known_or_not new_names x) [
      | inl y ↦ at_quantity y.0 y.1 (named y.0 x y.1)
      | inr n ↦ absurd (unknown_not_fixed (told ++ c ∷ []) new_names new after x n f.value f.fixed)
    ]
      where
        at_quantity : (n : ℕ) → slice_get new_names n ≡ Some (Variable (record { 0 = x })) → slice_get names n ≡ Some (Variable (record { 0 = x })) → Has x (numbers_of fixed_ones)
        at_quantity n w e = elim (a.all n (record { 0 = x }) (slice_get_within names n _ e) e) [
          | inl g ↦ elim (b.all x g) [ inl h ↦ h | inr m ↦ absurd (m (told ++ c ∷ []) after f.value f.fixed) ]
          | inr h ↦ elim h [
            | inl g ↦ absurd (f.not_before g.0
                (number_before (s.forms ++ c.form ∷ []) told old flags k n x (below_roles n (slice_get_within names n _ e)) (form_of_variable n x e) g.0 g.1))
            | inr o ↦ absurd (open_before after.forms (told ++ c ∷ []) new.roles new.restricted after.keeps n x
                (subst (λ m. n < m) after.size (slice_get_within new_names n _ w)) (after.variables n (record { 0 = x }) w) o f.value f.fixed)
          ]
        ]

-- a member's name makes no variable known
pub named_before : (names : List Name) (i n x : ℕ) → slice_get (names ++ Member i ∷ []) n ≡ Some (Variable (record { 0 = x })) → slice_get names n ≡ Some (Variable (record { 0 = x }))
named_before names i n x h = elim (get_push names (Member i) n (Variable (record { 0 = x })) h) [ inl k ↦ k | inr k ↦ no_variable k.1 ]
  where
    no_variable : Member i ≡ Variable (record { 0 = x }) → slice_get names n ≡ Some (Variable (record { 0 = x }))
    no_variable e = cc

-- the row whose greatest value is zero
pub on_face : (told : List Constraint) (names : List Name) (q : Quantities) (s : IsStored told names q) (c : Constraint) (new_names : List Name) (mid : Quantities) (n : ℕ)
    → AsksForm names q c.form new_names mid n → (new : List Role) (new_flags : List Bool) (v : ℚ) (multipliers : List Entry)
    → IsBest n mid.roles mid.restricted new new_flags v multipliers → v ≡ 0ℚ → c.relation ≡ Ge → IsOnFace told new_names c new new_flags n multipliers
on_face told names q s c new_names mid n a new new_flags v multipliers b z r = record {
  before = a.before;
  stored = a.stays told s;
  keeps = subst (λ g. Keeps ((a.stays told s).forms ++ c.form ∷ []) told new g) (sym b.same_flags)
      (b.keeps ((a.stays told s).forms ++ c.form ∷ []) told (asked_kept told names q s c.form new_names mid n a));
  flags_are = b.same_flags ∙ a.flags;
  dropped = λ y h. sym (dropped_more a.before.roles (Basic a.row.row) refl y) ∙ ap (λ m. is_dropped m y) (sym a.row.last) ∙ sym (b.dropped y) ∙ h;
  last = a.number;
  weak = r;
  knows = λ x m. placed_known new_names c.form.products a.entries a.placed x m;
  face = subst (λ g. IsFace new g n multipliers) (sym b.same_flags) (record {
    own = b.row.0;
    is_row = b.row.1;
    constant = sym (greatest_constant mid.roles new mid.restricted n v b.maximum b.row.0 b.row.1) ∙ z;
    entries = b.entries.entries b.row.0 b.row.1;
    positive = b.entries.positive;
    live = b.entries.live;
    restricted = b.entries.restricted;
  });
}
