-- Members that can't hold where a constraint joins, since their forms are zero.
use Rattle.std.proofs.Common.{◌≡◌, ℕ, zero, suc, ◌+◌, ◌-◌, ◌<◌, get_or, Some, List, [], ◌∷◌, ◌++◌, length, Bool, ◌⊎◌, inl, inr, add-one, arith, length-append, refl, ap, sym, subst, ◌∙◌}
use Rattle.std.proofs.lemmas.Option.{none-some, slice_get_within, slice_get_read, same_Some}
use Rattle.spec_numbers.proofs.Places.{get_kept}
use Rattle.spec_numbers.specs.Rational.{ℚ, 0ℚ}
use Rattle.spec_linear.specs.declared.Relation.{Relation}
use Rattle.spec_linear.specs.declared.Relation.TheVariants.{Eq, Gt, Ne}
use Rattle.spec_linear.specs.Form.{value_at}
use Rattle.spec_linear.specs.Solution.{Constraint, Satisfies}
use Rattle.spec_linear.specs.Certificate.{member}
use Rattle.spec_linear.specs.Weak.{with_weak, weak}
use Rattle.spec_projection.specs.Elimination.{IsInequality}
use Rattle.spec_simplex.specs.Tableau.{Within, IsNothing, Sound, Held}
use Rattle.spec_simplex.proofs.Members.{sound_there, told_last}
use Rattle.spec_simplex.proofs.More as of_more
use Rattle.spec_simplex.proofs.Steps.{sound_more}
use Rattle.spec_simplex.proofs.TableauWritten.{nothing_is}
use Rattle.cq_form.specs.Entries.{products_of}
use Rattle.cq_frac.specs.declared.row.Entry.{Entry}
use Rattle.cq_dict.specs.declared.table.Role.{Role}
use Rattle.cq_dict.specs.declared.table.Role.TheVariants.{Dropped, Basic}
use Rattle.cq_dict.specs.Roles.{Quantities, is_dropped, is_restricted, role_at}
use Rattle.cq_dict.proofs.Roles.{role_is, at_below, dropped_at}
use Rattle.cq_tableau.specs.declared.names.Name.{Name}
use Rattle.cq_tableau.specs.declared.names.Name.TheVariants.{Member}
use Rattle.cq_tableau.specs.Forms.{row_of, form_at, tableau}
use Rattle.cq_tableau.specs.Keeps.{Keeps, Speaks}
use Rattle.cq_tableau.specs.Refuted.{number_of, number_in}
use Rattle.cq_tableau.specs.Values.{IsNumber, number_row, dropped_column}
use Rattle.cq_tableau.specs.Asking.{AsksForm}
use Rattle.cq_tableau.specs.Stored.{IsStored, IsBetween, IsMemberOf}
use Rattle.cq_tableau.specs.Looked.{IsStrict, IsApart}
use Rattle.cq_tableau.proofs.Steps.{form_more, unchanged, dropped_more}
use Rattle.cq_tableau.proofs.Joined.{written}
use Rattle.cq_tableau.proofs.Storing.{asked_kept, row_flag, form_here, member_by, placed_known, told_more, last_told}
use Rattle.cq_tableau.specs.Faced.{HoldsAtZero, HasFallen, strict_fallen, apart_fallen, IsOnFace}
use Rattle.cq_store.specs.Fallen.{FallsAt}
use Rattle.cq_store.proofs.Stays.{face_speaks}

-- ---- on a face
module _ (told : List Constraint) (names : List Name) (c : Constraint) (roles : List Role) (flags : List Bool) (n : ℕ) (columns : List Entry)
    (f : IsOnFace told names c roles flags n columns) (new : Quantities) (h : HoldsAtZero n roles flags new.roles new.restricted) where
  speaks : Speaks (f.stored.forms ++ c.form ∷ []) (told ++ c ∷ []) new.roles new.restricted
  speaks = face_speaks told names f.before f.stored c f.weak f.knows roles flags f.flags_are f.keeps f.dropped n f.last new h

  form_of : (R : Relation → Type 0) (z : ℕ) (m : IsMemberOf R told names z) → form_at (f.stored.forms ++ c.form ∷ []) z ≡ m.constraint.form
  form_of R z m =
      let w = f.stored.members z m.number m.named in
      let b : z < length f.stored.forms = subst (λ y. z < y) (f.stored.size ∙ sym f.stored.keeps.describes.size) (slice_get_within names _ _ m.named) in
      form_more f.stored.forms c.form z b ∙ sym w.form_is ∙ ap (λ (x : Constraint). x.form) (same_Some w.constraint m.constraint (sym w.told_at ∙ m.told_at))

  number_zero : (z : ℕ) → IsNumber new.roles z 0ℚ → (v : ℕ → ℚ) → Within (tableau new.roles new.restricted (f.stored.forms ++ c.form ∷ [])) v
      → value_at v (form_at (f.stored.forms ++ c.form ∷ []) z) ≡ 0ℚ
  number_zero z (number_row own a e i) v w =
      nothing_is (tableau new.roles new.restricted (f.stored.forms ++ c.form ∷ [])) speaks.sound.written z (at_below new.roles z (Basic own) a)
      (subst (λ t. IsNothing (row_of z t)) (sym (role_is new.roles z (Basic own) a)) (record { constant = sym i; live = ap products_of e })) v w
  number_zero z (dropped_column a i) v w = w z (dropped_at new.roles z Dropped a)

  falls_by : (R : Relation → Type 0) (z : ℕ) (m : IsMemberOf R told names z) → (m.constraint.relation ≡ Gt) ⊎ (m.constraint.relation ≡ Ne)
      → ((v : ℕ → ℚ) → Within (tableau new.roles new.restricted (f.stored.forms ++ c.form ∷ [])) v → value_at v (form_at (f.stored.forms ++ c.form ∷ []) z) ≡ 0ℚ)
      → (i : ℕ) → FallsAt told (told ++ c ∷ []) (names ++ Member i ∷ []) z
  falls_by R z m r flat i = record {
    number = m.number;
    named = get_kept names (Member i ∷ []) z (Member m.number) m.named;
    constraint = m.constraint;
    told_at = m.told_at;
    relation_is = r;
    flat = λ v w. ap (value_at v) (sym (form_of R z m)) ∙ flat v (speaks.sound.inside v w);
  }

  pub fallen_falls : (z : ℕ) → HasFallen told names roles flags new.roles new.restricted z → (i : ℕ) → FallsAt told (told ++ c ∷ []) (names ++ Member i ∷ []) z
  fallen_falls z (strict_fallen m flat) i = falls_by IsStrict z m (inl m.relation_is) (flat (f.stored.forms ++ c.form ∷ []) told f.keeps) i
  fallen_falls z (apart_fallen m is) i = falls_by IsApart z m (inr m.relation_is) (number_zero z is) i

-- ---- a disequation that is named, though its form is zero
pub record JoinsZero (told : List Constraint) (c : Constraint) (names : List Name) (q : Quantities) (number : ℕ) : Type 0 where
  pub between : IsBetween (told ++ c ∷ []) names q
  pub at : member (told ++ c ∷ []) number ≡ Some c
  pub flat : (v : ℕ → ℚ) → Satisfies v (weak (told ++ c ∷ [])) → value_at v c.form ≡ 0ℚ

module _ (told : List Constraint) (names : List Name) (q : Quantities) (s : IsStored told names q) (c : Constraint) (i : c.relation ≡ Ne) (new_names : List Name)
    (mid : Quantities) (n : ℕ) (a : AsksForm names q c.form new_names mid n) where
  abbrev there : IsStored told new_names a.before
  there = a.stays told s

  kept : Keeps (there.forms ++ c.form ∷ []) told mid.roles mid.restricted
  kept = asked_kept told names q s c.form new_names mid n a

  unequal : (r : Relation) → r ≡ Ne → r ≡ Eq → ⊥
  unequal r e f = cc

  front : Sound (tableau mid.roles mid.restricted (there.forms ++ c.form ∷ [])) (c ∷ told)
  front =
      let d = tableau mid.roles mid.restricted (there.forms ++ c.form ∷ []) in
      sound_more d d [] [] (unchanged mid.roles mid.restricted (there.forms ++ c.form ∷ [])) told kept.invariant.sound kept.invariant.sound.written
      kept.invariant.sound.feasible c (λ z h. absurd h) (λ v w. subst (Satisfies v) (ap (λ r. with_weak r c.form (weak told)) i) w)
      (subst (λ r. Held d r c.form) (sym i) tt) (λ z h. absurd h)

  after : Speaks (there.forms ++ c.form ∷ []) (told ++ c ∷ []) mid.roles mid.restricted
  after =
      let d = tableau mid.roles mid.restricted (there.forms ++ c.form ∷ []) in
      let dropped = of_more.dropped_more d d (written (there.forms ++ c.form ∷ []) told mid.roles mid.restricted kept) [] []
      (unchanged mid.roles mid.restricted (there.forms ++ c.form ∷ [])) (λ z h. absurd h) told kept.dropped c (λ r. absurd (unequal c.relation i r)) in
      record {
        table = kept.table;
        size = kept.size;
        describes = kept.describes;
        sound = sound_there d (c ∷ told) (told ++ c ∷ []) (told_last told c) front;
        dropped = λ k m o. dropped k ((told_last told c).back k m) o;
      }

  one_more : length mid.roles ≡ length a.before.roles + 1
  one_more = sym kept.describes.size ∙ length-append there.forms (c.form ∷ []) ∙ ap (λ m. m + 1) there.keeps.describes.size

  flag : (z : ℕ) → is_restricted mid.restricted z ≡ is_restricted a.before.restricted z
  flag = row_flag told new_names a.before there c a.entries a.placed mid.roles a.row a.defines a.table mid.restricted a.flags

  between : IsBetween (told ++ c ∷ []) (new_names ++ Member (suc (length told)) ∷ []) mid
  between =
      member_by Speaks told new_names a.before mid there c (λ x m. placed_known new_names c.form.products a.entries a.placed x m) after one_more
      (λ z r. inl (sym (flag z) ∙ r)) (λ z r. flag z ∙ r)
      (λ z r. inr (inl (sym (dropped_more a.before.roles (Basic a.row.row) refl z) ∙ ap (λ m. is_dropped m z) (sym a.row.last) ∙ r)))
      (λ r. absurd (subst IsInequality i r))

  form_zero : IsNothing (row_of n (role_at mid.roles n)) → (v : ℕ → ℚ) → Satisfies v (weak (told ++ c ∷ [])) → value_at v c.form ≡ 0ℚ
  form_zero z v w =
      let d = tableau mid.roles mid.restricted (there.forms ++ c.form ∷ []) in
      let b : n < length mid.roles = let e = a.number in let h = one_more in omega (arith, e, h) in
      ap (value_at v) (sym (form_here told new_names a.before there c a.entries a.placed mid.roles a.row a.defines a.table mid.restricted a.flags n a.number))
      ∙ nothing_is d after.sound.written n b z v (after.sound.inside v w)

  -- it is named, though its form is zero
  pub apart_joins : IsNothing (row_of n (role_at mid.roles n)) → (later : List Name) → later ≡ new_names ++ Member (length told + 1) ∷ []
      → JoinsZero told c later mid (length told + 1)
  apart_joins z later e = record {
    between = subst (λ l. IsBetween (told ++ c ∷ []) l mid) (sym (e ∙ ap (λ m. new_names ++ Member m ∷ []) (add-one (length told)))) between;
    at = ap (member (told ++ c ∷ [])) (add-one (length told)) ∙ last_told told c;
    flat = form_zero z;
  }

-- ---- the member of a quantity that falls
pub record FallsThere (told : List Constraint) (c : Constraint) (number : ℕ) (k : Constraint) : Type 0 where
  pub at : member (told ++ c ∷ []) number ≡ Some k
  pub relation_is : (k.relation ≡ Gt) ⊎ (k.relation ≡ Ne)
  pub flat : (v : ℕ → ℚ) → Satisfies v (weak (told ++ c ∷ [])) → value_at v k.form ≡ 0ℚ

module _ (told : List Constraint) (c : Constraint) (names : List Name) (q : ℕ) (f : FallsAt told (told ++ c ∷ []) names q) (n : ℕ) (e : n ≡ number_in names q) where
  number_is : f.number ≡ n
  number_is = sym (e ∙ ap number_of f.named)

  found : (i : ℕ) (k d : Constraint) → member told i ≡ Some d → k ≡ get_or told (i - 1) k → k ≡ d
  found zero k d h g = absurd (none-some d h)
  found (suc j) k d h g =
      let b = slice_get_within told j d h in
      let p : suc j - 1 ≡ j = omega arith in
      same_Some k d (sym (slice_get_read told (length told) j k refl b (subst (λ i. k ≡ get_or told i k) p g)) ∙ h)

  -- what is read at the member's place
  pub falls_there : (k d : Constraint) → k ≡ d → d ≡ get_or told (n - 1) d → FallsThere told c n k
  falls_there k d i g =
      let same : k ≡ f.constraint = i ∙ found f.number d f.constraint f.told_at (subst (λ j. d ≡ get_or told (j - 1) d) (sym number_is) g) in
      record {
        at = told_more told c n f.constraint (ap (member told) (sym number_is) ∙ f.told_at) ∙ ap Some (sym same);
        relation_is = subst (λ (z : Constraint). (z.relation ≡ Gt) ⊎ (z.relation ≡ Ne)) (sym same) f.relation_is;
        flat = subst (λ (z : Constraint). (v : ℕ → ℚ) → Satisfies v (weak (told ++ c ∷ [])) → value_at v z.form ≡ 0ℚ) (sym same) f.flat;
      }
