-- What rows over members' quantities refute.
use Rattle.std.proofs.Common.{◌≡◌, ℕ, suc, ◌+◌, ◌<◌, List, [], ◌∷◌, ◌++◌, length, take, get_or, true, false, Option, None, Some, ◌⊎◌, inl, inr, pos, refl, ap, ap₂, sym, subst, ◌∙◌}
use Rattle.std.specs.Prelude.{slice_get, IsSomeAnd, MatchBool}
use Rattle.std.specs.Bool.{OnFalse}
use Rattle.std.specs.List.{AllByRecursion}
use Rattle.spec_numbers.proofs.Places.{take-next}
use Rattle.spec_numbers.specs.Rational.{ℚ, neg_ℚ}
use Rattle.spec_simplex.specs.Entries.{entries}
use Rattle.cq_form.specs.Entries.{products_of}
use Rattle.cq_frac.specs.declared.row.Entry.{Entry}
use Rattle.cq_frac.specs.Row.{Row}
use Rattle.cq_frac.specs.Rows as rows
use Rattle.cq_frac.specs.Rows.{negated}
use Rattle.std.proofs.Common.{Bool, add-one}
use Rattle.std.proofs.lemmas.Option.{slice_get_within, same_Some}
use Rattle.spec_numbers.specs.Rational.{0ℚ, 1ℚ, ◌+ℚ◌, IsPositive, IsNotNegative, ◌<ℚ◌, ◌≤ℚ◌}
use Rattle.spec_numbers.proofs.Sign.{pos_nonneg, pos_one}
use Rattle.spec_numbers.proofs.Order.{lt_or_le, le_antisym, nonneg_to_le}
use Rattle.spec_linear.specs.declared.Relation.{Relation}
use Rattle.spec_linear.specs.declared.Relation.TheVariants.{Eq, Gt, Ge, Ne}
use Rattle.spec_linear.specs.Solution.{Constraint}
use Rattle.spec_linear.specs.Form.{Linear, value_at, negated_form}
use Rattle.spec_linear.proofs.Values.{value_at-negated_form}
use Rattle.spec_numbers.specs.Sums.{Monomial, sum_at}
use Rattle.spec_numbers.proofs.Ring.{var, int, ◌⊕◌}
use Rattle.spec_numbers.proofs.RationalLemmas.{ring}
use Rattle.spec_linear.specs.Certificate.{member, Allows, IsAllowed, SomeStrict, Refutes}
use Rattle.spec_projection.specs.Elimination.{IsInequality}
use Rattle.spec_simplex.specs.Dictionary.{pick}
use Rattle.spec_simplex.specs.Entries.{row_entries, AllNumbered, IsNumbered}
use Rattle.spec_simplex.specs.Tableau.{Tableau, Place, AllIn, IsWritten, IsNothing, numbers, right_side}
use Rattle.spec_simplex.proofs.Certificate.{once_refutes, apart_refutes}
use Rattle.cq_dict.specs.declared.table.Role.{Role}
use Rattle.cq_dict.specs.declared.table.Role.TheVariants.{Basic}
use Rattle.cq_dict.specs.Roles.{Quantities, IsAt, AreOverColumns, is_restricted, is_dropped, constant_at, role_at}
use Rattle.cq_dict.specs.Dict.{AddsRow, DefinesLast}
use Rattle.cq_dict.proofs.Roles.{role_is, at_below, row_is, constant_is}
use Rattle.cq_simplex.specs.Answers.{IsMaximum, AreMultipliers}
use Rattle.cq_tableau.specs.declared.names.Name.{Name}
use Rattle.cq_tableau.specs.declared.names.Name.TheVariants.{Variable, Member}
use Rattle.cq_tableau.specs.Forms.{row_of, form_at, tableau}
use Rattle.cq_tableau.specs.Keeps.{Keeps}
use Rattle.cq_tableau.specs.Stored.{IsStored, IsPlaced}
use Rattle.cq_tableau.specs.Raised.{IsBest}
use Rattle.cq_tableau.specs.Refuted.{number_of, number_in, IsRowCertificate, IsTooSmall, IsTwoRuns}
use Rattle.cq_tableau.proofs.Steps.{flag_more, form_more, form_last}
use Rattle.cq_tableau.proofs.Joined.{written}
use Rattle.cq_tableau.proofs.Storing.{told_more, last_told, row_there, row_kept}
use Rattle.cq_tableau.proofs.Opposed.{negated_sum, negated_in, with_form, same_form, last_row, form_place, form_written}

-- ---- one entry more
entries-end : (number : ℕ → ℕ) (s : List Entry) (m : Entry) → entries number (products_of (s ++ m ∷ [])) ≡ entries number (products_of s) ++ (number m.quantity, neg_ℚ m.factor) ∷ []
entries-end number [] m = refl
entries-end number (n ∷ s) m = ap (λ t. (number n.quantity, neg_ℚ n.factor) ∷ t) (entries-end number s m)

pub entries-next : (number : ℕ → ℕ) (s : List Entry) (i : ℕ) (m : Entry) → i < length s → m ≡ get_or s i m
    → entries number (products_of (take (i + 1) s)) ≡ entries number (products_of (take i s)) ++ (number m.quantity, neg_ℚ m.factor) ∷ []
entries-next number s i m l e = ap (λ t. entries number (products_of t)) (take-next s i m l e) ∙ entries-end number (take i s) m

all_end : (P : ℕ × ℚ → Type 0) (xs : List (ℕ × ℚ)) (x : ℕ × ℚ) → AllByRecursion P xs → P x → AllByRecursion P (xs ++ x ∷ [])
all_end P [] x a p = (p, tt)
all_end P (y ∷ xs) x a p = (a.0, all_end P xs x a.1 p)

pub all_next : (P : ℕ × ℚ → Type 0) (number : ℕ → ℕ) (s : List Entry) (i : ℕ) (m : Entry) → i < length s → m ≡ get_or s i m
    → AllByRecursion P (entries number (products_of (take i s))) → P (number m.quantity, neg_ℚ m.factor)
    → AllByRecursion P (entries number (products_of (take (i + 1) s)))
all_next P number s i m l e a p = subst (AllByRecursion P) (sym (entries-next number s i m l e)) (all_end P (entries number (products_of (take i s))) (number m.quantity, neg_ℚ m.factor) a p)

-- ---- the told constraint's row
module _ (told : List Constraint) (names : List Name) (q : Quantities) (s : IsStored told names q) (c : Constraint) where
  -- the column of a told constraint that allows its multiplier
  entry_numbered : (z : ℕ) (f : ℚ) → IsAllowed told (number_in names z, neg_ℚ f)
      → IsSomeAnd (member (told ++ c ∷ []) (number_in names z)) (λ k. (k.form ≡ form_at (s.forms ++ c.form ∷ []) z) × Allows k.relation (neg_ℚ f))
  entry_numbered z f a = go (slice_get names z) refl a
    where
      of_member : (i : ℕ) → slice_get names z ≡ Some (Member i) → (o : Option Constraint) → member told i ≡ o → IsSomeAnd o (λ k. Allows k.relation (neg_ℚ f))
          → IsSomeAnd (member (told ++ c ∷ []) i) (λ k. (k.form ≡ form_at (s.forms ++ c.form ∷ []) z) × Allows k.relation (neg_ℚ f))
      of_member i e None g b = absurd b
      of_member i e (Some k) g b =
          let m = s.members z i e in
          let n : z < length s.forms = subst (λ y. z < y) (s.size ∙ sym s.keeps.describes.size) (slice_get_within names z (Member i) e) in
          subst (λ o. IsSomeAnd o (λ k. (k.form ≡ form_at (s.forms ++ c.form ∷ []) z) × Allows k.relation (neg_ℚ f))) (sym (told_more told c i k g))
          (ap (λ (y : Constraint). y.form) (same_Some k m.constraint (sym g ∙ m.told_at)) ∙ m.form_is ∙ sym (form_more s.forms c.form z n), b)

      go : (o : Option Name) → slice_get names z ≡ o → IsAllowed told (number_of o, neg_ℚ f)
          → IsSomeAnd (member (told ++ c ∷ []) (number_of o)) (λ k. (k.form ≡ form_at (s.forms ++ c.form ∷ []) z) × Allows k.relation (neg_ℚ f))
      go None e b = absurd b
      go (Some (Variable x)) e b = absurd b
      go (Some (Member i)) e b = of_member i e (member told i) refl b

  weakly_allows : (r : Relation) → IsInequality r → (v : ℚ) → IsNotNegative v → Allows r v
  weakly_allows Eq w v h = absurd w
  weakly_allows Gt w v h = h
  weakly_allows Ge w v h = h
  weakly_allows Ne w v h = absurd w

  module _ (new : List Role) (flags : List Bool) (e : flags ≡ q.restricted ++ false ∷ []) where
    pub all_numbered : (t : List Entry) → AllByRecursion (IsAllowed told) (entries (number_in names) (products_of t))
        → AllNumbered (tableau new flags (s.forms ++ c.form ∷ [])) (told ++ c ∷ []) (number_in names) (products_of t)
    all_numbered [] a = tt
    all_numbered (m ∷ t) a = (entry_numbered m.quantity m.factor a.0, all_numbered t a.1)

    -- a restricted quantity's constraint may be multiplied by what is not below zero
    live_allowed : (z : ℕ) → is_restricted flags z ≡ true → (v : ℚ) → IsNotNegative v → IsAllowed told (number_in names z, v)
    live_allowed z r v h =
        let o = s.owned z (sym (flag_more q.restricted z) ∙ subst (λ g. is_restricted g z ≡ true) e r) in
        subst (λ i. IsAllowed told (i, v)) (sym (ap number_of o.named))
        (subst (λ x. IsSomeAnd x (λ k. Allows k.relation v)) (sym o.told_at) (weakly_allows o.constraint.relation o.relation_is v h))

    pub live_all : (t : List Entry) → ((m : Entry) → rows.Has m (rows.negated t) → IsPositive m.factor) → ((m : Entry) → rows.Has m (rows.negated t) → is_restricted flags m.quantity ≡ true)
        → AllByRecursion (IsAllowed told) (entries (number_in names) (products_of t))
    live_all [] h k = tt
    live_all (m ∷ t) h k =
        let n : Entry = record { quantity = m.quantity; factor = neg_ℚ m.factor } in
        (live_allowed m.quantity (k n (inl refl)) (neg_ℚ m.factor) (pos_nonneg (h n (inl refl))), live_all t (λ y i. h y (inr i)) (λ y i. k y (inr i)))

    -- the form's row, where its constant is the greatest value
    module _ (k : Keeps (s.forms ++ c.form ∷ []) told new flags) (n : ℕ) (en : n ≡ length q.roles) (own : Row) (at : IsAt new n (Basic own)) where
      own_place : Place (tableau new flags (s.forms ++ c.form ∷ [])) c.form
      own_place = record {
        quantity = n;
        made = at_below new n (Basic own) at;
        form_is = ap (form_at (s.forms ++ c.form ∷ [])) (en ∙ sym s.keeps.describes.size) ∙ form_last s.forms c.form;
      }

      own_numbered : (old : List Role) (v : ℚ) (multipliers : List Entry) → AreMultipliers old flags n new v multipliers
          → AllByRecursion (IsAllowed told) (entries (number_in names) (products_of own.dropped))
          → IsNumbered (tableau new flags (s.forms ++ c.form ∷ [])) (told ++ c ∷ []) (number_in names) n
      own_numbered old v multipliers m a =
          let r = sym (role_is new n (Basic own) at) in
          let g = m.entries own at in
          record {
            live = subst (λ t. AllNumbered (tableau new flags (s.forms ++ c.form ∷ [])) (told ++ c ∷ []) (number_in names) (row_of n t).live) r
                (all_numbered own.live (live_all own.live (λ y i. m.positive y (subst (rows.Has y) (sym g) i)) (λ y i. m.restricted y (subst (rows.Has y) (sym g) i))));
            dropped = subst (λ t. AllNumbered (tableau new flags (s.forms ++ c.form ∷ [])) (told ++ c ∷ []) (number_in names) (row_of n t).dropped) r
                (all_numbered own.dropped a);
          }

      pub row_refutes : IsInequality c.relation → (old : List Role) (v : ℚ) (multipliers : List Entry) → AreMultipliers old flags n new v multipliers
          → IsTooSmall c.relation own.constant → (number : ℕ) → number ≡ length told + 1 → (cert : List (ℕ × ℚ)) → IsRowCertificate told names number own cert
          → Refutes cert (told ++ c ∷ [])
      unfolding own_place
      row_refutes i old v multipliers m small number num cert x =
          let d = tableau new flags (s.forms ++ c.form ∷ []) in
          subst (λ y. Refutes y (told ++ c ∷ []))
          (ap (λ j. (j, 1ℚ) ∷ row_entries (number_in names) (row_of n (Basic own))) (sym (num ∙ add-one (length told))) ∙ sym x.is)
          (subst (λ t. Refutes ((suc (length told), 1ℚ) ∷ row_entries (number_in names) (row_of n t)) (told ++ c ∷ [])) (role_is new n (Basic own) at)
          (once_refutes (told ++ c ∷ []) d (number_in names) (written (s.forms ++ c.form ∷ []) told new flags k) c.form own_place
          (own_numbered old v multipliers m x.allowed) (suc (length told)) c (last_told told c) refl (λ e. subst IsInequality e i)
          (subst (λ t. ((row_of n t).constant <ℚ 0ℚ) ⊎ (((row_of n t).constant ≡ 0ℚ) × SomeStrict (told ++ c ∷ []) ((suc (length told), 1ℚ) ∷ row_entries (number_in names) (row_of n t))))
          (sym (role_is new n (Basic own) at)) (wrong small))))
        where
          wrong : IsTooSmall c.relation own.constant
              → (own.constant <ℚ 0ℚ) ⊎ ((own.constant ≡ 0ℚ) × SomeStrict (told ++ c ∷ []) ((suc (length told), 1ℚ) ∷ row_entries (number_in names) (row_of n (Basic own))))
          wrong (inl h) = inl h
          wrong (inr h) = inr (h.0, inl (subst (λ o. IsSomeAnd o (λ k. (k.relation ≡ Gt) × IsPositive 1ℚ)) (sym (last_told told c)) (h.1, pos_one)))

      -- ---- a disequation's row, which is zero
      zero_dropped : own.constant ≡ 0ℚ → own.live ≡ [] → (v : ℕ → ℚ) → value_at v c.form ≡ sum_at (numbers (tableau new flags (s.forms ++ c.form ∷ [])) v) (products_of own.dropped)
      unfolding own_place
      zero_dropped zero none v =
          ap (value_at v) (sym own_place.form_is)
          ∙ (written (s.forms ++ c.form ∷ []) told new flags k).rows n own_place.made v
          ∙ ap (λ r. right_side (numbers (tableau new flags (s.forms ++ c.form ∷ [])) v) (row_of n r)) (role_is new n (Basic own) at)
          ∙ ap₂ (λ a b. a +ℚ (sum_at (numbers (tableau new flags (s.forms ++ c.form ∷ [])) v) (products_of b) +ℚ sum_at (numbers (tableau new flags (s.forms ++ c.form ∷ [])) v) (products_of own.dropped))) zero none
          ∙ ring (sum_at (numbers (tableau new flags (s.forms ++ c.form ∷ [])) v) (products_of own.dropped) ∷ []) (int (pos 0) ⊕ (int (pos 0) ⊕ var 0)) (var 0) refl

      pub zero_refutes : c.relation ≡ Ne → own.constant ≡ 0ℚ → own.live ≡ [] → (number : ℕ) → number ≡ length told + 1 → (cert : List (ℕ × ℚ))
          → IsTwoRuns told names number own cert → Refutes cert (told ++ c ∷ [])
      unfolding own_place
      zero_refutes i zero none number num cert x =
          subst (λ y. Refutes y (told ++ c ∷ []))
          (ap₂ (λ j r. (j, 1ℚ) ∷ entries (number_in names) (products_of r) ++ entries (number_in names) (products_of own.dropped) ++ (j, neg_ℚ 1ℚ) ∷ entries (number_in names) (products_of (negated own.dropped)))
          (sym (num ∙ add-one (length told))) none ∙ sym x.is)
          (subst (λ r. Refutes ((suc (length told), 1ℚ) ∷ row_entries (number_in names) (row_of n r) ++ (suc (length told), neg_ℚ 1ℚ) ∷ entries (number_in names) (products_of (negated own.dropped))) (told ++ c ∷ []))
          (role_is new n (Basic own) at)
          (subst (λ r. Refutes ((suc (length told), 1ℚ) ∷ row_entries (number_in names) (row_of n (role_at new n)) ++ (suc (length told), neg_ℚ 1ℚ) ∷ row_entries (number_in names) r) (told ++ c ∷ []))
          (last_row d w g opposite over value)
          (apart_refutes d (with_form d g opposite) (told ++ c ∷ []) (number_in names) w (form_written d w g opposite over value) c.form own_place
          (form_place d w g opposite over value) (suc (length told)) (last_told told c ∙ ap (λ r. Some (record { relation = r; form = c.form })) i)
          (record {
            live = subst (λ r. AllNumbered d (told ++ c ∷ []) (number_in names) (row_of n r).live) (sym (role_is new n (Basic own) at))
                (subst (λ r. AllNumbered d (told ++ c ∷ []) (number_in names) (products_of r)) (sym none) tt);
            dropped = subst (λ r. AllNumbered d (told ++ c ∷ []) (number_in names) (row_of n r).dropped) (sym (role_is new n (Basic own) at)) (all_numbered own.dropped x.up);
          })
          (ap (λ r. (row_of n r).constant) (role_is new n (Basic own) at) ∙ zero)
          (record {
            live = subst (λ r. AllNumbered (with_form d g opposite) (told ++ c ∷ []) (number_in names) r.live) (sym (last_row d w g opposite over value)) tt;
            dropped = subst (λ r. AllNumbered (with_form d g opposite) (told ++ c ∷ []) (number_in names) r.dropped) (sym (last_row d w g opposite over value))
                (same_numbered (negated own.dropped) over (all_numbered (negated own.dropped) x.down));
          })
          (ap (λ r. r.constant) (last_row d w g opposite over value)))))
        where
          d : Tableau
          d = tableau new flags (s.forms ++ c.form ∷ [])

          w : IsWritten d
          w = written (s.forms ++ c.form ∷ []) told new flags k

          g : Linear
          g = negated_form c.form

          opposite : List Monomial
          opposite = products_of (negated own.dropped)

          over : AllIn (is_dropped new) (products_of (negated own.dropped))
          over = negated_in (is_dropped new) own.dropped (subst (λ r. AllIn (is_dropped new) (row_of n r).dropped) (role_is new n (Basic own) at) ((written (s.forms ++ c.form ∷ []) told new flags k).over_dropped n own_place.made))

          value : (v : ℕ → ℚ) → value_at v (negated_form c.form) ≡ 0ℚ +ℚ (0ℚ +ℚ sum_at (numbers (tableau new flags (s.forms ++ c.form ∷ [])) v) (products_of (negated own.dropped)))
          value v =
              value_at-negated_form v c.form ∙ ap neg_ℚ (zero_dropped zero none v) ∙ sym (negated_sum (numbers (tableau new flags (s.forms ++ c.form ∷ [])) v) own.dropped)
              ∙ ring (sum_at (numbers (tableau new flags (s.forms ++ c.form ∷ [])) v) (products_of (negated own.dropped)) ∷ []) (var 0) (int (pos 0) ⊕ (int (pos 0) ⊕ var 0)) refl

          same_numbered : (t : List Entry) → AllIn (is_dropped new) (products_of t)
              → AllNumbered (tableau new flags (s.forms ++ c.form ∷ [])) (told ++ c ∷ []) (number_in names) (products_of t)
              → AllNumbered (with_form (tableau new flags (s.forms ++ c.form ∷ [])) (negated_form c.form) (products_of (negated own.dropped))) (told ++ c ∷ []) (number_in names) (products_of t)
          same_numbered [] a b = tt
          same_numbered (m ∷ t) a b = (
            subst (λ h. IsSomeAnd (member (told ++ c ∷ []) (number_in names m.quantity)) (λ e. (e.form ≡ h) × Allows e.relation (neg_ℚ m.factor)))
                (sym (same_form (tableau new flags (s.forms ++ c.form ∷ [])) (written (s.forms ++ c.form ∷ []) told new flags k) (negated_form c.form)
                (products_of (negated own.dropped)) over value m.quantity ((written (s.forms ++ c.form ∷ []) told new flags k).made_dropped m.quantity a.0))) b.0,
            same_numbered t a.1 b.1,
          )

-- the greatest value is the row's constant
pub greatest_constant : (old new : List Role) (flags : List Bool) (n : ℕ) (v : ℚ) → IsMaximum old flags n new v → (own : Row) → IsAt new n (Basic own) → v ≡ own.constant
greatest_constant old new flags n v m own at =
    sym m.value ∙ ap (λ b. pick b (constant_at new n) 0ℚ) (row_is new n own at) ∙ constant_is new n own at

-- a greatest value that is not above zero
pub strict_small : (v : ℚ) → v ≤ℚ 0ℚ → IsTooSmall Gt v
strict_small v h = elim (lt_or_le v 0ℚ) [ inl g ↦ inl g | inr g ↦ inr (le_antisym h g, refl) ]

pub weak_small : (r : Relation) → IsInequality r → (r ≡ Gt → ⊥) → (v : ℚ) → v ≤ℚ 0ℚ → (b : Bool) → (b ≡ true → v <ℚ 0ℚ) → OnFalse b (IsNotNegative v)
    → MatchBool b (IsTooSmall r v) ((v ≡ 0ℚ) × (r ≡ Ge))
weak_small Eq i n v h b f g = absurd i
weak_small Ne i n v h b f g = absurd i
weak_small Gt i n v h b f g = absurd (n refl)
weak_small Ge i n v h true f g = inl (f refl)
weak_small Ge i n v h false f g = (le_antisym h (nonneg_to_le g), refl)

-- an inequality whose form has too small a greatest value
pub inequality_refuted : (told : List Constraint) (names : List Name) (q : Quantities) (s : IsStored told names q) (c : Constraint) → IsInequality c.relation
    → (entries : List Entry) (placed : IsPlaced names c.form.products entries) (mid : List Role) (a : AddsRow q.roles entries c.form.constant mid)
    → DefinesLast q.roles entries c.form.constant mid → AreOverColumns mid → (mid_flags : List Bool) → mid_flags ≡ q.restricted ++ false ∷ []
    → (n : ℕ) → n ≡ length q.roles → (new : List Role) (new_flags : List Bool) (v : ℚ) (multipliers : List Entry) → IsBest n mid mid_flags new new_flags v multipliers
    → IsTooSmall c.relation v → (number : ℕ) → number ≡ length told + 1 → (cert : List (ℕ × ℚ))
    → ((own : Row) → IsAt new n (Basic own) → IsRowCertificate told names number own cert) → Refutes cert (told ++ c ∷ [])
inequality_refuted told names q s c i entries placed mid a defines table mid_flags e n en new new_flags v multipliers b small number num cert x =
    let own = b.row.0 in
    let at = b.row.1 in
    let k0 = row_kept told names q s c entries placed mid a defines table mid_flags e in
    row_refutes told names q s c new mid_flags e (b.keeps (s.forms ++ c.form ∷ []) told k0) n en own at i mid v multipliers b.entries
    (subst (IsTooSmall c.relation) (greatest_constant mid new mid_flags n v b.maximum own at) small) number num cert (x own at)

-- a disequation whose form is zero
pub disequation_refuted : (told : List Constraint) (names : List Name) (q : Quantities) (s : IsStored told names q) (c : Constraint) → c.relation ≡ Ne
    → (entries : List Entry) (placed : IsPlaced names c.form.products entries) (mid : List Role) (a : AddsRow q.roles entries c.form.constant mid)
    → DefinesLast q.roles entries c.form.constant mid → AreOverColumns mid → (mid_flags : List Bool) → mid_flags ≡ q.restricted ++ false ∷ []
    → (n : ℕ) → n ≡ length q.roles → IsNothing (row_of n (role_at mid n)) → (number : ℕ) → number ≡ length told + 1 → (cert : List (ℕ × ℚ))
    → ((own : Row) → IsAt mid n (Basic own) → IsTwoRuns told names number own cert) → Refutes cert (told ++ c ∷ [])
disequation_refuted told names q s c i entries placed mid a defines table mid_flags e n en z number num cert x =
    let r = row_there told names q s c.form entries placed mid a n en in
    let z2 = subst (λ t. IsNothing (row_of n t)) (role_is mid n (Basic r.0) r.1) z in
    zero_refutes told names q s c mid mid_flags e (row_kept told names q s c entries placed mid a defines table mid_flags e) n en r.0 r.1 i z2.constant
    (no_products r.0.live z2.live) number num cert (x r.0 r.1)
  where
    no_products : (t : List Entry) → products_of t ≡ [] → t ≡ []
    no_products [] e = refl
    no_products (m ∷ t) e = cc
