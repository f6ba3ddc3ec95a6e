-- The indexes through every change.
use Rattle.std.proofs.Common.{◌≡◌, ℕ, zero, suc, ◌+◌, ◌-◌, ◌<◌, ◌≤◌, Bool, true, false, cond, List, [], ◌∷◌, ◌++◌, length, map, set, Option, Some, None, refl, sym, ap, ap₂, subst, ◌∙◌, ◌⊎◌, inl, inr, arith, length-set}
use Rattle.std.specs.Prelude.{slice_get}
use Rattle.std.specs.Option.{option_map_or}
use Rattle.std.proofs.lemmas.List.{map-append}
use Rattle.std.proofs.lemmas.Option.{same_Some, slice_get_within, slice_get_cases}
use Rattle.spec_numbers.proofs.Places.{map_same, get_kept}
use Rattle.cq_term.specs.declared.names.Pred.{Pred}
use Rattle.cq_clauses.specs.declared.index.Index.{Index}
use Rattle.cq_clauses.specs.declared.key.Key.{Key}
use Rattle.cq_clauses.specs.declared.list.End.{End}
use Rattle.cq_clauses.specs.declared.list.End.TheVariants.{First, Last}
use Rattle.cq_clauses.specs.declared.procedures.Kind.{Kind}
use Rattle.cq_clauses.specs.declared.procedures.Kind.TheVariants.{Dynamic}
use Rattle.cq_clauses.specs.declared.procedures.Procedure.{Procedure}
use Rattle.cq_clauses.specs.declared.procedures.Place.{Place}
use Rattle.cq_clauses.specs.Lists.{Entry, ListValue}
use Rattle.cq_clauses.specs.Changes.{there, went, no_clauses, list_with, list_without}
use Rattle.cq_clauses.specs.Database.{added, first_changed}
use Rattle.cq_clauses.specs.Indexes.{IsIndex, HasGrown, HasPut}
use Rattle.cq_clauses.specs.Procedures.{is_of, clause_added_to, with_clause, made_dynamic, with_dynamic, with_all_dynamic, StandsAt, IsAt, clause_taken}
use Rattle.cq_clauses.specs.Selected.{key_at, keys_in}
use Rattle.cq_clauses.specs.Stored.{IsStore, AreIndexes, IsHeld}
use Rattle.cq_clauses.proofs.Places.{is_store_pushed, is_store_taken, is_store_dynamic}
use Rattle.cq_clauses.proofs.Writes.{got_either, got_last}

-- ---- the keys of a list through its changes

module _ (key : ℕ → Option Key) where
  keys_with : (end : End) (n : ℕ) (l : ListValue) → keys_in key (list_with end n l) ≡ added end (key n) (keys_in key l)
  keys_with First n l = refl
  keys_with Last n l = map-append (λ (e : Entry). key e.clause) l.entries (there n ∷ [])

  keys_written : (es : List Entry) (place clause : ℕ) (was : Option ℕ) (at : ℕ) → slice_get es place ≡ Some (record { clause = clause; gone = was })
      → map (λ (e : Entry). key e.clause) (set es place (went clause at)) ≡ map (λ (e : Entry). key e.clause) es
  keys_written [] place clause was at got = refl
  keys_written (x ∷ es) zero clause was at got = ap (λ (y : Entry). key y.clause ∷ map (λ (e : Entry). key e.clause) es) (sym (same_Some x (record { clause = clause; gone = was }) got))
  keys_written (x ∷ es) (suc place) clause was at got = ap (λ ks. key x.clause ∷ ks) (keys_written es place clause was at got)

  keys_without : (l : ListValue) (place clause : ℕ) (gone : Option ℕ) → slice_get l.entries place ≡ Some (record { clause = clause; gone = gone }) → keys_in key (list_without l place clause gone) ≡ keys_in key l
  keys_without l place clause (Some at) got = refl
  keys_without l place clause None got = keys_written l.entries place clause None l.removals got

-- ---- a change of one procedure, or a new one

module _ {A : Type 0} (test : A → Bool) (change : A → A) (other : A) where
  no_shorter : (xs : List A) → length xs ≤ length (first_changed test change other xs)
  no_shorter [] = omega arith
  no_shorter (x ∷ xs) = by (test x) (no_shorter xs)
    where
      by : (b : Bool) → length xs ≤ length (first_changed test change other xs) → suc (length xs) ≤ length (cond b (change x ∷ xs) (x ∷ first_changed test change other xs))
      by true rest = omega arith
      by false rest = omega (arith, rest)

  -- what stands at a place of the list stood there, or is the change of what stood there
  changed_back : (xs : List A) (i : ℕ) (y : A) → i < length xs → slice_get (first_changed test change other xs) i ≡ Some y
      → (slice_get xs i ≡ Some y) ⊎ ((x : A) × ((slice_get xs i ≡ Some x) × (change x ≡ y)))
  changed_back [] i y l got = absurd (omega (arith, l))
  changed_back (x ∷ xs) i y l got = by (test x) i l got (λ j m g. changed_back xs j y m g)
    where
      by : (b : Bool) (i : ℕ) → i < suc (length xs) → slice_get (cond b (change x ∷ xs) (x ∷ first_changed test change other xs)) i ≡ Some y
          → ((j : ℕ) → j < length xs → slice_get (first_changed test change other xs) j ≡ Some y → (slice_get xs j ≡ Some y) ⊎ ((z : A) × ((slice_get xs j ≡ Some z) × (change z ≡ y))))
          → (slice_get (x ∷ xs) i ≡ Some y) ⊎ ((z : A) × ((slice_get (x ∷ xs) i ≡ Some z) × (change z ≡ y)))
      by true zero l got rest = inr (x, (refl, same_Some (change x) y got))
      by true (suc i) l got rest = inl got
      by false zero l got rest = inl got
      by false (suc i) l got rest = rest i (omega (arith, l)) got

module _ (key : ℕ → Option Key) (indexes : List (Option Index)) (ps : List Procedure) (is : AreIndexes key indexes ps) where
  in_list : (q : ℕ) (index : Index) → slice_get indexes q ≡ Some (Some index) → q < length ps
  in_list q index got = omega (arith, slice_get_within indexes q (Some index) got, is.within)

  -- so each index is of some keys
  pub some_keys : (q : ℕ) (index : Index) → slice_get indexes q ≡ Some (Some index) → (keys : List (Option Key)) × IsIndex index keys
  some_keys q index got = elim (slice_get_cases ps q).1 [
    | inl at ↦ (keys_in key at.0.clauses, is.indexed q index at.0 got at.2)
    | inr past ↦ absurd (omega (arith, in_list q index got, past.0))
  ]

  pub indexes_taken : (x : Place) (p : Procedure) (e : Entry) → StandsAt ps x p e → AreIndexes key indexes (set ps x.procedure (clause_taken x e p))
  indexes_taken x p e stands = record {
    within = rw length-set is.within;
    indexed = λ q index p' got at. elim (got_either ps x.procedure (clause_taken x e p) q p' at) [
      | inl here ↦ (
          let same : keys_in key (clause_taken x e p).clauses ≡ keys_in key p.clauses = keys_without key p.clauses (x.index + (p.clauses.fronts - x.fronts)) e.clause e.gone stands.entry in
          let was : IsIndex index (keys_in key p.clauses) = is.indexed q index p got (ap (slice_get ps) here.0 ∙ stands.procedure) in
          subst (λ (r : Procedure). IsIndex index (keys_in key r.clauses)) here.1 (subst (IsIndex index) (sym same) was))
      | inr old ↦ is.indexed q index p' got old
    ];
  }

  pub indexes_dynamic : (pred : Pred) → AreIndexes key indexes (with_dynamic pred ps)
  indexes_dynamic pred =
      let other : Procedure = record { pred = pred; kind = Dynamic; clauses = no_clauses } in
      record {
        within = omega (arith, is.within, no_shorter (is_of pred) made_dynamic other ps);
        indexed = λ q index p' got at. elim (changed_back (is_of pred) made_dynamic other ps q p' (in_list q index got) at) [
          | inl old ↦ is.indexed q index p' got old
          | inr was ↦ subst (λ (r : Procedure). IsIndex index (keys_in key r.clauses)) was.1.1 (is.indexed q index was.0 got was.1.0)
        ];
      }

  pub indexes_put : (indexes' : List (Option Index)) (procedure : ℕ) (new : Index) → procedure < length ps → HasPut procedure new indexes indexes'
      → ((p : Procedure) → slice_get ps procedure ≡ Some p → IsIndex new (keys_in key p.clauses)) → AreIndexes key indexes' ps
  indexes_put indexes' procedure new l put made = record {
    within = put.within (length ps) is.within l;
    indexed = λ q index p got at. elim (put.kept q index got) [
      | inl old ↦ is.indexed q index p old at
      | inr here ↦ subst (λ (i : Index). IsIndex i (keys_in key p.clauses)) (sym here.1) (made p (ap (slice_get ps) (sym here.0) ∙ at))
    ];
  }

-- the clause at a place of a procedure is known
pub entry_at : (places : List Place) (ps : List Procedure) (q : ℕ) (l : ListValue) (i : ℕ) → IsStore places ps → q < length ps → ((p : Procedure) → slice_get ps q ≡ Some p → l ≡ p.clauses)
    → i < length l.entries → (e : Entry) × (slice_get l.entries i ≡ Some e) × (e.clause < length places)
entry_at places ps q l i store inside same within = elim (slice_get_cases ps q).1 [
  | inr past ↦ absurd (omega (arith, inside, past.0))
  | inl p ↦ elim (slice_get_cases l.entries i).1 [
    | inr past ↦ absurd (omega (arith, within, past.0))
    | inl e ↦ (
        let s = store.stored q p.0 i e.0 p.2 (ap (λ (v : ListValue). slice_get v.entries i) (sym (same p.0 p.2)) ∙ e.2) in
        (e.0, e.2, slice_get_within places e.0.clause s.place s.stored))
  ]
]

-- ---- a clause added

module _ {C : Type 0} (key_of : C → Option Key) (contents : List C) (content : C) where
  key_last : key_at key_of (contents ++ content ∷ []) (length contents) ≡ key_of content
  key_last = ap (λ o. option_map_or key_of o None) (got_last contents content)

  pub key_before : (n : ℕ) → n < length contents → key_at key_of (contents ++ content ∷ []) n ≡ key_at key_of contents n
  key_before n l = elim (slice_get_cases contents n).1 [
    | inl at ↦ ap (λ o. option_map_or key_of o None) (get_kept contents (content ∷ []) n at.0 at.2 ∙ sym at.2)
    | inr past ↦ absurd (omega (arith, l, past.0))
  ]

  module _ (places places' : List Place) (ps : List Procedure) (indexes indexes' : List (Option Index)) (x : Place) (end : End) (kind : Kind) (pred : Pred)
      (count : length contents ≡ length places) (is : AreIndexes (key_at key_of contents) indexes ps) (store : IsStore places ps)
      (after : IsStore places' (with_clause end kind pred (length places) ps)) (stored : slice_get places' (length places) ≡ Some x)
      (at : IsAt (with_clause end kind pred (length places) ps) x (there (length places)))
      (grown : HasGrown x.procedure (key_of content) end indexes indexes') where
    abbrev n : ℕ
    n = length places

    abbrev key : ℕ → Option Key
    key = key_at key_of contents

    abbrev key' : ℕ → Option Key
    key' = key_at key_of (contents ++ content ∷ [])

    -- the clauses that were there keep their keys
    same_keys : (q : ℕ) (p : Procedure) → slice_get ps q ≡ Some p → keys_in key' p.clauses ≡ keys_in key p.clauses
    same_keys q p got = map_same (λ (e : Entry). key' e.clause) (λ (e : Entry). key e.clause) p.clauses.entries (λ i e stood.
        let s = store.stored q p i e got stood in
        key_before e.clause (omega (arith, slice_get_within places e.clause s.place s.stored, count)))

    -- and the new one stands in the procedure of its place
    new_in : (l : ListValue) → (i : ℕ) × (slice_get (list_with end n l).entries i ≡ Some (there n))
    new_in l = by end
      where
        by : (end : End) → (i : ℕ) × (slice_get (list_with end n l).entries i ≡ Some (there n))
        by First = (0, refl)
        by Last = (length l.entries, got_last l.entries (there n))

    abbrev changed : List Procedure
    changed = with_clause end kind pred n ps

    indexed : (q : ℕ) (index : Index) (p : Procedure) → slice_get indexes' q ≡ Some (Some index) → slice_get changed q ≡ Some p → IsIndex index (keys_in key' p.clauses)
    indexed q index p got stands =
        let l : q < length ps = omega (arith, slice_get_within indexes' q (Some index) got, grown.same_length, is.within) in
        elim (changed_back (is_of pred) (clause_added_to end n) (record { pred = pred; kind = kind; clauses = list_with end n no_clauses }) ps q p l stands) [
          | inl old ↦ (
              let apart : q ≡ x.procedure → ⊥ = (λ e.
              let same : at.0 ≡ p = same_Some at.0 p (sym at.1.procedure ∙ ap (slice_get changed) (sym e) ∙ stands) in
              let there' : slice_get p.clauses.entries (x.index + (at.0.clauses.fronts - x.fronts)) ≡ Some (there n) = ap (λ (r : Procedure). slice_get r.clauses.entries (x.index + (at.0.clauses.fronts - x.fronts))) (sym same) ∙ at.1.entry in
              let s = store.stored q p (x.index + (at.0.clauses.fronts - x.fronts)) (there n) old there' in
              let wrong : n < length places = slice_get_within places n s.place s.stored in
              omega (arith, wrong)) in
              subst (IsIndex index) (sym (same_keys q p old)) (is.indexed q index p (grown.others q index got apart) old))
          | inr was ↦ (
              let new = new_in was.0.clauses in
              let there' : slice_get p.clauses.entries new.0 ≡ Some (there n) = ap (λ (r : Procedure). slice_get r.clauses.entries new.0) (sym was.1.1) ∙ new.1 in
              let s = after.stored q p new.0 (there n) stands there' in
              let here : x.procedure ≡ q = ap (λ (y : Place). y.procedure) (same_Some x s.place (sym stored ∙ s.stored)) ∙ s.procedure in
              let grew = grown.grown index (ap (slice_get indexes') here ∙ got) in
              let before : IsIndex grew.before (keys_in key was.0.clauses) = is.indexed q grew.before was.0 (ap (slice_get indexes) (sym here) ∙ grew.there) was.1.0 in
              let more : IsIndex index (added end (key_of content) (keys_in key was.0.clauses)) = grew.grown (keys_in key was.0.clauses) before in
              let same : keys_in key' p.clauses ≡ added end (key_of content) (keys_in key was.0.clauses) =
              ap (λ (r : Procedure). keys_in key' r.clauses) (sym was.1.1) ∙ keys_with key' end n was.0.clauses
              ∙ ap₂ (λ k ks. added end k ks) (ap key' (sym count) ∙ key_last) (same_keys q was.0 was.1.0) in
              subst (IsIndex index) (sym same) more)
        ]

    pub indexes_added : AreIndexes key' indexes' changed
    indexes_added = record {
      within = omega (arith, grown.same_length, is.within, no_shorter (is_of pred) (clause_added_to end n) (record { pred = pred; kind = kind; clauses = list_with end n no_clauses }) ps);
      indexed = indexed;
    }

-- ---- as the code has it

module _ {C : Type 0} (key_of : C → Option Key) (contents contents' : List C) (content : C) (places places' : List Place) (ps after : List Procedure) (indexes indexes' : List (Option Index))
    (x : Place) (end : End) (kind : Kind) (pred : Pred) (n : ℕ) (is : IsHeld places (key_at key_of contents) indexes ps) where
  pub kept_pushed : n ≡ length places → length contents ≡ length places → after ≡ with_clause end kind pred n ps → IsAt after x (there n) → places' ≡ places ++ x ∷ [] → contents' ≡ contents ++ content ∷ []
      → HasGrown x.procedure (key_of content) end indexes indexes' → IsHeld places' (key_at key_of contents') indexes' after
  kept_pushed count whole added at pushed more grown =
      let store = is_store_pushed places places' ps after x end kind pred n is.store count added at pushed in
      let made : after ≡ with_clause end kind pred (length places) ps = added ∙ ap (λ m. with_clause end kind pred m ps) count in
      let at' : IsAt (with_clause end kind pred (length places) ps) x (there (length places)) =
      subst (λ qs. IsAt qs x (there (length places))) made (subst (λ m. IsAt after x (there m)) count at) in
      let stored : slice_get places' (length places) ≡ Some x = ap (λ xs. slice_get xs (length places)) pushed ∙ got_last places x in
      record {
        store = store;
        by_key = subst (AreIndexes (key_at key_of contents') indexes') (sym made)
            (subst (λ cs. AreIndexes (key_at key_of cs) indexes' (with_clause end kind pred (length places) ps)) (sym more)
            (indexes_added key_of contents content places places' ps indexes indexes' x end kind pred whole is.by_key is.store (subst (IsStore places') made store) stored at' grown));
      }

module _ (places : List Place) (key : ℕ → Option Key) (indexes : List (Option Index)) (ps after : List Procedure) (is : IsHeld places key indexes ps) where
  pub kept_taken : (x : Place) (n : ℕ) → slice_get places n ≡ Some x → ((p : Procedure) (e : Entry) → StandsAt ps x p e → after ≡ set ps x.procedure (clause_taken x e p)) → IsHeld places key indexes after
  kept_taken x n stored removed =
      let at = is.store.stands n x stored in
      record {
        store = is_store_taken places ps after x n is.store stored removed;
        by_key = subst (AreIndexes key indexes) (sym (removed at.procedure at.entry at.stands)) (indexes_taken key indexes ps is.by_key x at.procedure at.entry at.stands);
      }

  pub kept_dynamic : (pred : Pred) → after ≡ with_dynamic pred ps → IsHeld places key indexes after
  kept_dynamic pred made = subst (IsHeld places key indexes) (sym made) (record { store = is_store_dynamic places ps pred is.store; by_key = indexes_dynamic key indexes ps is.by_key pred })

pub kept_all_dynamic : (places : List Place) (key : ℕ → Option Key) (indexes : List (Option Index)) (preds : List Pred) (ps after : List Procedure) → IsHeld places key indexes ps
    → after ≡ with_all_dynamic preds ps → IsHeld places key indexes after
kept_all_dynamic places key indexes [] ps after is made = subst (IsHeld places key indexes) (sym made) is
kept_all_dynamic places key indexes (pred ∷ preds) ps after is made =
    kept_all_dynamic places key indexes preds (with_dynamic pred ps) after (kept_dynamic places key indexes ps (with_dynamic pred ps) is pred refl) made
