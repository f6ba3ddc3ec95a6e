-- Each clause stands where it was stored, through every change.
use Rattle.std.proofs.Common.{◌≡◌, ℕ, zero, suc, ◌+◌, ◌-◌, ◌<◌, ◌≤◌, Bool, true, false, cond, List, [], ◌∷◌, ◌++◌, length, map, set, get_or, Option, Some, None, refl, sym, ap, ap₂, subst, ◌∙◌, ◌⊎◌, inl, inr, arith}
use Rattle.std.specs.Prelude.{slice_get}
use Rattle.std.specs.Option.{option_map}
use Rattle.std.proofs.lemmas.Option.{none-some, same_Some, slice_get_within, slice_get_read, slice_get-map}
use Rattle.cq_term.specs.declared.names.Pred.{Pred}
use Rattle.cq_clauses.specs.declared.list.End.{End}
use Rattle.cq_clauses.specs.declared.list.End.TheVariants.{First, Last}
use Rattle.cq_clauses.specs.declared.procedures.Kind.{Kind}
use Rattle.cq_clauses.specs.declared.procedures.Kind.TheVariants.{Dynamic}
use Rattle.cq_clauses.specs.declared.procedures.Procedure.{Procedure}
use Rattle.cq_clauses.specs.declared.procedures.Place.{Place}
use Rattle.cq_clauses.specs.Lists.{Entry, ListValue}
use Rattle.cq_clauses.specs.Changes.{there, went, no_clauses, list_with, list_without}
use Rattle.cq_clauses.specs.Database.{first_changed, database, clause_removed}
use Rattle.cq_clauses.specs.Procedures.{is_of, clause_added_to, with_clause, made_dynamic, with_dynamic, StandsAt, IsAt, IsPlace, clause_taken}
use Rattle.cq_clauses.specs.Snapshots.{KeepsSnapshots}
use Rattle.spec_numbers.proofs.Places.{get_kept, get_push}
use Rattle.cq_clauses.proofs.Writes.{got_either, got_still, got_last}
use Rattle.cq_clauses.proofs.Found.{changed_still}
use Rattle.cq_clauses.proofs.Kept.{keeps_set, follows_without}
use Rattle.cq_clauses.proofs.Removed.{database_removed}
use Rattle.cq_clauses.specs.Stored.{NumberAt, StoredAt, IsStore}

-- ---- one list to the next

-- a clause of this number is in the list at an index
pub record Holds (l : ListValue) (i n : ℕ) : Type 0 where
  pub entry : Entry
  pub got : slice_get l.entries i ≡ Some entry
  pub number : entry.clause ≡ n

-- the clauses of the one list are in the other, moved by those that were added in front
pub record Moves (old new : ListValue) : Type 0 where
  pub fronts : old.fronts ≤ new.fronts
  pub moved : (i n : ℕ) → Holds old i n → Holds new (i + (new.fronts - old.fronts)) n

-- a clause of the other list was in the one
pub record Was (old new : ListValue) (i n : ℕ) : Type 0 where
  pub index : ℕ
  pub held : Holds old index n
  pub moved : i ≡ index + (new.fronts - old.fronts)

pub moves_same : (l : ListValue) → Moves l l
moves_same l = record {
  fronts = omega arith;
  moved = λ i n h. let at : i ≡ i + (l.fronts - l.fronts) = omega arith in subst (λ k. Holds l k n) at h;
}

was_same : (l : ListValue) (i n : ℕ) → Holds l i n → Was l l i n
was_same l i n h = record { index = i; held = h; moved = omega arith }

-- the index of a clause that is added
abbrev spot : End → ListValue → ℕ
spot First l = 0
spot Last l = length l.entries

moves_with : (end : End) (n : ℕ) (l : ListValue) → Moves l (list_with end n l)
moves_with First n l = record {
  fronts = omega arith;
  moved = λ i m h. let at : suc i ≡ i + (l.fronts + 1 - l.fronts) = omega arith in subst (λ k. Holds (list_with First n l) k m) at (record { entry = h.entry; got = h.got; number = h.number });
}
moves_with Last n l = record {
  fronts = omega arith;
  moved = λ i m h. let at : i ≡ i + (l.fronts - l.fronts) = omega arith in
      subst (λ k. Holds (list_with Last n l) k m) at (record { entry = h.entry; got = get_kept l.entries (there n ∷ []) i h.entry h.got; number = h.number });
}

was_with : (end : End) (n : ℕ) (l : ListValue) (i m : ℕ) → Holds (list_with end n l) i m → Was l (list_with end n l) i m ⊎ (i ≡ spot end l)
was_with First n l zero m h = inr refl
was_with First n l (suc i) m h = inl (record { index = i; held = record { entry = h.entry; got = h.got; number = h.number }; moved = omega arith })
was_with Last n l i m h = elim (get_push l.entries (there n) i h.entry h.got) [
  | inl old ↦ inl (record { index = i; held = record { entry = h.entry; got = old; number = h.number }; moved = omega arith })
  | inr last ↦ inr last.0
]

-- one clause written in the place of another of its number
module _ (es : List Entry) (at : ℕ) (x y : Entry) (stood : slice_get es at ≡ Some x) (same : x.clause ≡ y.clause) (i : ℕ) (e : Entry) where
  was_entry : slice_get (set es at y) i ≡ Some e → (d : Entry) × ((slice_get es i ≡ Some d) × (d.clause ≡ e.clause))
  was_entry got = elim (got_either es at y i e got) [
    | inl here ↦ (x, (ap (slice_get es) here.0 ∙ stood, same ∙ ap (λ (w : Entry). w.clause) here.1))
    | inr old ↦ (e, (old, refl))
  ]

  now_entry : slice_get es i ≡ Some e → (d : Entry) × ((slice_get (set es at y) i ≡ Some d) × (d.clause ≡ e.clause))
  now_entry got = elim (got_still es at x y i e stood got) [
    | inl old ↦ (e, (old, refl))
    | inr here ↦ (y, (here.0, sym same ∙ ap (λ (w : Entry). w.clause) here.1))
  ]

module _ (l : ListValue) (place clause : ℕ) where
  moves_without : (gone : Option ℕ) → slice_get l.entries place ≡ Some (record { clause = clause; gone = gone }) → Moves l (list_without l place clause gone)
  moves_without (Some at) got = moves_same l
  moves_without None got = record {
    fronts = omega arith;
    moved = λ i n h.
        let at : i ≡ i + (l.fronts - l.fronts) = omega arith in
        let found = now_entry l.entries place (there clause) (went clause l.removals) got refl i h.entry h.got in
        subst (λ k. Holds (list_without l place clause None) k n) at (record { entry = found.0; got = found.1.0; number = found.1.1 ∙ h.number });
  }

  was_without : (gone : Option ℕ) → slice_get l.entries place ≡ Some (record { clause = clause; gone = gone }) → (i n : ℕ) → Holds (list_without l place clause gone) i n → Was l (list_without l place clause gone) i n
  was_without (Some at) got i n h = was_same l i n h
  was_without None got i n h =
      let found = was_entry l.entries place (there clause) (went clause l.removals) got refl i h.entry h.got in
      record { index = i; held = record { entry = found.0; got = found.1.0; number = found.1.1 ∙ h.number }; moved = omega arith }

-- ---- the procedures

-- where a procedure of the one is in the other
pub record MovedTo (p : Procedure) (new : List Procedure) (q : ℕ) : Type 0 where
  pub after : Procedure
  pub stands : slice_get new q ≡ Some after
  pub moves : Moves p.clauses after.clauses

-- where a clause of the other was in the one
pub record CameFrom (old : List Procedure) (q : ℕ) (after : Procedure) (i n : ℕ) : Type 0 where
  pub before : Procedure
  pub stood : slice_get old q ≡ Some before
  pub moves : Moves before.clauses after.clauses
  pub was : Was before.clauses after.clauses i n

module _ (places places' : List Place) (old new : List Procedure)
    (kept : (n : ℕ) (x : Place) → slice_get places n ≡ Some x → slice_get places' n ≡ Some x)
    (fresh : (n : ℕ) (x : Place) → slice_get places' n ≡ Some x → (slice_get places n ≡ Some x) ⊎ NumberAt new x n)
    (forward : (q : ℕ) (p : Procedure) → slice_get old q ≡ Some p → MovedTo p new q)
    (backward : (q : ℕ) (p : Procedure) (i n : ℕ) → slice_get new q ≡ Some p → Holds p.clauses i n → CameFrom old q p i n ⊎ StoredAt places' q p i n)
    (is : IsStore places old) where
  still : (n : ℕ) (x : Place) → NumberAt old x n → NumberAt new x n
  still n x at =
      let s = at.stands in
      let to = forward x.procedure at.procedure s.procedure in
      let held = to.moves.moved (x.index + (at.procedure.clauses.fronts - x.fronts)) n (record { entry = at.entry; got = s.entry; number = at.number }) in
      let same : x.index + (at.procedure.clauses.fronts - x.fronts) + (to.after.clauses.fronts - at.procedure.clauses.fronts) ≡ x.index + (to.after.clauses.fronts - x.fronts) = omega (arith, s.fronts, to.moves.fronts) in
      record {
        procedure = to.after;
        entry = held.entry;
        stands = record { procedure = to.stands; fronts = omega (arith, s.fronts, to.moves.fronts); entry = ap (slice_get to.after.clauses.entries) (sym same) ∙ held.got };
        number = held.number;
      }

  came : (q : ℕ) (p : Procedure) (i n : ℕ) → CameFrom old q p i n → StoredAt places' q p i n
  came q p i n from =
      let at = from.was in
      let s = is.stored q from.before at.index at.held.entry from.stood at.held.got in
      record {
        place = s.place;
        stored = subst (λ m. slice_get places' m ≡ Some s.place) at.held.number (kept at.held.entry.clause s.place s.stored);
        procedure = s.procedure;
        fronts = omega (arith, s.fronts, from.moves.fronts);
        index = omega (arith, s.fronts, from.moves.fronts, s.index, at.moved);
      }

  pub is_store_after : IsStore places' new
  is_store_after = record {
    stands = λ n x got. elim (fresh n x got) [ inl old' ↦ still n x (is.stands n x old') | inr new' ↦ new' ];
    stored = λ q p i e got at. elim (backward q p i e.clause got (record { entry = e; got = at; number = refl })) [ inl from ↦ came q p i e.clause from | inr here ↦ here ];
  }

-- ---- a change of one procedure

-- where the change is made: the number of the procedure, and the index in it
abbrev procedure_spot : (Procedure → Bool) → List Procedure → ℕ
procedure_spot test [] = 0
procedure_spot test (x ∷ ps) = cond (test x) 0 (suc (procedure_spot test ps))

abbrev index_spot : (Procedure → Bool) → (Procedure → ℕ) → List Procedure → ℕ
index_spot test index [] = 0
index_spot test index (x ∷ ps) = cond (test x) (index x) (index_spot test index ps)

module _ (test : Procedure → Bool) (change : Procedure → Procedure) (other : Procedure)
    (moves : (p : Procedure) → Moves p.clauses (change p).clauses) where
  pub forward_changed : (ps : List Procedure) (q : ℕ) (p : Procedure) → slice_get ps q ≡ Some p → MovedTo p (first_changed test change other ps) q
  forward_changed ps q p got = elim (changed_still test change other ps q p got) [
    | inl same ↦ record { after = p; stands = same; moves = moves_same p.clauses }
    | inr changed ↦ record { after = change p; stands = changed; moves = moves p }
  ]

  -- A: a clause was added
  module _ (A : Type 0) (index : Procedure → ℕ) (was : (p : Procedure) (i n : ℕ) → Holds (change p).clauses i n → Was p.clauses (change p).clauses i n ⊎ (A × (i ≡ index p))) where
    pub backward_changed : ((i n : ℕ) → Holds other.clauses i n → A × (i ≡ 0)) → (ps : List Procedure) (q : ℕ) (p : Procedure) (i n : ℕ) → slice_get (first_changed test change other ps) q ≡ Some p → Holds p.clauses i n
        → CameFrom ps q p i n ⊎ (A × ((q ≡ procedure_spot test ps) × (i ≡ index_spot test index ps)))
    backward_changed alone [] zero p i n got h = let a = alone i n (subst (λ (r : Procedure). Holds r.clauses i n) (sym (same_Some other p got)) h) in inr (a.0, (refl, a.1))
    backward_changed alone [] (suc q) p i n got h = absurd (none-some p got)
    backward_changed alone (x ∷ ps) q p i n got h = by (test x) q got (λ j g. backward_changed alone ps j p i n g h)
      where
        by : (b : Bool) (q : ℕ) → slice_get (cond b (change x ∷ ps) (x ∷ first_changed test change other ps)) q ≡ Some p
            → ((j : ℕ) → slice_get (first_changed test change other ps) j ≡ Some p → CameFrom ps j p i n ⊎ (A × ((j ≡ procedure_spot test ps) × (i ≡ index_spot test index ps))))
            → CameFrom (x ∷ ps) q p i n ⊎ (A × ((q ≡ cond b 0 (suc (procedure_spot test ps))) × (i ≡ cond b (index x) (index_spot test index ps))))
        by true zero got rest =
            let same : change x ≡ p = same_Some (change x) p got in
            elim (was x i n (subst (λ (r : Procedure). Holds r.clauses i n) (sym same) h)) [
              | inl w ↦ inl (subst (λ (r : Procedure). CameFrom (x ∷ ps) 0 r i n) same (record { before = x; stood = refl; moves = moves x; was = w }))
              | inr at ↦ inr (at.0, (refl, at.1))
            ]
        by true (suc q) got rest = inl (record { before = p; stood = got; moves = moves_same p.clauses; was = was_same p.clauses i n h })
        by false zero got rest = inl (record { before = p; stood = got; moves = moves_same p.clauses; was = was_same p.clauses i n h })
        by false (suc q) got rest = elim (rest q got) [
          | inl from ↦ inl (record { before = from.before; stood = from.stood; moves = from.moves; was = from.was })
          | inr at ↦ inr (at.0, (ap suc at.1.0, at.1.1))
        ]

-- ---- a clause added

alone_with : (end : End) (clause i n : ℕ) → Holds (list_with end clause no_clauses) i n → i ≡ 0
alone_with First clause zero n h = refl
alone_with First clause (suc i) n h = absurd (none-some h.entry h.got)
alone_with Last clause zero n h = refl
alone_with Last clause (suc i) n h = absurd (none-some h.entry h.got)

module _ (places : List Place) (ps : List Procedure) (x : Place) (end : End) (kind : Kind) (pred : Pred) (is : IsStore places ps)
    (here : IsAt (with_clause end kind pred (length places) ps) x (there (length places))) where
  abbrev other : Procedure
  other = record { pred = pred; kind = kind; clauses = list_with end (length places) no_clauses }

  abbrev grown : List Procedure
  grown = first_changed (is_of pred) (clause_added_to end (length places)) other ps

  from : (q : ℕ) (p : Procedure) (i m : ℕ) → slice_get grown q ≡ Some p → Holds p.clauses i m
      → CameFrom ps q p i m ⊎ ((q ≡ procedure_spot (is_of pred) ps) × (i ≡ index_spot (is_of pred) (λ r. spot end r.clauses) ps))
  from q p i m got h = elim (backward_changed (is_of pred) (clause_added_to end (length places)) other (λ r. moves_with end (length places) r.clauses) (Unit {0}) (λ r. spot end r.clauses)
      (λ r j k held. elim (was_with end (length places) r.clauses j k held) [ inl w ↦ inl w | inr at ↦ inr (tt, at) ])
      (λ j k held. (tt, alone_with end (length places) j k held)) ps q p i m got h) [ inl old ↦ inl old | inr new ↦ inr new.1 ]

  -- no clause had the new number before
  unknown : (q : ℕ) (p : Procedure) (i : ℕ) → CameFrom ps q p i (length places) → ⊥
  unknown q p i c =
      let s = is.stored q c.before c.was.index c.was.held.entry c.stood c.was.held.got in
      let l : c.was.held.entry.clause < length places = slice_get_within places c.was.held.entry.clause s.place s.stored in
      omega (arith, l, c.was.held.number)

  -- so it stands at its place
  at_spot : (x.procedure ≡ procedure_spot (is_of pred) ps) × (x.index + (here.0.clauses.fronts - x.fronts) ≡ index_spot (is_of pred) (λ r. spot end r.clauses) ps)
  at_spot = elim (from x.procedure here.0 (x.index + (here.0.clauses.fronts - x.fronts)) (length places) here.1.procedure (record { entry = there (length places); got = here.1.entry; number = refl })) [
    | inl old ↦ absurd (unknown x.procedure here.0 (x.index + (here.0.clauses.fronts - x.fronts)) old)
    | inr new ↦ new
  ]

  backward : (q : ℕ) (p : Procedure) (i m : ℕ) → slice_get grown q ≡ Some p → Holds p.clauses i m → CameFrom ps q p i m ⊎ StoredAt (places ++ x ∷ []) q p i m
  backward q p i m got h = elim (from q p i m got h) [
    | inl old ↦ inl old
    | inr new ↦ inr (
        let same_q : x.procedure ≡ q = at_spot.0 ∙ sym new.0 in
        let same_p : here.0 ≡ p = same_Some here.0 p (sym here.1.procedure ∙ ap (slice_get grown) same_q ∙ got) in
        let index : x.index + (p.clauses.fronts - x.fronts) ≡ i = subst (λ (r : Procedure). x.index + (r.clauses.fronts - x.fronts) ≡ i) same_p (at_spot.1 ∙ sym new.1) in
        let entry : slice_get p.clauses.entries i ≡ Some (there (length places)) =
        ap (slice_get p.clauses.entries) (sym index) ∙ subst (λ (r : Procedure). slice_get r.clauses.entries (x.index + (r.clauses.fronts - x.fronts)) ≡ Some (there (length places))) same_p here.1.entry in
        let number : length places ≡ m = ap (λ (e : Entry). e.clause) (same_Some (there (length places)) h.entry (sym entry ∙ h.got)) ∙ h.number in
        record {
          place = x;
          stored = subst (λ k. slice_get (places ++ x ∷ []) k ≡ Some x) number (got_last places x);
          procedure = same_q;
          fronts = subst (λ (r : Procedure). x.fronts ≤ r.clauses.fronts) same_p here.1.fronts;
          index = index;
        })
  ]

  pub is_store_added : IsStore (places ++ x ∷ []) grown
  is_store_added = is_store_after places (places ++ x ∷ []) ps grown
      (λ m y got. get_kept places (x ∷ []) m y got)
      (λ m y got. elim (get_push places x m y got) [
        | inl old ↦ inl old
        | inr last ↦ inr (subst (λ (z : Place). NumberAt grown z m) last.1 (record { procedure = here.0; entry = there (length places); stands = here.1; number = sym last.0 }))
      ])
      (forward_changed (is_of pred) (clause_added_to end (length places)) other (λ r. moves_with end (length places) r.clauses) ps)
      backward is

-- ---- a procedure made dynamic

pub is_store_dynamic : (places : List Place) (ps : List Procedure) (pred : Pred) → IsStore places ps → IsStore places (with_dynamic pred ps)
is_store_dynamic places ps pred is =
    let other : Procedure = record { pred = pred; kind = Dynamic; clauses = no_clauses } in
    is_store_after places places ps (with_dynamic pred ps) (λ m y got. got) (λ m y got. inl got)
    (forward_changed (is_of pred) made_dynamic other (λ r. moves_same r.clauses) ps)
    (λ q p i m got h. elim (backward_changed (is_of pred) made_dynamic other (λ r. moves_same r.clauses) ⊥ (λ r. 0) (λ r i m h. inl (was_same r.clauses i m h)) (λ i m h. absurd (none-some h.entry h.got)) ps q p i m got h) [
      | inl old ↦ inl old
      | inr new ↦ absurd new.0
    ])
    is

-- ---- a clause taken away

module _ (places : List Place) (ps : List Procedure) (x : Place) (p : Procedure) (e : Entry) (stands : StandsAt ps x p e) where
  abbrev at_index : ℕ
  at_index = x.index + (p.clauses.fronts - x.fronts)

  abbrev same_entry : slice_get p.clauses.entries at_index ≡ Some (record { clause = e.clause; gone = e.gone })
  same_entry = stands.entry

  forward_set : (at : ℕ) (y : Procedure) → slice_get ps at ≡ Some p → Moves p.clauses y.clauses → (q : ℕ) (r : Procedure) → slice_get ps q ≡ Some r → MovedTo r (set ps at y) q
  forward_set at y stood moves q r got = elim (got_still ps at p y q r stood got) [
    | inl same ↦ record { after = r; stands = same; moves = moves_same r.clauses }
    | inr here ↦ record { after = y; stands = here.0; moves = subst (λ (w : Procedure). Moves w.clauses y.clauses) here.1 moves }
  ]

  backward_set : (at : ℕ) (y : Procedure) → slice_get ps at ≡ Some p → Moves p.clauses y.clauses → ((i n : ℕ) → Holds y.clauses i n → Was p.clauses y.clauses i n)
      → (q : ℕ) (r : Procedure) (i n : ℕ) → slice_get (set ps at y) q ≡ Some r → Holds r.clauses i n → CameFrom ps q r i n
  backward_set at y stood moves was q r i n got h = elim (got_either ps at y q r got) [
    | inl here ↦ subst (λ (w : Procedure). CameFrom ps q w i n) here.1
        (record { before = p; stood = ap (slice_get ps) here.0 ∙ stood; moves = moves; was = was i n (subst (λ (w : Procedure). Holds w.clauses i n) (sym here.1) h) })
    | inr old ↦ record { before = r; stood = old; moves = moves_same r.clauses; was = was_same r.clauses i n h }
  ]

  pub is_store_removed : IsStore places ps → IsStore places (set ps x.procedure (clause_taken x e p))
  is_store_removed is =
      is_store_after places places ps (set ps x.procedure (clause_taken x e p)) (λ m y got. got) (λ m y got. inl got)
      (forward_set x.procedure (clause_taken x e p) stands.procedure (moves_without p.clauses at_index e.clause e.gone same_entry))
      (λ q r i n got h. inl (backward_set x.procedure (clause_taken x e p) stands.procedure (moves_without p.clauses at_index e.clause e.gone same_entry) (was_without p.clauses at_index e.clause e.gone same_entry) q r i n got h))
      is

  -- and it stands nowhere else
  pub only_there : IsStore places ps → slice_get places e.clause ≡ Some x → (q : ℕ) (r : Procedure) (i : ℕ) (d : Entry) → slice_get ps q ≡ Some r → slice_get r.clauses.entries i ≡ Some d → d.clause ≡ e.clause → (q ≡ x.procedure) × (i ≡ at_index)
  only_there is stored q r i d got at same =
      let s = is.stored q r i d got at in
      let place : s.place ≡ x = same_Some s.place x (sym s.stored ∙ ap (slice_get places) same ∙ stored) in
      let same_q : q ≡ x.procedure = sym s.procedure ∙ ap (λ (y : Place). y.procedure) place in
      let same_r : r ≡ p = same_Some r p (sym got ∙ ap (slice_get ps) same_q ∙ stands.procedure) in
      (same_q, sym s.index ∙ ap₂ (λ (y : Place) (w : Procedure). y.index + (w.clauses.fronts - y.fronts)) place same_r)

-- ---- as the code has it

pub is_store_pushed : (places places' : List Place) (ps after : List Procedure) (x : Place) (end : End) (kind : Kind) (pred : Pred) (n : ℕ) → IsStore places ps → n ≡ length places
    → after ≡ with_clause end kind pred n ps → IsAt after x (there n) → places' ≡ places ++ x ∷ [] → IsStore places' after
is_store_pushed places places' ps after x end kind pred n is count added at pushed =
    let added' : after ≡ with_clause end kind pred (length places) ps = added ∙ ap (λ m. with_clause end kind pred m ps) count in
    let at' : IsAt (with_clause end kind pred (length places) ps) x (there (length places)) = subst (λ qs. IsAt qs x (there (length places))) added' (subst (λ m. IsAt after x (there m)) count at) in
    subst (λ qs. IsStore places' qs) (sym added') (subst (λ xs. IsStore xs (with_clause end kind pred (length places) ps)) (sym pushed) (is_store_added places ps x end kind pred is at'))

module _ (places : List Place) (ps after : List Procedure) (x : Place) (n : ℕ) (is : IsStore places ps) (stored : slice_get places n ≡ Some x) where
  pub place_stands : IsPlace ps x
  place_stands = let at = is.stands n x stored in (at.procedure, (at.entry, at.stands))

  module _ (removed : (p : Procedure) (e : Entry) → StandsAt ps x p e → after ≡ set ps x.procedure (clause_taken x e p)) where
    pub is_store_taken : IsStore places after
    is_store_taken =
        let at = is.stands n x stored in
        subst (λ qs. IsStore places qs) (sym (removed at.procedure at.entry at.stands)) (is_store_removed places ps x at.procedure at.entry at.stands is)

    pub database_taken : database after ≡ clause_removed n (database ps)
    database_taken =
        let at = is.stands n x stored in
        let there' : slice_get places at.entry.clause ≡ Some x = ap (slice_get places) at.number ∙ stored in
        ap database (removed at.procedure at.entry at.stands)
        ∙ database_removed ps x.procedure at.procedure (x.index + (at.procedure.clauses.fronts - x.fronts)) at.entry at.stands.procedure at.stands.entry
        (only_there places ps x at.procedure at.entry at.stands is there')
        ∙ ap (λ m. clause_removed m (database ps)) at.number

    pub keeps_taken : KeepsSnapshots ps after
    keeps_taken =
        let at = is.stands n x stored in
        let p = at.procedure in
        let e = at.entry in
        subst (λ qs. KeepsSnapshots ps qs) (sym (removed p e at.stands))
        (keeps_set ps x.procedure p (clause_taken x e p) at.stands.procedure
        (follows_without p.clauses (x.index + (p.clauses.fronts - x.fronts)) e.clause e.gone at.stands.entry))

pub item_stored : {S A : Type 0} (f : S → A) (items : List S) (i n count : ℕ) (s : S) → i ≡ n → n < count → count ≡ length items → s ≡ get_or items i s → slice_get (map f items) n ≡ Some (f s)
item_stored f items i n count s same l whole read =
    let read' : s ≡ get_or items n s = read ∙ ap (λ k. get_or items k s) same in
    slice_get-map f items n ∙ ap (option_map f) (slice_get_read items count n s whole l read')
