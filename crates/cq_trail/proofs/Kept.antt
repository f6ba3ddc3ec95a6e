-- What each call of a trail keeps: its invariant, and the lists at the live marks.
use Rattle.std.proofs.Common.{◌≡◌, ℕ, zero, suc, ◌+◌, ◌-◌, ◌<◌, ◌≤◌, List, [], ◌∷◌, ◌++◌, length, Some, refl, sym, ap, ◌∙◌, subst, inl, inr, get_or, set, take, drop, arith, length-append, map, length-set, length-take}
use Rattle.std.specs.Prelude.{slice_get, Contains}
use Rattle.std.specs.List.{take-map}
use Rattle.std.specs.Option.{option_map}
use Rattle.std.proofs.lemmas.List.{take-append-le, drop-append-le, take-take, get_or-set_same, map-append, length-map, set-set, set-get_or}
use Rattle.std.proofs.lemmas.Option.{slice_get_within, none-some, slice_get-map, slice_get-get_or, get_or_from_slice_get}
use Rattle.cq_trail.specs.declared.trail.Entry.{Entry}
use Rattle.cq_trail.specs.declared.trail.Place.{Place}
use Rattle.cq_trail.specs.TrailValue.{newest, SavesOnce}
use Rattle.cq_trail.specs.Log.{restore, old_values, old_stamps, places, at_mark, saved_since, IsTrail, NeedsNoSaving, NeedsSaving}
use Rattle.cq_trail.proofs.Restore.{Within, length-restore, restore-append_right, within_drop, restore_covered, take-restore-set, restore-saved, restore-take-restore, restore_last, drop-take-drop}
use Rattle.cq_trail.proofs.Stamps.{EntriesWithin, value_of, stamp_of, place_of, values_within, stamps_within, has_value, saved_has, has_earlier, stamp_saved, saved_stamp}
use Rattle.spec_numbers.proofs.Places.{get_push, get_take, map_same}

get_or-append_zero : (xs : List ℕ) (i : ℕ) → get_or (xs ++ 0 ∷ []) i 0 ≡ get_or xs i 0
get_or-append_zero [] zero = refl
get_or-append_zero [] (suc i) = refl
get_or-append_zero (x ∷ xs) zero = refl
get_or-append_zero (x ∷ xs) (suc i) = get_or-append_zero xs i

get_or-take_zero : (n : ℕ) (xs : List ℕ) (i : ℕ) → get_or xs i 0 ≡ 0 → get_or (take n xs) i 0 ≡ 0
get_or-take_zero zero xs i e = refl
get_or-take_zero (suc n) [] i e = refl
get_or-take_zero (suc n) (x ∷ xs) zero e = e
get_or-take_zero (suc n) (x ∷ xs) (suc i) e = get_or-take_zero n xs i e

get_or-take-lt : (n : ℕ) (xs : List ℕ) (i : ℕ) → i < n → get_or (take n xs) i 0 ≡ get_or xs i 0
get_or-take-lt zero xs i h = absurd (omega arith)
get_or-take-lt (suc n) [] i h = refl
get_or-take-lt (suc n) (x ∷ xs) zero h = refl
get_or-take-lt (suc n) (x ∷ xs) (suc i) h = get_or-take-lt n xs i (omega arith)

drop_end : {A : Type 0} (xs : List A) (x : A) → drop (suc (length xs)) (xs ++ x ∷ []) ≡ []
drop_end [] x = refl
drop_end (y ∷ xs) x = drop_end xs x

map_map : {A B C : Type 0} (f : A → B) (g : B → C) (xs : List A) → map g (map f xs) ≡ map (λ x. g (f x)) xs
map_map f g [] = refl
map_map f g (x ∷ xs) = ap (λ l. g (f x) ∷ l) (map_map f g xs)

module _ {T : Type 0} where
  -- ---- push
  pub is_trail_push : (xs : List T) (stamps : List ℕ) (log : List (Entry T)) (marks : List Place) (x : T) → IsTrail xs stamps log marks → IsTrail (xs ++ x ∷ []) (stamps ++ 0 ∷ []) log marks
  is_trail_push xs stamps log marks x is =
      let w : Within (length stamps) (old_stamps log) = rw is.stamped (stamps_within (length xs) log is.entries) in
      record {
        stamped = length-append stamps (0 ∷ []) ∙ ap (λ n. n + 1) is.stamped ∙ sym (length-append xs (x ∷ []));
        entries = λ j e q. omega (arith, is.entries j e q, length-append xs (x ∷ []));
        within = λ k p q. (omega (arith, (is.within k p q).0, length-append xs (x ∷ [])), (is.within k p q).1);
        before = is.before;
        sorted = is.sorted;
        links = λ k c q.
            ap (λ (l : List ℕ). get_or l c.0 0) (restore-append_right (drop (suc k) (old_stamps log)) stamps (0 ∷ []) (within_drop (length stamps) (suc k) (old_stamps log) w))
            ∙ get_or-append_zero (restore (drop (suc k) (old_stamps log)) stamps) c.0 ∙ is.links k c q;
        unsaved = λ i.
            ap (λ (l : List ℕ). get_or l i 0) (restore-append_right (old_stamps log) stamps (0 ∷ []) w)
            ∙ get_or-append_zero (restore (old_stamps log) stamps) i ∙ is.unsaved i;
      }

  -- one more element changes no saved list
  pub saved_push : (xs : List T) (stamps : List ℕ) (log : List (Entry T)) (marks : List Place) (x : T) → IsTrail xs stamps log marks → map (at_mark log (xs ++ x ∷ [])) marks ≡ map (at_mark log xs) marks
  saved_push xs stamps log marks x is = map_same (at_mark log (xs ++ x ∷ [])) (at_mark log xs) marks (λ k p q.
      let cs : List (ℕ × T) = drop p.log (old_values log) in
      let w : Within (length xs) cs = within_drop (length xs) p.log (old_values log) (values_within (length xs) log is.entries) in
      let l : p.items ≤ length (restore cs xs) = rw (length-restore cs xs) (is.within k p q).0 in
      ap (take p.items) (restore-append_right cs xs (x ∷ []) w) ∙ take-append-le p.items (restore cs xs) (x ∷ []) l)

  -- ---- set, where nothing needs saving
  pub saved_write : (xs : List T) (stamps : List ℕ) (log : List (Entry T)) (marks : List Place) (i : ℕ) (x : T) → IsTrail xs stamps log marks → NeedsNoSaving marks i (get_or stamps i 0) → map (at_mark log (set xs i x)) marks ≡ map (at_mark log xs) marks
  saved_write xs stamps log marks i x is safe = map_same (at_mark log (set xs i x)) (at_mark log xs) marks (λ k p q.
      let lt : k < length marks = slice_get_within marks k p q in
      let last : Place = get_or marks (length marks - 1) p in
      let here : slice_get marks (length marks - 1) ≡ Some last = slice_get-get_or marks (length marks - 1) p (omega arith) in
      let order = is.sorted k (length marks - 1) p last q here (omega arith) in
      elim (safe last here) [
        | inl later ↦ take-restore-set (drop p.log (old_values log)) xs p.items i x (omega (arith, order.0, later))
        | inr saved ↦
            let inside : last.log ≤ length (old_stamps log) = rw length-map (is.within (length marks - 1) last here).1 in
            let since = stamp_saved (old_stamps log) stamps is.links is.unsaved last.log i inside saved in
            ap (take p.items) (restore_covered (drop p.log (old_values log)) xs i x (has_value i p.log log (has_earlier i p.log last.log (old_stamps log) order.1 since)))
      ])

  -- ---- set, with the value that it replaces put aside
  pub is_trail_save : (xs : List T) (stamps : List ℕ) (log : List (Entry T)) (marks : List Place) (i : ℕ) (x : T) (e : Entry T) (n : ℕ) →
      IsTrail xs stamps log marks → e.at ≡ i → e.stamp ≡ get_or stamps i e.stamp → i < length xs → n ≡ length log + 1 → IsTrail (set xs i x) (set stamps i n) (log ++ e ∷ []) marks
  is_trail_save xs stamps log marks i x e n is a o l en =
      let cs : List (ℕ × ℕ) = old_stamps log in
      let c : ℕ × ℕ = (i, e.stamp) in
      let grown : old_stamps (log ++ e ∷ []) ≡ cs ++ c ∷ [] = map-append stamp_of log (e ∷ []) ∙ ap (λ (j : ℕ). cs ++ (j, e.stamp) ∷ []) a in
      let back : set (set stamps i n) i e.stamp ≡ stamps = set-set stamps i n e.stamp ∙ ap (set stamps i) o ∙ set-get_or stamps i e.stamp in
      let size : length cs ≡ length log = rw length-map in
      let fresh : (k : ℕ) (d : ℕ × ℕ) → slice_get (cs ++ c ∷ []) k ≡ Some d → get_or (restore (drop (suc k) (cs ++ c ∷ [])) (set stamps i n)) d.0 0 ≡ suc k =
      λ (k : ℕ) (d : ℕ × ℕ) (q : slice_get (cs ++ c ∷ []) k ≡ Some d). elim (get_push cs c k d q) [
        | inl h ↦
            let lt : k < length cs = slice_get_within cs k d h in
            ap (λ (l : List ℕ). get_or l d.0 0) (restore_last cs c (suc k) (set stamps i n) (omega arith) ∙ ap (restore (drop (suc k) cs)) back) ∙ is.links k d h
        | inr h ↦
            let none : drop (suc k) (cs ++ c ∷ []) ≡ [] = ap (λ (j : ℕ). drop (suc j) (cs ++ c ∷ [])) h.0 ∙ drop_end cs c in
            let ls : i < length stamps = rw is.stamped l in
            ap (λ (m : List (ℕ × ℕ)). get_or (restore m (set stamps i n)) d.0 0) none
            ∙ ap (λ (y : ℕ × ℕ). get_or (set stamps i n) y.0 0) (sym h.1) ∙ get_or-set_same stamps i n 0 ls ∙ (let r : n ≡ suc k = omega (arith, h.0) in r)
      ] in
      record {
        stamped = length-set stamps i n ∙ is.stamped ∙ sym (length-set xs i x);
        entries = λ j f q. rw length-set (elim (get_push log e j f q) [ inl p ↦ is.entries j f p | inr r ↦ subst (λ (y : Entry T). y.at < length xs) r.1 (rw a l) ]);
        within = λ k p q. rw length-set ((is.within k p q).0, omega (arith, (is.within k p q).1, length-append log (e ∷ [])));
        before = λ k j p f q r lt. elim (get_push log e j f r) [ inl h ↦ is.before k j p f q h lt | inr h ↦ absurd (omega (arith, (is.within k p q).1, h.0)) ];
        sorted = is.sorted;
        links = subst (λ (ds : List (ℕ × ℕ)). (k : ℕ) (d : ℕ × ℕ) → slice_get ds k ≡ Some d → get_or (restore (drop (suc k) ds) (set stamps i n)) d.0 0 ≡ suc k) (sym grown) fresh;
        unsaved = λ j. ap (λ (ds : List (ℕ × ℕ)). get_or (restore ds (set stamps i n)) j 0) grown ∙ ap (λ (m : List ℕ). get_or m j 0) (restore-saved cs stamps i n e.stamp o) ∙ is.unsaved j;
      }

  pub saved_save : (xs : List T) (stamps : List ℕ) (log : List (Entry T)) (marks : List Place) (i : ℕ) (x : T) (e : Entry T) → IsTrail xs stamps log marks → e.at ≡ i → e.old ≡ get_or xs i e.old → map (at_mark (log ++ e ∷ []) (set xs i x)) marks ≡ map (at_mark log xs) marks
  saved_save xs stamps log marks i x e is a o = map_same (at_mark (log ++ e ∷ []) (set xs i x)) (at_mark log xs) marks (λ k p q.
      let cs : List (ℕ × T) = old_values log in
      let le : p.log ≤ length cs = rw length-map (is.within k p q).1 in
      let grown : drop p.log (old_values (log ++ e ∷ [])) ≡ drop p.log cs ++ (i, e.old) ∷ [] =
      ap (drop p.log) (map-append value_of log (e ∷ []) ∙ ap (λ (j : ℕ). cs ++ (j, e.old) ∷ []) a) ∙ drop-append-le p.log cs ((i, e.old) ∷ []) le in
      ap (take p.items) (ap (λ (ds : List (ℕ × T)). restore ds (set xs i x)) grown ∙ restore-saved (drop p.log cs) xs i x e.old o))

  -- the place is the one that is put aside, for the first time since the newest mark
  pub saves_once : (xs : List T) (stamps : List ℕ) (log : List (Entry T)) (marks : List Place) (i : ℕ) (e : Entry T) → IsTrail xs stamps log marks → e.at ≡ i → NeedsSaving marks i (get_or stamps i 0) →
      SavesOnce (map (saved_since log) marks) (map (saved_since (log ++ e ∷ [])) marks) i
  saves_once xs stamps log marks i e is a needs = inr (apart, grown)
    where
      grown : map (saved_since (log ++ e ∷ [])) marks ≡ map (λ c. c ++ i ∷ []) (map (saved_since log) marks)
      grown = map_same (saved_since (log ++ e ∷ [])) (λ p. saved_since log p ++ i ∷ []) marks (λ k p q.
          let le : p.log ≤ length (places log) = rw length-map (is.within k p q).1 in
          ap (drop p.log) (map-append place_of log (e ∷ []) ∙ ap (λ (j : ℕ). places log ++ j ∷ []) a) ∙ drop-append-le p.log (places log) (i ∷ []) le)
          ∙ sym (map_map (saved_since log) (λ c. c ++ i ∷ []) marks)

      last : newest (map (saved_since log) marks) ≡ saved_since log needs.0
      last =
          ap (λ (n : ℕ). get_or (map (saved_since log) marks) (n - 1) []) (let size : length (map (saved_since log) marks) ≡ length marks = rw length-map in size)
          ∙ get_or_from_slice_get (map (saved_since log) marks) (length marks - 1) (saved_since log needs.0) [] (slice_get-map (saved_since log) marks (length marks - 1) ∙ ap (option_map (saved_since log)) needs.1)

      apart : Contains (newest (map (saved_since log) marks)) i → ⊥
      apart h =
          let has = saved_has i needs.0.log log (subst (λ (c : List ℕ). Contains c i) last h) in
          omega (arith, needs.3, saved_stamp (old_stamps log) stamps is.links needs.0.log i has)

  -- ---- mark
  pub is_trail_mark : (xs : List T) (stamps : List ℕ) (log : List (Entry T)) (marks : List Place) (n g : ℕ) → n ≡ length xs → g ≡ length log → IsTrail xs stamps log marks → IsTrail xs stamps log (marks ++ record { items = n; log = g } ∷ [])
  is_trail_mark xs stamps log marks n g en eg is =
      let new : Place = record { items = n; log = g } in
      record {
        stamped = is.stamped;
        entries = is.entries;
        within = λ k p q. elim (get_push marks new k p q) [ inl h ↦ is.within k p h | inr h ↦ subst (λ (y : Place). (y.items ≤ length xs) × (y.log ≤ length log)) h.1 (omega arith, omega arith) ];
        before = λ k j p f q r lt. elim (get_push marks new k p q) [
          | inl h ↦ is.before k j p f h r lt
          | inr h ↦ subst (λ (y : Place). f.at < y.items) h.1 (rw en (is.entries j f r))
        ];
        sorted = λ k m p q r s le. elim (get_push marks new m q s) [
          | inl h ↦ elim (get_push marks new k p r) [
            | inl h' ↦ is.sorted k m p q h' h le
            | inr h' ↦ absurd (omega (arith, h'.0, slice_get_within marks m q h))
          ]
          | inr h ↦ subst (λ (y : Place). (p.items ≤ y.items) × (p.log ≤ y.log)) h.1 (elim (get_push marks new k p r) [
            | inl h' ↦ (omega (arith, (is.within k p h').0), omega (arith, (is.within k p h').1))
            | inr h' ↦ subst (λ (y : Place). (y.items ≤ n) × (y.log ≤ g)) h'.1 (omega arith, omega arith)
          ])
        ];
        links = is.links;
        unsaved = is.unsaved;
      }

  -- ---- undo
  pub is_trail_undo : (xs : List T) (stamps : List ℕ) (log : List (Entry T)) (marks : List Place) (m : ℕ) (p : Place) → IsTrail xs stamps log marks → slice_get marks m ≡ Some p →
      IsTrail (take p.items (restore (drop p.log (old_values log)) xs)) (take p.items (restore (drop p.log (old_stamps log)) stamps)) (take p.log log) (take m marks)
  is_trail_undo xs stamps log marks m p is here =
      let cs : List (ℕ × ℕ) = old_stamps log in
      let bound = is.within m p here in
      let l : length (take p.items (restore (drop p.log (old_values log)) xs)) ≡ p.items = simp (length-take) (omega (arith, length-restore (drop p.log (old_values log)) xs, bound.0)) in
      let s : length (take p.items (restore (drop p.log cs) stamps)) ≡ p.items = simp (length-take) (omega (arith, length-restore (drop p.log cs) stamps, bound.0, is.stamped)) in
      let d : length (take p.log log) ≡ p.log = simp (length-take) (omega (arith, bound.1)) in
      let front : EntriesWithin p.items (take p.log log) = λ (j : ℕ) (e : Entry T) (q : slice_get (take p.log log) j ≡ Some e). (let g = get_take p.log j log e q in is.before m j p e here g.0 g.1) in
      let cut : old_stamps (take p.log log) ≡ take p.log cs = sym (take-map stamp_of p.log log) in
      let w : Within p.items (take p.log cs) = subst (λ (ds : List (ℕ × ℕ)). Within p.items ds) cut (stamps_within p.items (take p.log log) front) in
      let links : (k : ℕ) (c : ℕ × ℕ) → slice_get (take p.log cs) k ≡ Some c → get_or (restore (drop (suc k) (take p.log cs)) (take p.items (restore (drop p.log cs) stamps))) c.0 0 ≡ suc k =
      λ (k : ℕ) (c : ℕ × ℕ) (q : slice_get (take p.log cs) k ≡ Some c). (
      let g = get_take p.log k cs c q in
      ap (λ (y : List ℕ). get_or y c.0 0) (restore-take-restore cs stamps p.items (suc k) p.log (omega (arith, g.1)) w)
      ∙ get_or-take-lt p.items (restore (drop (suc k) cs) stamps) c.0 (w k c q) ∙ is.links k c g.0) in
      record {
        stamped = s ∙ sym l;
        entries = λ j e q. rw l (front j e q);
        within = λ k q r. rw (l, d) (let g = get_take m k marks q r in is.sorted k m q p g.0 here (omega (arith, g.1)));
        before = λ k j q e r f lt. (let g = get_take m k marks q r in let h = get_take p.log j log e f in is.before k j q e g.0 h.0 lt);
        sorted = λ k n q r f h le. (let a = get_take m k marks q f in let b = get_take m n marks r h in is.sorted k n q r a.0 b.0 le);
        links = subst (λ (ds : List (ℕ × ℕ)). (k : ℕ) (c : ℕ × ℕ) → slice_get ds k ≡ Some c → get_or (restore (drop (suc k) ds) (take p.items (restore (drop p.log cs) stamps))) c.0 0 ≡ suc k) (sym cut) links;
        unsaved = λ i.
            ap (λ (ds : List (ℕ × ℕ)). get_or (restore ds (take p.items (restore (drop p.log cs) stamps))) i 0) cut
            ∙ ap (λ (y : List ℕ). get_or y i 0) (restore-take-restore cs stamps p.items 0 p.log (omega arith) w)
            ∙ get_or-take_zero p.items (restore cs stamps) i (is.unsaved i);
      }

  -- the lists that stay saved
  pub saved_undo : (xs : List T) (stamps : List ℕ) (log : List (Entry T)) (marks : List Place) (m : ℕ) (p : Place) → IsTrail xs stamps log marks → slice_get marks m ≡ Some p →
      map (at_mark (take p.log log) (take p.items (restore (drop p.log (old_values log)) xs))) (take m marks) ≡ take m (map (at_mark log xs) marks)
  saved_undo xs stamps log marks m p is here =
      let cs : List (ℕ × T) = old_values log in
      let front : EntriesWithin p.items (take p.log log) = λ (j : ℕ) (e : Entry T) (q : slice_get (take p.log log) j ≡ Some e). (let g = get_take p.log j log e q in is.before m j p e here g.0 g.1) in
      let cut : old_values (take p.log log) ≡ take p.log cs = sym (take-map value_of p.log log) in
      let w : Within p.items (take p.log cs) = subst (λ (ds : List (ℕ × T)). Within p.items ds) cut (values_within p.items (take p.log log) front) in
      map_same (at_mark (take p.log log) (take p.items (restore (drop p.log cs) xs))) (at_mark log xs) (take m marks) (λ k q r.
      let g = get_take m k marks q r in
      let order = is.sorted k m q p g.0 here (omega (arith, g.1)) in
      ap (take q.items) (ap (λ (ds : List (ℕ × T)). restore (drop q.log ds) (take p.items (restore (drop p.log cs) xs))) cut ∙ restore-take-restore cs xs p.items q.log p.log order.1 w)
      ∙ take-take q.items p.items (restore (drop q.log cs) xs) order.0)
      ∙ sym (take-map (at_mark log xs) m marks)

  -- what was put aside since the mark is taken off the lists of the earlier marks
  pub changed_undo : (xs : List T) (stamps : List ℕ) (log : List (Entry T)) (marks : List Place) (m : ℕ) (p : Place) → IsTrail xs stamps log marks → slice_get marks m ≡ Some p →
      take m (map (saved_since log) marks) ≡ map (λ c. c ++ get_or (map (saved_since log) marks) m []) (map (saved_since (take p.log log)) (take m marks))
  changed_undo xs stamps log marks m p is here =
      let since : get_or (map (saved_since log) marks) m [] ≡ saved_since log p =
      get_or_from_slice_get (map (saved_since log) marks) m (saved_since log p) [] (slice_get-map (saved_since log) marks m ∙ ap (option_map (saved_since log)) here) in
      take-map (saved_since log) m marks
      ∙ map_same (saved_since log) (λ q. saved_since (take p.log log) q ++ saved_since log p) (take m marks) (λ k q r.
      let g = get_take m k marks q r in
      let order = is.sorted k m q p g.0 here (omega (arith, g.1)) in
      sym (drop-take-drop q.log p.log (places log) order.1) ∙ ap (λ (l : List ℕ). drop q.log l ++ saved_since log p) (take-map place_of p.log log))
      ∙ sym (map_map (saved_since (take p.log log)) (λ c. c ++ saved_since log p) (take m marks))
      ∙ ap (λ (d : List ℕ). map (λ c. c ++ d) (map (saved_since (take p.log log)) (take m marks))) (sym since)

  -- ---- forget
  pub is_trail_forget : (xs : List T) (stamps : List ℕ) (log : List (Entry T)) (marks : List Place) (m : ℕ) → IsTrail xs stamps log marks → IsTrail xs stamps log (take m marks)
  is_trail_forget xs stamps log marks m is = record {
    stamped = is.stamped;
    entries = is.entries;
    within = λ k q r. is.within k q (get_take m k marks q r).0;
    before = λ k j q e r f lt. is.before k j q e (get_take m k marks q r).0 f lt;
    sorted = λ k n q r f h le. is.sorted k n q r (get_take m k marks q f).0 (get_take m n marks r h).0 le;
    links = is.links;
    unsaved = is.unsaved;
  }

  -- with no mark, the log is empty and no stamp is left
  pub is_trail_idle : (xs : List T) (stamps : List ℕ) (log : List (Entry T)) (marks none : List Place) → length none ≡ 0 → IsTrail xs stamps log marks → IsTrail xs (restore (old_stamps log) stamps) [] none
  is_trail_idle xs stamps log marks (p ∷ ps) e is = absurd (omega arith)
  is_trail_idle xs stamps log marks [] e is = record {
    stamped = length-restore (old_stamps log) stamps ∙ is.stamped;
    entries = λ j e q. absurd (none-some e q);
    within = λ k p q. absurd (none-some p q);
    before = λ k j p e q r lt. absurd (none-some p q);
    sorted = λ k m p q r s le. absurd (none-some p r);
    links = λ k c q. absurd (none-some c q);
    unsaved = is.unsaved;
  }
