-- Notes that are added, taken back and cut off stay linked.
use Rattle.std.proofs.Common.{◌≡◌, ℕ, zero, suc, ◌+◌, ◌<◌, ◌≤◌, List, [], ◌∷◌, ◌++◌, length, map, take, set, get_or, replicate, Some, refl, sym, ap, subst, ◌∙◌, inl, inr, arith}
use Rattle.std.specs.Prelude.{slice_get, slice_index}
use Rattle.std.specs.List.{take-map}
use Rattle.std.specs.Option.{option_map}
use Rattle.std.proofs.lemmas.Bool.{cases_eq, cases_lt, ne_eqb}
use Rattle.std.proofs.lemmas.List.{map-append, length-map, get_or-set_same, get_or-set_other, get_or_past, append_assoc, take_more, take_all, take_at, take-append-le, take-take}
use Rattle.std.proofs.lemmas.Option.{slice_get_within, slice_get-map}
use Rattle.std.proofs.lemmas.List.Elements.{All-more, All-weaker}
use Rattle.spec_numbers.proofs.Places.{get_push, get_kept, get_take, map_same}
use Rattle.cq_frac.specs.declared.VarId.{VarId}
use Rattle.cq_attr.specs.NotesValue.{behind_newest, IsNoteAt, noted}
use Rattle.cq_attr.specs.Chains.{pairs_of, first_pairs, AreLinked, HasPlaces}
use Rattle.cq_attr.specs.declared.notes.Note.{Note}
use Rattle.cq_attr.proofs.Newest.{newest_same, newest_other}

-- zeros past the end are there already
pub index_zeros : (xs : List ℕ) (n v : ℕ) → slice_index (xs ++ replicate n 0) v ≡ slice_index xs v
index_zeros [] zero v = refl
index_zeros [] (suc n) zero = refl
index_zeros [] (suc n) (suc v) = index_zeros [] n v
index_zeros (x ∷ xs) n zero = refl
index_zeros (x ∷ xs) n (suc v) = index_zeros xs n v

module _ {T : Type 0} where
  pairs_push : (ns : List (Note T)) (n : Note T) → pairs_of (ns ++ n ∷ []) ≡ pairs_of ns ++ (n.variable, n.value) ∷ []
  pairs_push ns n = map-append (λ (m : Note T). (m.variable, m.value)) ns (n ∷ [])

  length-pairs : (ns : List (Note T)) → length (pairs_of ns) ≡ length ns
  length-pairs ns = length-map ns (λ (m : Note T). (m.variable, m.value))

  -- what stands before a place stays where notes are added behind it
  first_push : (ns : List (Note T)) (n : Note T) (k : ℕ) → k ≤ length ns → first_pairs (ns ++ n ∷ []) k ≡ first_pairs ns k
  first_push ns n k le = ap (take k) (pairs_push ns n) ∙ take-append-le k (pairs_of ns) ((n.variable, n.value) ∷ []) (omega (arith, le, length-pairs ns))

  newest_push_same : (ns : List (Note T)) (n : Note T) → behind_newest n.variable (pairs_of (ns ++ n ∷ [])) ≡ length ns + 1
  newest_push_same ns n = ap (behind_newest n.variable) (pairs_push ns n) ∙ newest_same n.variable (pairs_of ns) n.value ∙ omega (arith, length-pairs ns)

  newest_push_other : (ns : List (Note T)) (n : Note T) (v : ℕ) → (v ≡ n.variable → ⊥) → behind_newest v (pairs_of (ns ++ n ∷ [])) ≡ behind_newest v (pairs_of ns)
  newest_push_other ns n v other = ap (behind_newest v) (pairs_push ns n) ∙ newest_other v (pairs_of ns) n.variable n.value (ne_eqb n.variable v (λ e. other (sym e)))

  pub linked_push : (newest : List ℕ) (ns : List (Note T)) (n : Note T) → AreLinked newest ns → n.variable < length newest → n.earlier ≡ slice_index newest n.variable
      → AreLinked (set newest n.variable (length ns + 1)) (ns ++ n ∷ [])
  linked_push newest ns n is within earlier = record { heads = heads; links = links } where
    heads : (v : ℕ) → slice_index (set newest n.variable (length ns + 1)) v ≡ behind_newest v (pairs_of (ns ++ n ∷ []))
    heads v =
        elim (cases_eq v n.variable) [
          | inl e ↦
              let P : ℕ → Type 0 = λ w. slice_index (set newest n.variable (length ns + 1)) w ≡ behind_newest w (pairs_of (ns ++ n ∷ [])) in
              subst P (sym e) (get_or-set_same newest n.variable (length ns + 1) 0 within ∙ sym (newest_push_same ns n))
          | inr d ↦ get_or-set_other newest n.variable v (length ns + 1) 0 d ∙ is.heads v ∙ sym (newest_push_other ns n v d)
        ]

    links : (k : ℕ) (m : Note T) → slice_get (ns ++ n ∷ []) k ≡ Some m → m.earlier ≡ behind_newest m.variable (first_pairs (ns ++ n ∷ []) k)
    links k m at =
        elim (get_push ns n k m at) [
          | inl old ↦ is.links k m old ∙ ap (behind_newest m.variable) (sym (first_push ns n k (omega (arith, slice_get_within ns k m old))))
          | inr new ↦
              let P : Note T → Type 0 = λ j. j.earlier ≡ behind_newest j.variable (first_pairs (ns ++ n ∷ []) k) in
              subst P new.1 (earlier ∙ is.heads n.variable ∙ ap (behind_newest n.variable) (sym (before k new.0)))
        ] where
          before : (i : ℕ) → i ≡ length ns → first_pairs (ns ++ n ∷ []) i ≡ pairs_of ns
          before i e = ap (take i) (pairs_push ns n) ∙ take_at (pairs_of ns) ((n.variable, n.value) ∷ []) i (length-pairs ns ∙ sym e)

  pub pop_within : (newest : List ℕ) (ns : List (Note T)) (n : Note T) → AreLinked newest (ns ++ n ∷ []) → n.variable < length newest
  pop_within newest ns n is =
      elim (cases_lt n.variable (length newest)) [
        | inl h ↦ h
        | inr h ↦ let none = get_or_past newest n.variable 0 h in let some = is.heads n.variable ∙ newest_push_same ns n in absurd (omega (arith, none, some))
      ]

  at_end : (ns : List (Note T)) (n : Note T) → slice_get (ns ++ n ∷ []) (length ns) ≡ Some n
  at_end [] n = refl
  at_end (m ∷ ns) n = at_end ns n

  pub linked_pop : (newest : List ℕ) (ns : List (Note T)) (n : Note T) → AreLinked newest (ns ++ n ∷ []) → AreLinked (set newest n.variable n.earlier) ns
  linked_pop newest ns n is = record { heads = heads; links = links } where
    earlier : n.earlier ≡ behind_newest n.variable (pairs_of ns)
    earlier =
        is.links (length ns) n (at_end ns n)
        ∙ ap (λ ps. behind_newest n.variable (take (length ns) ps)) (pairs_push ns n)
        ∙ ap (behind_newest n.variable) (take_at (pairs_of ns) ((n.variable, n.value) ∷ []) (length ns) (length-pairs ns))

    heads : (v : ℕ) → slice_index (set newest n.variable n.earlier) v ≡ behind_newest v (pairs_of ns)
    heads v =
        elim (cases_eq v n.variable) [
          | inl e ↦
              let P : ℕ → Type 0 = λ w. slice_index (set newest n.variable n.earlier) w ≡ behind_newest w (pairs_of ns) in
              subst P (sym e) (get_or-set_same newest n.variable n.earlier 0 (pop_within newest ns n is) ∙ earlier)
          | inr d ↦ get_or-set_other newest n.variable v n.earlier 0 d ∙ is.heads v ∙ newest_push_other ns n v d
        ]

    links : (k : ℕ) (m : Note T) → slice_get ns k ≡ Some m → m.earlier ≡ behind_newest m.variable (first_pairs ns k)
    links k m at =
        is.links k m (get_kept ns (n ∷ []) k m at) ∙ ap (behind_newest m.variable) (first_push ns n k (omega (arith, slice_get_within ns k m at)))

  -- ---- marks

  -- what stood at the marks stays where notes are added
  pub firsts_kept : (ns ms : List (Note T)) (marks : List ℕ) (more : List (ℕ × T)) → ((k n : ℕ) → slice_get marks k ≡ Some n → n ≤ length ns)
      → pairs_of ms ≡ pairs_of ns ++ more → map (first_pairs ms) marks ≡ map (first_pairs ns) marks
  firsts_kept ns ms marks more within e =
      map_same (first_pairs ms) (first_pairs ns) marks (λ k n at. ap (take n) e ∙ take-append-le n (pairs_of ns) more (omega (arith, within k n at, length-pairs ns)))

  pub firsts_undone : (ns : List (Note T)) (marks : List ℕ) (m n : ℕ) → ((j k i l : ℕ) → slice_get marks j ≡ Some i → slice_get marks k ≡ Some l → j ≤ k → i ≤ l)
      → slice_get marks m ≡ Some n → map (first_pairs (take n ns)) (take m marks) ≡ take m (map (first_pairs ns) marks)
  firsts_undone ns marks m n sorted here =
      map_same (first_pairs (take n ns)) (first_pairs ns) (take m marks) (λ k i at.
      let old = get_take m k marks i at in
      ap (take i) (sym (take-map (λ (e : Note T). (e.variable, e.value)) n ns)) ∙ take-take i n (pairs_of ns) (sorted k m i n old.0 here (omega (arith, old.1))))
      ∙ sym (take-map (first_pairs ns) m marks)

  -- what is noted at a place
  pub note_at : (newest : List ℕ) (ns : List (Note T)) (k : ℕ) (n : Note T) → AreLinked newest ns → slice_get ns k ≡ Some n → IsNoteAt (pairs_of ns) k (n.value, n.earlier)
  note_at newest ns k n is at = (n.variable, slice_get-map (λ (m : Note T). (m.variable, m.value)) ns k ∙ ap (option_map (λ (m : Note T). (m.variable, m.value))) at, is.links k n at)

  -- one more variable is noted
  pub pairs_more : (ns first : List (Note T)) (vs : List VarId) (i : ℕ) (d : VarId) (value : T) (earlier : ℕ) → i < length vs
      → pairs_of ns ≡ pairs_of first ++ noted (take i vs) value
      → pairs_of (ns ++ record { variable = (get_or vs i d).0; value = value; earlier = earlier } ∷ []) ≡ pairs_of first ++ noted (take (i + 1) vs) value
  pairs_more ns first vs i d value earlier within e =
      let note : VarId → ℕ × T = λ v. (v.0, value) in
      let v : VarId = get_or vs i d in
      pairs_push ns (record { variable = v.0; value = value; earlier = earlier })
      ∙ ap (λ ps. ps ++ note v ∷ []) e
      ∙ append_assoc (pairs_of first) (noted (take i vs) value) (note v ∷ [])
      ∙ ap (λ ps. pairs_of first ++ ps) (sym (ap (map note) (take_more vs i d within) ∙ map-append note (take i vs) (v ∷ [])))

-- places for one more variable
pub places_more : (newest wider : List ℕ) (vs : List VarId) (i : ℕ) (d : VarId) → HasPlaces newest (take i vs) → i < length vs → length newest ≤ length wider
    → (get_or vs i d).0 < length wider → HasPlaces wider (take (i + 1) vs)
places_more newest wider vs i d places within le here =
    let P : VarId → Type 0 = λ v. v.0 < length wider in
    All-more P vs i d within (All-weaker (λ (v : VarId). v.0 < length newest) P (λ v h. omega (arith, h, le)) (take i vs) places) here

pub widened_same : (newest wider : List ℕ) (width more v : ℕ) → length newest ≤ width → wider ≡ take width newest ++ replicate more 0 → slice_index wider v ≡ slice_index newest v
widened_same newest wider width more v le e =
    ap (λ xs. slice_index xs v) (e ∙ ap (λ xs. xs ++ replicate more 0) (take_all width newest le)) ∙ index_zeros newest more v
