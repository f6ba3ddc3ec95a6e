-- Marks, stamps and saved lists after each change.
use Rattle.std.proofs.Common.{◌≡◌, ℕ, zero, suc, ◌+◌, ◌<◌, ◌≤◌, List, [], ◌∷◌, ◌++◌, length, Some, refl, sym, ap, ◌∙◌, subst, inl, inr, get_or, set, take, drop, arith, map}
use Rattle.std.specs.Prelude.{slice_get, Contains}
use Rattle.std.proofs.lemmas.List.{get_or-set_other, drop-drop, map-append, drop-map, length-map}
use Rattle.std.proofs.lemmas.Option.{none-some, same_Some, slice_get-get_or}
use Rattle.std.proofs.lemmas.Bool.{cases_eq}
use Rattle.cq_trail.specs.declared.trail.Entry.{Entry}
use Rattle.cq_trail.specs.Log.{restore, old_values, old_stamps, places}
use Rattle.cq_trail.proofs.Restore.{Within, Has, has_or_not, get_or-restore_apart, restore_last, drop-take-drop}
use Rattle.std.proofs.Math.Seq.{drop-cons}
use Rattle.spec_numbers.proofs.Places.{get-drop, get_kept}

module _ {T : Type 0} where
  abbrev pub EntriesWithin : ℕ → List (Entry T) → Type 0
  EntriesWithin n log = (j : ℕ) (e : Entry T) → slice_get log j ≡ Some e → e.at < n

  abbrev pub value_of : Entry T → ℕ × T
  value_of e = (e.at, e.old)

  abbrev pub stamp_of : Entry T → ℕ × ℕ
  stamp_of e = (e.at, e.stamp)

  abbrev pub place_of : Entry T → ℕ
  place_of e = e.at

  pub values_within : (n : ℕ) (log : List (Entry T)) → EntriesWithin n log → Within n (old_values log)
  values_within n [] w zero c q = absurd (none-some c q)
  values_within n [] w (suc j) c q = absurd (none-some c q)
  values_within n (e ∷ es) w zero c q = subst (λ (d : ℕ × T). d.0 < n) (same_Some (value_of e) c q) (w 0 e refl)
  values_within n (e ∷ es) w (suc j) c q = values_within n es (λ k y h. w (suc k) y h) j c q

  pub stamps_within : (n : ℕ) (log : List (Entry T)) → EntriesWithin n log → Within n (old_stamps log)
  stamps_within n [] w zero c q = absurd (none-some c q)
  stamps_within n [] w (suc j) c q = absurd (none-some c q)
  stamps_within n (e ∷ es) w zero c q = subst (λ (d : ℕ × ℕ). d.0 < n) (same_Some (stamp_of e) c q) (w 0 e refl)
  stamps_within n (e ∷ es) w (suc j) c q = stamps_within n es (λ k y h. w (suc k) y h) j c q

  pub entries_front : (n : ℕ) (log : List (Entry T)) (e : Entry T) → EntriesWithin n (log ++ e ∷ []) → EntriesWithin n log
  entries_front n log e w = λ j f q. w j f (get_kept log (e ∷ []) j f q)

  -- the newest entry taken back
  pub give_value : (log : List (Entry T)) (e : Entry T) (m : ℕ) (xs : List T) → m ≤ length log → restore (drop m (old_values (log ++ e ∷ []))) xs ≡ restore (drop m (old_values log)) (set xs e.at e.old)
  give_value log e m xs le =
      ap (λ l. restore (drop m l) xs) (map-append value_of log (e ∷ []))
      ∙ restore_last (old_values log) (e.at, e.old) m xs (rw length-map le)

  pub give_stamp : (log : List (Entry T)) (e : Entry T) (m : ℕ) (stamps : List ℕ) → m ≤ length log → restore (drop m (old_stamps (log ++ e ∷ []))) stamps ≡ restore (drop m (old_stamps log)) (set stamps e.at e.stamp)
  give_stamp log e m stamps le =
      ap (λ l. restore (drop m l) stamps) (map-append stamp_of log (e ∷ []))
      ∙ restore_last (old_stamps log) (e.at, e.stamp) m stamps (rw length-map le)

  -- ---- which places are saved
  has_map : {A B : Type 0} (f : Entry T → ℕ × A) (g : Entry T → ℕ × B) → ((e : Entry T) → (f e).0 ≡ (g e).0) → (i : ℕ) (log : List (Entry T)) → Has i (map f log) → Has i (map g log)
  has_map f g same i [] h = h
  has_map f g same i (e ∷ es) h = elim h [ inl a ↦ inl (sym (same e) ∙ a) | inr t ↦ inr (has_map f g same i es t) ]

  pub has_value : (i m : ℕ) (log : List (Entry T)) → Has i (drop m (old_stamps log)) → Has i (drop m (old_values log))
  has_value i m log h =
      rw (drop-map value_of m log)
      (has_map stamp_of value_of (λ e. refl) i (drop m log) (rw (drop-map stamp_of m log) at h))

  contains_has : (i k : ℕ) (log : List (Entry T)) → k < length (places log) → get_or (places log) k i ≡ i → Has i (old_stamps log)
  contains_has i k [] lt e = absurd (omega arith)
  contains_has i zero (f ∷ log) lt e = inl e
  contains_has i (suc k) (f ∷ log) lt e = inr (contains_has i k log (omega arith) e)

  pub saved_has : (i m : ℕ) (log : List (Entry T)) → Contains (drop m (places log)) i → Has i (drop m (old_stamps log))
  saved_has i m log c =
      rw (drop-map stamp_of m log) (
      let d = rw (drop-map place_of m log) at c in
      contains_has i d.0 (drop m log) d.1 d.2)

has_append : {A : Type 0} (i : ℕ) (cs ds : List (ℕ × A)) → Has i ds → Has i (cs ++ ds)
has_append i [] ds h = h
has_append i (c ∷ cs) ds h = inr (has_append i cs ds h)

pub has_earlier : {A : Type 0} (i p q : ℕ) (cs : List (ℕ × A)) → p ≤ q → Has i (drop q cs) → Has i (drop p cs)
has_earlier i p q cs le h = rw (← drop-take-drop p q cs le) (has_append i (drop p (take q cs)) (drop q cs) h)

-- each stamp is the length of the log just after the place's newest entry
abbrev pub Links : List (ℕ × ℕ) → List ℕ → Type 0
Links cs stamps = (k : ℕ) (c : ℕ × ℕ) → slice_get cs k ≡ Some c → get_or (restore (drop (suc k) cs) stamps) c.0 0 ≡ suc k

drop_past : {A : Type 0} (n : ℕ) (xs : List A) → length xs ≤ n → drop n xs ≡ []
drop_past zero [] h = refl
drop_past zero (x ∷ xs) h = absurd (omega arith)
drop_past (suc n) [] h = refl
drop_past (suc n) (x ∷ xs) h = drop_past n xs (omega arith)

-- the log's first g entries give no stamp above g
stamp_bound : (cs : List (ℕ × ℕ)) (stamps : List ℕ) → Links cs stamps → ((i : ℕ) → get_or (restore cs stamps) i 0 ≡ 0) → (g : ℕ) → g ≤ length cs → (i : ℕ) → get_or (restore (drop g cs) stamps) i 0 ≤ g
stamp_bound cs stamps links none zero le i = omega (arith, none i)
stamp_bound cs stamps links none (suc g) le i =
    let lt : g < length cs = omega arith in
    let c : ℕ × ℕ = get_or cs g (0, 0) in
    let here : slice_get cs g ≡ Some c = slice_get-get_or cs g (0, 0) lt in
    let link = links g c here in
    let below = stamp_bound cs stamps links none g (omega arith) i in
    let rest : List ℕ = restore (drop (suc g) cs) stamps in
    let split : get_or (restore (drop g cs) stamps) i 0 ≡ get_or (set rest c.0 c.1) i 0 = ap (λ (l : List (ℕ × ℕ)). get_or (restore l stamps) i 0) (drop-cons cs g (0, 0) lt) in
    elim (cases_eq c.0 i) [
      | inl e ↦ let at_i : get_or rest i 0 ≡ suc g = subst (λ (j : ℕ). get_or rest j 0 ≡ suc g) e link in omega (arith, at_i)
      | inr n ↦ let other : get_or (set rest c.0 c.1) i 0 ≡ get_or rest i 0 = get_or-set_other rest c.0 i c.1 0 (λ e. n (sym e)) in omega (arith, below, split, other)
    ]

-- a stamp above g shows an entry from g on
pub stamp_saved : (cs : List (ℕ × ℕ)) (stamps : List ℕ) → Links cs stamps → ((i : ℕ) → get_or (restore cs stamps) i 0 ≡ 0) → (g i : ℕ) → g ≤ length cs → g < get_or stamps i 0 → Has i (drop g cs)
stamp_saved cs stamps links none g i le lt = elim (has_or_not i (drop g cs)) [
  | inl h ↦ h
  | inr n ↦ absurd (omega (arith, stamp_bound cs stamps links none g le i, get_or-restore_apart (drop g cs) stamps i 0 n))
]

-- an entry from g on shows in the stamp
pub saved_stamp : (cs : List (ℕ × ℕ)) (stamps : List ℕ) → Links cs stamps → (g i : ℕ) → Has i (drop g cs) → g < get_or stamps i 0
saved_stamp cs stamps links g i h = go (drop g cs) g refl h
  where
    go : (ds : List (ℕ × ℕ)) (g : ℕ) → drop g cs ≡ ds → Has i ds → g < get_or stamps i 0
    go [] g e h = absurd h
    go (d ∷ ds) g e h =
        let rest : drop (suc g) cs ≡ ds = (let s : suc g ≡ g + 1 = omega arith in ap (λ n. drop n cs) s) ∙ sym (drop-drop 1 g cs) ∙ ap (drop 1) e in
        let here : slice_get cs g ≡ Some d = (let s : g ≡ g + 0 = omega arith in ap (slice_get cs) s) ∙ sym (get-drop g cs 0) ∙ ap (λ l. slice_get l 0) e in
        elim (has_or_not i ds) [
          | inl later ↦ let after = go ds (suc g) rest later in omega (arith, after)
          | inr n ↦ elim h [
            | inl a ↦
                let link : get_or (restore ds stamps) i 0 ≡ suc g = subst (λ (j : ℕ). get_or (restore ds stamps) j 0 ≡ suc g) a (subst (λ (l : List (ℕ × ℕ)). get_or (restore l stamps) d.0 0 ≡ suc g) rest (links g d here)) in
                omega (arith, link, get_or-restore_apart ds stamps i 0 n)
            | inr later ↦ absurd (n later)
          ]
        ]
