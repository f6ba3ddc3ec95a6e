-- Walks along the notes of a variable to the numbers that wait for it, and what all variables' walks find.
use Rattle.std.proofs.Common.{◌≡◌, ℕ, zero, suc, ◌+◌, ◌-◌, ◌<◌, ◌≤◌, true, false, List, [], ◌∷◌, ◌++◌, length, take, get_or, Some, refl, sym, ap, subst, ◌∙◌, inl, inr, ◌⊎◌, arith, length-take}
use Rattle.std.specs.Prelude.{slice_get, Contains}
use Rattle.std.proofs.lemmas.Bool.{cases_lt, false≢true}
use Rattle.std.proofs.lemmas.List.{map-append, take_more}
use Rattle.std.proofs.lemmas.List.Elements.{Contains-append_left, Contains-push, Contains-push_cases}
use Rattle.std.proofs.lemmas.Option.{same_Some}
use Rattle.spec_numbers.proofs.Places.{get_take}
use Rattle.cq_frac.specs.declared.VarId.{VarId}
use Rattle.cq_term.specs.Places.{numbers_of}
use Rattle.cq_attr.specs.declared.susp.Slot.{Slot}
use Rattle.cq_attr.specs.NotesValue.{behind_newest, IsNoteAt}
use Rattle.cq_attr.specs.Attributes.{IsWokenBy, Ascends}
use Rattle.cq_attr.specs.Layout.{NumericNotes, Watchers, IsAwake, attributes_of}
use Rattle.cq_attr.proofs.Newest.{newest_le, newest_above, newest_is}
use Rattle.cq_attr.proofs.Elements.{get_taken, contains_here, contains_later, contains_none}
use Rattle.cq_attr.proofs.Numbers.{awake_waits, waits_awake}

-- the variable's notes from the place on were visited: what they lead to was found beside what there was at the start
pub record Walked (ws : Watchers) (ss : List Slot) (v : ℕ) (start found : List ℕ) (place : ℕ) : Type 0 where
  pub within : place ≤ length ws
  pub chain : (k : ℕ) → place ≡ suc k → (x : ℕ) × (slice_get ws k ≡ Some (v, x))
  pub kept : (n : ℕ) → Contains start n → Contains found n
  pub awake : (n : ℕ) → Contains found n → Contains start n ⊎ IsAwake ws ss v n
  pub all : (n : ℕ) (a : IsAwake ws ss v n) → Contains found n ⊎ (a.place < place)

module _ (ws : Watchers) (ss : List Slot) (v : ℕ) where
  pub walked_none : (start : List ℕ) (place : ℕ) → place ≡ behind_newest v ws → Walked ws ss v start start place
  walked_none start place e = rw e (record {
    within = newest_le v ws;
    chain = newest_is v ws;
    kept = λ n h. h;
    awake = λ n h. inl h;
    all = λ n a. inr (newest_above v ws a.place n a.note);
  })

  -- the note at a place, and where the variable's note before it stands
  pub record StepsBack (p number earlier : ℕ) : Type 0 where
    pub here : slice_get ws p ≡ Some (v, number)
    pub before : earlier ≡ behind_newest v (take p ws)

  pub steps_back : {start found : List ℕ} (place : ℕ) (note : ℕ × ℕ) → Walked ws ss v start found place → 0 < place → IsNoteAt ws (place - 1) note → StepsBack (place - 1) note.0 note.1
  steps_back place note walked some is =
      let at = walked.chain (place - 1) (omega (arith, some)) in
      let same = same_Some (is.0, note.0) (v, at.0) (sym is.1 ∙ at.1) in
      let of : is.0 ≡ v = ap (λ p. p.0) same in
      record { here = is.1 ∙ ap (λ u. Some (u, note.0)) of; before = is.2 ∙ ap (λ u. behind_newest u (take (place - 1) ws)) of }

  module _ (start found : List ℕ) (place number earlier : ℕ) (walked : Walked ws ss v start found place) (some : 0 < place) (back : StepsBack (place - 1) number earlier) where
    pub earlier_before : earlier < place
    earlier_before = omega (arith, newest_le v (take (place - 1) ws), length-take (place - 1) ws, back.before, some)

    chain : (k : ℕ) → earlier ≡ suc k → (x : ℕ) × (slice_get ws k ≡ Some (v, x))
    chain k e = let r = newest_is v (take (place - 1) ws) k (sym back.before ∙ e) in (r.0, (get_take (place - 1) k ws (v, r.0) r.1).0)

    -- what is awake is awake by this note, or by one before it
    by_place : (n : ℕ) (a : IsAwake ws ss v n) → a.place < place → (n ≡ number) ⊎ (a.place < earlier)
    by_place n a lt =
        elim (cases_lt a.place (place - 1)) [
          | inl before ↦ inr (rw back.before (newest_above v (take (place - 1) ws) a.place n (get_taken (place - 1) ws a.place before ∙ a.note)))
          | inr from ↦ (
              let e : a.place ≡ place - 1 = omega (arith, from, lt) in
              inl (ap (λ p. p.1) (same_Some (v, n) (v, number) (sym a.note ∙ ap (slice_get ws) e ∙ back.here))))
        ]

    pub this_awake : (s : Slot) → slice_get ss number ≡ Some s → s.waits ≡ true → IsAwake ws ss v number
    this_awake s there waits = record { place = place - 1; note = back.here; slot = s; there = there; waits = waits }

    pub walked_on : (s : Slot) → slice_get ss number ≡ Some s → s.waits ≡ true → Walked ws ss v start (found ++ number ∷ []) earlier
    walked_on s there waits = record {
      within = omega (arith, earlier_before, walked.within);
      chain = chain;
      kept = λ n h. Contains-append_left found (number ∷ []) n (walked.kept n h);
      awake = λ n h. elim (Contains-push_cases found number n h) [
        | inl l ↦ walked.awake n l
        | inr e ↦ (let P : ℕ → Type 0 = IsAwake ws ss v in inr (subst P e (this_awake s there waits)))
      ];
      all = λ n a. elim (walked.all n a) [
        | inl h ↦ inl (Contains-append_left found (number ∷ []) n h)
        | inr lt ↦ elim (by_place n a lt) [
          | inl e ↦ (let P : ℕ → Type 0 = Contains (found ++ number ∷ []) in inl (subst P (sym e) (Contains-push found number)))
          | inr l ↦ inr l
        ]
      ];
    }

    pub walked_over : (s : Slot) → slice_get ss number ≡ Some s → s.waits ≡ false → Walked ws ss v start found earlier
    walked_over s there taken = record {
      within = omega (arith, earlier_before, walked.within);
      chain = chain;
      kept = walked.kept;
      awake = walked.awake;
      all = λ n a. elim (walked.all n a) [
        | inl h ↦ inl h
        | inr lt ↦ elim (by_place n a lt) [
          | inl e ↦ (
              let same : s ≡ a.slot = same_Some s a.slot (sym there ∙ ap (slice_get ss) (sym e) ∙ a.there) in
              absurd (false≢true (sym taken ∙ ap (λ t. t.waits) same ∙ a.waits)))
          | inr l ↦ inr l
        ]
      ];
    }

  pub walked_all : (start found : List ℕ) (place : ℕ) → Walked ws ss v start found place → place ≤ 0 → (n : ℕ) → IsAwake ws ss v n → Contains found n
  walked_all start found place walked none n a = elim (walked.all n a) [ inl h ↦ h | inr lt ↦ absurd (omega (arith, lt, none)) ]

-- what was found is just what waits for one of these variables
pub record Found (ws : Watchers) (ss : List Slot) (vs : List VarId) (found : List ℕ) : Type 0 where
  pub awake : (n : ℕ) → Contains found n → (v : ℕ) × Contains (numbers_of vs) v × IsAwake ws ss v n
  pub all : (v n : ℕ) → Contains (numbers_of vs) v → IsAwake ws ss v n → Contains found n

pub contains_number : (vs : List VarId) (i : ℕ) (d : VarId) → i < length vs → Contains (numbers_of vs) (get_or vs i d).0
contains_number [] i d l = absurd (omega (arith, l))
contains_number (v ∷ vs) zero d l = contains_here v.0 (numbers_of vs) v.0 refl
contains_number (v ∷ vs) (suc i) d l = contains_later v.0 (numbers_of vs) (get_or vs i d).0 (contains_number vs i d (omega (arith, l)))

module _ (ws : Watchers) (ss : List Slot) (vs : List VarId) where
  pub found_more : (i : ℕ) (d : VarId) (found more : List ℕ) → Found ws ss (take i vs) found → i < length vs
      → ((n : ℕ) → Contains found n → Contains more n)
      → ((n : ℕ) → Contains more n → Contains found n ⊎ IsAwake ws ss (get_or vs i d).0 n)
      → ((n : ℕ) → IsAwake ws ss (get_or vs i d).0 n → Contains more n)
      → Found ws ss (take (i + 1) vs) more
  found_more i d found more is within kept awake all =
      let v : VarId = get_or vs i d in
      let old = numbers_of (take i vs) in
      let grown : numbers_of (take (i + 1) vs) ≡ old ++ v.0 ∷ [] = ap numbers_of (take_more vs i d within) ∙ map-append (λ (w : VarId). w.0) (take i vs) (v ∷ []) in
      record {
        awake = λ n h. elim (awake n h) [
          | inl l ↦ (let r = is.awake n l in (r.0, rw grown (Contains-append_left old (v.0 ∷ []) r.0 r.1), r.2))
          | inr a ↦ (v.0, rw grown (Contains-push old v.0), a)
        ];
        all = λ u n h a. elim (Contains-push_cases old v.0 u (rw grown at h)) [
          | inl l ↦ kept n (is.all u n l a)
          | inr e ↦ (let P : ℕ → Type 0 = λ w. IsAwake ws ss w n in all n (subst P (sym e) a))
        ];
      }

  -- what was found is woken
  pub woken_from : (ns : NumericNotes) (found : List ℕ) → Found ws ss vs found → (n : ℕ) → Contains found n → IsWokenBy (attributes_of ns ws ss) (numbers_of vs) n
  woken_from ns found is n h = let r = is.awake n h in record { variable = r.0; is_new = r.1; waits_for = awake_waits ns ws ss r.0 n r.2 }

  pub found_woken : (ns : NumericNotes) (found : List ℕ) → Found ws ss vs found → (n : ℕ) → IsWokenBy (attributes_of ns ws ss) (numbers_of vs) n → Contains found n
  found_woken ns found is n h = is.all h.variable n h.is_new (waits_awake ns ws ss h.variable n h.waits_for)

  pub woken_by : (ns : NumericNotes) (i : ℕ) (d : VarId) (n : ℕ) → i < length vs → IsAwake ws ss (get_or vs i d).0 n → IsWokenBy (attributes_of ns ws ss) (numbers_of vs) n
  woken_by ns i d n within a =
      record { variable = (get_or vs i d).0; is_new = contains_number vs i d within; waits_for = awake_waits ns ws ss (get_or vs i d).0 n a }

-- nothing is woken where nothing was ever suspended
pub none_woken : (ns : NumericNotes) (ws : Watchers) (ss : List Slot) (vs : List ℕ) (n : ℕ) → length ss ≡ 0 → IsWokenBy (attributes_of ns ws ss) vs n → ⊥
none_woken ns ws [] vs n none h = contains_none h.waits_for.waiting h.waits_for.waits
none_woken ns ws (s ∷ ss) vs n none h = omega (arith, none)

pub ascends_short : (ns : List ℕ) → length ns < 2 → Ascends ns
ascends_short ns short i j d before within = absurd (omega (arith, short, before, within))
