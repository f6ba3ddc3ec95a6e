-- The runs of places that are gone, through every change of a list.
use Rattle.std.proofs.Common.{◌≡◌, ℕ, zero, suc, ◌+◌, ◌-◌, ◌<◌, ◌≤◌, false, List, [], ◌∷◌, ◌++◌, length, map, set, get_or, Option, Some, None, nat_le, refl, sym, ap, subst, ◌∙◌, ◌⊎◌, inl, inr, arith, length-append, length-set}
use Rattle.std.specs.Prelude.{slice_get, is_some}
use Rattle.std.specs.Option.{option_map}
use Rattle.std.proofs.lemmas.List.{map-append, map-set}
use Rattle.std.proofs.lemmas.Option.{none-some, same_Some, slice_get_read, slice_get-map}
use Rattle.std.proofs.lemmas.Bool.Decides.{nat_tests}
use Rattle.spec_numbers.proofs.Places.{get_kept, get_push}
use Rattle.cq_clauses.proofs.Writes.{got_here, got_either, got_still}
use Rattle.cq_clauses.specs.declared.list.Window.{Window}
use Rattle.cq_clauses.specs.declared.list.Slot.{Slot}
use Rattle.cq_clauses.specs.Lists.{Entry, ListValue}
use Rattle.cq_clauses.specs.Changes.{there, went, list_without}
use Rattle.cq_clauses.specs.Windows.{was_there_at, seen_in, skipped}
use Rattle.cq_clauses.specs.Slots.{fresh, entry_of, IsList, IsGoneBy, IsAhead, IsBehind, AreRuns, IsKept}
use Rattle.cq_clauses.proofs.Listed.{is_list_push, is_list_remove, IsAbsent, seen_skipped}

-- ---- one more

gone_front : (slots : List Slot) (s : Slot) (j t : ℕ) → IsGoneBy slots j t → IsGoneBy (s ∷ slots) (suc j) t
gone_front slots s j t g = record { slot = g.slot; at = g.at; got = g.got; gone = g.gone; before = g.before }

pub runs_front : (slots : List Slot) (removals clause : ℕ) → AreRuns slots removals → AreRuns (fresh clause ∷ slots) removals
runs_front slots removals clause is = record { ahead = ahead; behind = behind }
  where
    ahead : (place : ℕ) (s : Slot) → slice_get (fresh clause ∷ slots) place ≡ Some s → IsAhead (fresh clause ∷ slots) removals place s
    ahead zero s got = subst (λ (r : Slot). IsAhead (fresh clause ∷ slots) removals 0 r) (same_Some (fresh clause) s got)
        (record { within = omega arith; since = omega arith; gone = λ j low high. absurd (omega (arith, high)) })
    ahead (suc place) s got =
        let a = is.ahead place s got in
        record { within = omega (arith, a.within); since = a.since; gone = gone a }
      where
        gone : IsAhead slots removals place s → (j : ℕ) → suc place ≤ j → j < suc place + s.ahead → IsGoneBy (fresh clause ∷ slots) j s.since
        gone a zero low high = absurd (omega (arith, low))
        gone a (suc j) low high = gone_front slots (fresh clause) j s.since (a.gone j (omega (arith, low)) (omega (arith, high)))

    behind : (place : ℕ) (s : Slot) → slice_get (fresh clause ∷ slots) place ≡ Some s → IsBehind (fresh clause ∷ slots) removals place s
    behind zero s got = subst (λ (r : Slot). IsBehind (fresh clause ∷ slots) removals 0 r) (same_Some (fresh clause) s got)
        (record { within = omega arith; gone = λ j low high. absurd (omega (arith, low, high)) })
    behind (suc place) s got =
        let b = is.behind place s got in
        record { within = omega (arith, b.within); gone = gone b }
      where
        gone : IsBehind slots removals place s → (j : ℕ) → suc place < j + s.behind → j ≤ suc place → IsGoneBy (fresh clause ∷ slots) j removals
        gone b zero low high = absurd (omega (arith, low, b.within))
        gone b (suc j) low high = gone_front slots (fresh clause) j removals (b.gone j (omega (arith, low)) (omega (arith, high)))

gone_back : (slots : List Slot) (x : Slot) (j t : ℕ) → IsGoneBy slots j t → IsGoneBy (slots ++ x ∷ []) j t
gone_back slots x j t g = record { slot = g.slot; at = g.at; got = get_kept slots (x ∷ []) j g.slot g.got; gone = g.gone; before = g.before }

pub runs_back : (slots : List Slot) (removals clause : ℕ) → AreRuns slots removals → AreRuns (slots ++ fresh clause ∷ []) removals
runs_back slots removals clause is = record {
  ahead = λ place s got. elim (get_push slots (fresh clause) place s got) [
    | inl old ↦ (
        let a = is.ahead place s old in
        record {
          within = omega (arith, a.within, length-append slots (fresh clause ∷ []));
          since = a.since;
          gone = λ j low high. gone_back slots (fresh clause) j s.since (a.gone j low high);
        })
    | inr last ↦ subst (λ (r : Slot). IsAhead (slots ++ fresh clause ∷ []) removals place r) last.1
        (record { within = omega (arith, last.0, length-append slots (fresh clause ∷ [])); since = omega arith; gone = λ j low high. absurd (omega (arith, low, high)) })
  ];
  behind = λ place s got. elim (get_push slots (fresh clause) place s got) [
    | inl old ↦ (
        let b = is.behind place s old in
        record { within = b.within; gone = λ j low high. gone_back slots (fresh clause) j removals (b.gone j low high) })
    | inr last ↦ subst (λ (r : Slot). IsBehind (slots ++ fresh clause ∷ []) removals place r) last.1
        (record { within = omega arith; gone = λ j low high. absurd (omega (arith, low, high)) })
  ];
}

-- ---- a slot written

module _ (slots : List Slot) (i : ℕ) (x y : Slot) (stood : slice_get slots i ≡ Some x) where
  -- what was gone is gone
  gone_write : (x.gone ≡ y.gone) ⊎ (x.gone ≡ None) → (j t : ℕ) → IsGoneBy slots j t → IsGoneBy (set slots i y) j t
  gone_write alike j t g = elim (got_still slots i x y j g.slot stood g.got) [
    | inl same ↦ record { slot = g.slot; at = g.at; got = same; gone = g.gone; before = g.before }
    | inr here ↦ elim alike [
      | inl same ↦ record { slot = y; at = g.at; got = here.0; gone = sym same ∙ ap (λ (r : Slot). r.gone) here.1 ∙ g.gone; before = g.before }
      | inr none ↦ absurd (none-some g.at (sym none ∙ ap (λ (r : Slot). r.gone) here.1 ∙ g.gone))
    ]
  ]

  pub runs_write : (removals after : ℕ) → (x.gone ≡ y.gone) ⊎ (x.gone ≡ None) → removals ≤ after → IsAhead (set slots i y) after i y → IsBehind (set slots i y) after i y → AreRuns slots removals → AreRuns (set slots i y) after
  runs_write removals after alike later ahead behind is = record {
    ahead = λ place s got. elim (got_either slots i y place s got) [
      | inl here ↦ subst (λ (r : Slot). IsAhead (set slots i y) after place r) here.1 (subst (λ k. IsAhead (set slots i y) after k y) (sym here.0) ahead)
      | inr old ↦ (
          let a = is.ahead place s old in
          record {
            within = rw length-set (a.within);
            since = omega (arith, a.since, later);
            gone = λ j low high. gone_write alike j s.since (a.gone j low high);
          })
    ];
    behind = λ place s got. elim (got_either slots i y place s got) [
      | inl here ↦ subst (λ (r : Slot). IsBehind (set slots i y) after place r) here.1 (subst (λ k. IsBehind (set slots i y) after k y) (sym here.0) behind)
      | inr old ↦ (
          let b = is.behind place s old in
          record {
            within = b.within;
            gone = λ j low high. let g = gone_write alike j removals (b.gone j low high) in record { slot = g.slot; at = g.at; got = g.got; gone = g.gone; before = omega (arith, g.before, later) };
          })
    ];
  }

abbrev pub gone_slot : Slot → ℕ → Slot
gone_slot s at = record { clause = s.clause; gone = Some at; ahead = s.ahead; since = s.since; behind = s.behind }

abbrev pub begun_slot : Slot → ℕ → ℕ → Slot
begun_slot s run since = record { clause = s.clause; gone = s.gone; ahead = run; since = since; behind = s.behind }

abbrev pub ended_slot : Slot → ℕ → Slot
ended_slot s run = record { clause = s.clause; gone = s.gone; ahead = s.ahead; since = s.since; behind = run }

-- a clause goes
module _ (slots : List Slot) (removals place : ℕ) (s : Slot) (stood : slice_get slots place ≡ Some s) (none : s.gone ≡ None) (is : AreRuns slots removals) where
  pub runs_gone : AreRuns (set slots place (gone_slot s removals)) (removals + 1)
  runs_gone =
      let a = is.ahead place s stood in
      let b = is.behind place s stood in
      runs_write slots place s (gone_slot s removals) stood removals (removals + 1) (inr none) (omega arith)
      (record {
        within = rw length-set (a.within);
        since = omega (arith, a.since);
        gone = λ j low high. gone_write slots place s (gone_slot s removals) stood (inr none) j s.since (a.gone j low high);
      })
      (record {
        within = b.within;
        gone = λ j low high. let g = gone_write slots place s (gone_slot s removals) stood (inr none) j removals (b.gone j low high) in record { slot = g.slot; at = g.at; got = g.got; gone = g.gone; before = omega (arith, g.before) };
      })
      is

  -- and the run about it
  pub run_gone : (first last : ℕ) → ((j : ℕ) → first ≤ j → j < place → IsGoneBy slots j removals) → ((j : ℕ) → place < j → j ≤ last → IsGoneBy slots j removals)
      → (j : ℕ) → first ≤ j → j ≤ last → IsGoneBy (set slots place (gone_slot s removals)) j (removals + 1)
  run_gone first last before behind j low high = elim (cases j place) [
    | inl less ↦ later j (before j low less)
    | inr (inl same) ↦ record { slot = gone_slot s removals; at = removals; got = here j same; gone = refl; before = omega arith }
    | inr (inr more) ↦ later j (behind j more high)
  ]
    where
      cases : (a b : ℕ) → (a < b) ⊎ ((a ≡ b) ⊎ (b < a))
      cases zero zero = inr (inl refl)
      cases zero (suc b) = inl (omega arith)
      cases (suc a) zero = inr (inr (omega arith))
      cases (suc a) (suc b) = elim (cases a b) [ inl l ↦ inl (omega (arith, l)) | inr (inl e) ↦ inr (inl (ap suc e)) | inr (inr g) ↦ inr (inr (omega (arith, g))) ]

      later : (j : ℕ) → IsGoneBy slots j removals → IsGoneBy (set slots place (gone_slot s removals)) j (removals + 1)
      later j g = let h = gone_write slots place s (gone_slot s removals) stood (inr none) j removals g in record { slot = h.slot; at = h.at; got = h.got; gone = h.gone; before = omega (arith, h.before) }

      here : (j : ℕ) → j ≡ place → slice_get (set slots place (gone_slot s removals)) j ≡ Some (gone_slot s removals)
      here j same = ap (slice_get (set slots place (gone_slot s removals))) same ∙ got_here slots place s (gone_slot s removals) stood

-- a run is noted at its ends
module _ (slots : List Slot) (removals first last : ℕ) (s : Slot) (stood : slice_get slots first ≡ Some s) (is : AreRuns slots removals) (order : first ≤ last) (within : last < length slots)
    (gone : (j : ℕ) → first ≤ j → j ≤ last → IsGoneBy slots j removals) where
  abbrev run : ℕ
  run = last - first + 1

  abbrev begun : List Slot
  begun = set slots first (begun_slot s run removals)

  still : (j t : ℕ) → IsGoneBy slots j t → IsGoneBy begun j t
  still = gone_write slots first s (begun_slot s run removals) stood (inl refl)

  runs_begun : AreRuns begun removals
  runs_begun =
      let b = is.behind first s stood in
      runs_write slots first s (begun_slot s run removals) stood removals removals (inl refl) (omega arith)
      (record {
        within = rw length-set (omega (arith, order, within));
        since = omega arith;
        gone = λ j low high. still j removals (gone j low (omega (arith, high, order)));
      })
      (record { within = b.within; gone = λ j low high. still j removals (b.gone j low high) })
      is

  pub runs_noted : (r : Slot) → slice_get begun last ≡ Some r → AreRuns (set begun last (ended_slot r run)) removals
  runs_noted r ended =
      let a = runs_begun.ahead last r ended in
      let write = gone_write begun last r (ended_slot r run) ended (inl refl) in
      runs_write begun last r (ended_slot r run) ended removals removals (inl refl) (omega arith)
      (record { within = rw length-set (a.within); since = a.since; gone = λ j low high. write j r.since (a.gone j low high) })
      (record {
        within = omega (arith, order);
        gone = λ j low high. write j removals (still j removals (gone j (omega (arith, low, order)) high));
      })
      runs_begun

-- a write that leaves the clause and whether it is gone leaves the entries
pub entries_written : (slots : List Slot) (i : ℕ) (x y : Slot) → slice_get slots i ≡ Some x → entry_of x ≡ entry_of y → map entry_of (set slots i y) ≡ map entry_of slots
entries_written [] i x y got same = refl
entries_written (z ∷ slots) zero x y got same = ap (λ e. e ∷ map entry_of slots) (sym same ∙ ap entry_of (sym (same_Some z x got)))
entries_written (z ∷ slots) (suc i) x y got same = ap (λ es. entry_of z ∷ es) (entries_written slots i x y got same)

-- ---- what a list keeps

pub kept_front : (slots : List Slot) (fronts removals clause : ℕ) → IsKept slots fronts removals → IsKept (fresh clause ∷ slots) (fronts + 1) removals
kept_front slots fronts removals clause is = record { listed = listed; runs = runs_front slots removals clause is.runs }
  where
    gone : (i : ℕ) (e : Entry) (at : ℕ) → slice_get (there clause ∷ map entry_of slots) i ≡ Some e → e.gone ≡ Some at → at < removals
    gone zero e at got g = absurd (none-some at (ap (λ (y : Entry). y.gone) (same_Some (there clause) e got) ∙ g))
    gone (suc i) e at got g = is.listed.gone i e at got g

    listed : IsList (there clause ∷ map entry_of slots) (fronts + 1) removals
    listed = record { in_front = omega (arith, is.listed.in_front); gone = gone; counted = omega (arith, is.listed.counted) }

pub kept_back : (slots : List Slot) (fronts removals clause : ℕ) → IsKept slots fronts removals → IsKept (slots ++ fresh clause ∷ []) fronts removals
kept_back slots fronts removals clause is = record {
  listed = subst (λ es. IsList es fronts removals) (sym (map-append entry_of slots (fresh clause ∷ []))) (is_list_push (map entry_of slots) fronts removals clause is.listed);
  runs = runs_back slots removals clause is.runs;
}

-- ---- what reads gave

-- what two reads of a place gave, of which the first is there
module _ (items : List Slot) (place : ℕ) (one s : Slot) (l : place < length items) (first : one ≡ get_or items place one) (second : s ≡ get_or items place s) (here : is_some one.gone ≡ false) where
  pub slot_stood : slice_get items place ≡ Some s
  slot_stood = slice_get_read items (length items) place s refl l second

  pub slot_none : s.gone ≡ None
  slot_none = none_of s.gone (subst (λ (r : Slot). is_some r.gone ≡ false) (same_Some one s (sym (slice_get_read items (length items) place one refl l first) ∙ slot_stood)) here)
    where
      none_of : (g : Option ℕ) → is_some g ≡ false → g ≡ None
      none_of None h = refl
      none_of (Some at) h = cc

  pub entry_stood : slice_get (map entry_of items) place ≡ Some (there s.clause)
  entry_stood = slice_get-map entry_of items place ∙ ap (option_map entry_of) slot_stood ∙ ap (λ g. Some (record { clause = s.clause; gone = g })) slot_none

-- a clause taken away, with the run about it noted
module _ (items after : List Slot) (fronts removals place : ℕ) (s : Slot) (stood : slice_get items place ≡ Some s) (none : s.gone ≡ None) (got : slice_get (map entry_of items) place ≡ Some (there s.clause))
    (entries : map entry_of after ≡ map entry_of (set items place (gone_slot s removals))) where
  entries_gone : map entry_of after ≡ set (map entry_of items) place (went s.clause removals)
  entries_gone = entries ∙ map-set entry_of items place (gone_slot s removals)

  pub kept_removed : IsKept items fronts removals → AreRuns after (removals + 1) → IsKept after fronts (removals + 1)
  kept_removed is runs = record {
    listed = subst (λ es. IsList es fronts (removals + 1)) (sym entries_gone) (is_list_remove (map entry_of items) fronts removals place s.clause got is.listed);
    runs = runs;
  }

  pub slot_removed : (e : Entry) → slice_get (map entry_of items) place ≡ Some e
      → record { entries = map entry_of after; fronts = fronts; removals = removals + 1 }
      ≡ list_without (record { entries = map entry_of items; fronts = fronts; removals = removals }) place e.clause e.gone
  slot_removed e found =
      let same : there s.clause ≡ e = same_Some (there s.clause) e (sym got ∙ found) in
      ap (λ es. record { entries = es; fronts = fronts; removals = removals + 1 }) entries_gone
      ∙ ap (λ (y : Entry). list_without (record { entries = map entry_of items; fronts = fronts; removals = removals }) place y.clause y.gone) same

-- ---- places left out

module _ (items : List Slot) (fronts removals : ℕ) (w : Window) (s : Slot) (g : ℕ) (runs : AreRuns items removals) (stood : slice_get items (w.start + (fronts - w.fronts)) ≡ Some s)
    (gone : false ≡ was_there_at w.removals s.gone) (run : 1 < g → (s.since ≤ w.removals) × (g ≤ s.ahead)) where
  abbrev place : ℕ
  place = w.start + (fronts - w.fronts)

  past : (at : ℕ) → at < w.removals → nat_le w.removals at ≡ false
  past at l = grind (arith, nat_tests)

  absent : (j : ℕ) → j < g → IsAbsent (map entry_of items) w.removals (place + j)
  absent zero lt =
      let here : place + 0 ≡ place = omega arith in
      record { entry = entry_of s; got = ap (slice_get (map entry_of items)) here ∙ slice_get-map entry_of items place ∙ ap (option_map entry_of) stood; gone = sym gone }
  absent (suc j) lt =
      let both = run (omega (arith, lt)) in
      let h = (runs.ahead place s stood).gone (place + suc j) (omega arith) (omega (arith, lt, both.1)) in
      record {
        entry = entry_of h.slot;
        got = slice_get-map entry_of items (place + suc j) ∙ ap (option_map entry_of) h.got;
        gone = ap (was_there_at w.removals) h.gone ∙ past h.at (omega (arith, h.before, both.0));
      }

  pub seen_behind : (l : ListValue) → record { entries = map entry_of items; fronts = fronts; removals = removals } ≡ l → g ≤ w.count → seen_in w l ≡ seen_in (skipped g w) l
  seen_behind l view within =
      subst (λ (v : ListValue). seen_in w v ≡ seen_in (skipped g w) v) view
      (seen_skipped g w (record { entries = map entry_of items; fronts = fronts; removals = removals }) within absent)
