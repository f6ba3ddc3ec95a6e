-- What a change of a list of clauses keeps, and what a window of it shows.
use Rattle.std.proofs.Common.{◌≡◌, ℕ, zero, suc, ◌+◌, ◌-◌, ◌<◌, ◌≤◌, Bool, true, false, cond, List, [], ◌∷◌, ◌++◌, length, map, filter, take, drop, set, get_or, Option, Some, None, nat_le, refl, sym, ap, ap₂, subst, ◌∙◌, inl, inr, arith, length-append, length-set, length-drop, add-one}
use Rattle.std.specs.Prelude.{slice_get, is_none}
use Rattle.std.specs.Option.{option_map}
use Rattle.std.proofs.lemmas.List.{take-append-le, drop-append-le, take_all, length-map}
use Rattle.std.proofs.lemmas.List.Elements.{filter-append}
use Rattle.std.proofs.lemmas.Option.{none-some, same_Some, slice_get_read, slice_get-map}
use Rattle.std.proofs.lemmas.Bool.Decides.{nat_tests}
use Rattle.spec_numbers.proofs.Places.{get_push}
use Rattle.cq_clauses.proofs.Writes.{got_either}
use Rattle.cq_clauses.specs.declared.list.Window.{Window}
use Rattle.cq_clauses.specs.Lists.{Entry, ListValue, clause_of, is_there, present}
use Rattle.cq_clauses.specs.Changes.{there, went}
use Rattle.cq_clauses.specs.Windows.{was_there_at, was_there, in_window, seen_in, skipped, IsWindow}
use Rattle.cq_clauses.specs.declared.list.Slot.{Slot}
use Rattle.cq_clauses.specs.Slots.{entry_of, IsList}

-- ---- one more at the end

pub is_list_push : (es : List Entry) (fronts removals clause : ℕ) → IsList es fronts removals → IsList (es ++ there clause ∷ []) fronts removals
is_list_push es fronts removals clause is = record {
  in_front = omega (arith, is.in_front, length-append es (there clause ∷ []));
  gone = λ i e at got g. elim (get_push es (there clause) i e got) [
    | inl old ↦ is.gone i e at old g
    | inr new ↦ absurd (none-some at (ap (λ (y : Entry). y.gone) new.1 ∙ g))
  ];
  counted = rw (filter-append is_there es (there clause ∷ []))
      (omega (arith, is.counted, length-append es (there clause ∷ []), length-append (filter is_there es) (there clause ∷ [])));
}

-- ---- one taken away

-- one less is there
fewer : (es : List Entry) (i clause at : ℕ) → slice_get es i ≡ Some (there clause) → length (filter is_there (set es i (went clause at))) + 1 ≡ length (filter is_there es)
fewer [] i clause at got = absurd (none-some (there clause) got)
fewer (x ∷ es) zero clause at got =
    subst (λ (y : Entry). length (filter is_there es) + 1 ≡ length (filter is_there (y ∷ es))) (sym (same_Some x (there clause) got)) (add-one (length (filter is_there es)))
fewer (x ∷ es) (suc i) clause at got = by (is_there x) (fewer es i clause at got)
  where
    by : (b : Bool) → length (filter is_there (set es i (went clause at))) + 1 ≡ length (filter is_there es)
        → length (cond b (x ∷ filter is_there (set es i (went clause at))) (filter is_there (set es i (went clause at)))) + 1 ≡ length (cond b (x ∷ filter is_there es) (filter is_there es))
    by true h = omega (arith, h)
    by false h = h

pub is_list_remove : (es : List Entry) (fronts removals place clause : ℕ) → slice_get es place ≡ Some (there clause) → IsList es fronts removals → IsList (set es place (went clause removals)) fronts (removals + 1)
is_list_remove es fronts removals place clause got is = record {
  in_front = rw length-set (is.in_front);
  gone = λ i e at old g. elim (got_either es place (went clause removals) i e old) [
    | inl now ↦ (let same : removals ≡ at = same_Some removals at (ap (λ (y : Entry). y.gone) now.1 ∙ g) in omega (arith, same))
    | inr before ↦ (let l : at < removals = is.gone i e at before g in omega (arith, l))
  ];
  counted = rw length-set (omega (arith, is.counted, fewer es place clause removals got));
}

-- ---- windows

abbrev pub look : ℕ → ℕ → ℕ → List Entry → List ℕ
look time n k es = map clause_of (filter (was_there time) (take n (drop k es)))

-- what was there at the time of a window is there in it after a later removal
pub seen_removed : (time n k : ℕ) (es : List Entry) (i clause at : ℕ) → slice_get es i ≡ Some (there clause) → time ≤ at → look time n k (set es i (went clause at)) ≡ look time n k es
seen_removed time n k [] i clause at got later = refl
seen_removed time n (suc k) (x ∷ es) zero clause at got later = refl
seen_removed time n (suc k) (x ∷ es) (suc i) clause at got later = seen_removed time n k es i clause at got later
seen_removed time zero zero (x ∷ es) i clause at got later = refl
seen_removed time (suc n) zero (x ∷ es) zero clause at got later =
    let still : nat_le time at ≡ true = grind (arith, nat_tests) in
    ap (λ b. map clause_of (cond b (went clause at ∷ filter (was_there time) (take n es)) (filter (was_there time) (take n es)))) still
    ∙ subst (λ (y : Entry). clause ∷ map clause_of (filter (was_there time) (take n es)) ≡ map clause_of (filter (was_there time) (y ∷ take n es))) (sym (same_Some x (there clause) got)) refl
seen_removed time (suc n) zero (x ∷ es) (suc i) clause at got later = by (was_there time x) (seen_removed time n zero es i clause at got later)
  where
    by : (b : Bool) → look time n zero (set es i (went clause at)) ≡ look time n zero es
        → map clause_of (cond b (x ∷ filter (was_there time) (take n (set es i (went clause at)))) (filter (was_there time) (take n (set es i (went clause at)))))
        ≡ map clause_of (cond b (x ∷ filter (was_there time) (take n es)) (filter (was_there time) (take n es)))
    by true h = ap (λ ns. clause_of x ∷ ns) h
    by false h = h

module _ (w : Window) (es : List Entry) (fronts removals : ℕ) where
  abbrev before : ListValue
  before = record { entries = es; fronts = fronts; removals = removals }

  -- one more in front is in no window
  pub seen_front : (e : Entry) → IsWindow w before → seen_in w (record { entries = e ∷ es; fronts = fronts + 1; removals = removals }) ≡ seen_in w before
  seen_front e is =
      let further : w.start + (fronts + 1 - w.fronts) ≡ suc (w.start + (fronts - w.fronts)) = omega (arith, is.fronts) in
      ap (λ k. look w.removals w.count k (e ∷ es)) further

  pub window_front : (e : Entry) → IsWindow w before → IsWindow w (record { entries = e ∷ es; fronts = fronts + 1; removals = removals })
  window_front e is = record {
    fronts = omega (arith, is.fronts);
    removals = is.removals;
    within = omega (arith, is.fronts, is.within);
  }

  -- nor is one more at the end
  pub seen_back : (e : Entry) → IsWindow w before → seen_in w (record { entries = es ++ e ∷ []; fronts = fronts; removals = removals }) ≡ seen_in w before
  seen_back e is =
      let k = w.start + (fronts - w.fronts) in
      ap (λ xs. map clause_of (filter (was_there w.removals) xs))
      (ap (take w.count) (drop-append-le k es (e ∷ []) (omega (arith, is.within)))
      ∙ take-append-le w.count (drop k es) (e ∷ []) (omega (arith, is.within, length-drop k es)))

  pub window_back : (e : Entry) → IsWindow w before → IsWindow w (record { entries = es ++ e ∷ []; fronts = fronts; removals = removals })
  window_back e is = record { fronts = is.fronts; removals = is.removals; within = omega (arith, is.within, length-append es (e ∷ [])) }

  pub window_removed : (place clause : ℕ) → IsWindow w before → IsWindow w (record { entries = set es place (went clause removals); fronts = fronts; removals = removals + 1 })
  window_removed place clause is = record { fronts = is.fronts; removals = omega (arith, is.removals); within = rw length-set is.within }

-- at the moment a list shows what is there
all_there : (time : ℕ) (es : List Entry) → ((i : ℕ) (e : Entry) (at : ℕ) → slice_get es i ≡ Some e → e.gone ≡ Some at → at < time) → filter (was_there time) es ≡ filter is_there es
all_there time [] gone = refl
all_there time (x ∷ es) gone =
    ap₂ (λ b rest. cond b (x ∷ rest) rest) (same x.gone (λ at g. gone 0 x at refl g)) (all_there time es (λ i e at got g. gone (suc i) e at got g))
  where
    same : (g : Option ℕ) → ((at : ℕ) → g ≡ Some at → at < time) → was_there_at time g ≡ is_none g
    same None before = refl
    same (Some at) before = let l : at < time = before at refl in grind (arith, nat_tests)

pub seen_now : (es : List Entry) (fronts removals count : ℕ) → IsList es fronts removals → count ≡ length es
    → seen_in (record { fronts = fronts; removals = removals; start = 0; count = count }) (record { entries = es; fronts = fronts; removals = removals })
    ≡ present (record { entries = es; fronts = fronts; removals = removals })
seen_now es fronts removals count is whole =
    let first : 0 + (fronts - fronts) ≡ 0 = omega arith in
    ap (λ k. look removals count k es) first
    ∙ ap (λ xs. map clause_of (filter (was_there removals) xs)) (take_all count es (omega (arith, whole)))
    ∙ ap (map clause_of) (all_there removals es is.gone)

-- ---- the next of a window

abbrev pub stepped : Window → Window
stepped w = record { fronts = w.fronts; removals = w.removals; start = w.start + 1; count = w.count - 1 }

first_of_rest : (es : List Entry) (k n : ℕ) (e : Entry) → slice_get es k ≡ Some e → take (suc n) (drop k es) ≡ e ∷ take n (drop (suc k) es)
first_of_rest [] k n e got = absurd (none-some e got)
first_of_rest (x ∷ es) zero n e got = ap (λ y. y ∷ take n es) (same_Some x e got)
first_of_rest (x ∷ es) (suc k) n e got = first_of_rest es k n e got

module _ (w : Window) (l : ListValue) (e : Entry) where
  seen_step : 0 < w.count → slice_get l.entries (w.start + (l.fronts - w.fronts)) ≡ Some e → seen_in w l ≡ map clause_of (filter (was_there w.removals) (e ∷ in_window (stepped w) l))
  seen_step more got =
      let count : w.count ≡ suc (w.count - 1) = omega (arith, more) in
      let next : suc (w.start + (l.fronts - w.fronts)) ≡ w.start + 1 + (l.fronts - w.fronts) = omega arith in
      ap (λ xs. map clause_of (filter (was_there w.removals) xs))
      (ap (λ n. take n (drop (w.start + (l.fronts - w.fronts)) l.entries)) count
      ∙ first_of_rest l.entries (w.start + (l.fronts - w.fronts)) (w.count - 1) e got
      ∙ ap (λ k. e ∷ take (w.count - 1) (drop k l.entries)) next)

  pub seen_some : 0 < w.count → slice_get l.entries (w.start + (l.fronts - w.fronts)) ≡ Some e → true ≡ was_there_at w.removals e.gone → seen_in w l ≡ e.clause ∷ seen_in (stepped w) l
  seen_some more got here = seen_step more got ∙ ap (λ b. map clause_of (cond b (e ∷ filter (was_there w.removals) (in_window (stepped w) l)) (filter (was_there w.removals) (in_window (stepped w) l)))) (sym here)

  pub seen_none : 0 < w.count → slice_get l.entries (w.start + (l.fronts - w.fronts)) ≡ Some e → false ≡ was_there_at w.removals e.gone → seen_in w l ≡ seen_in (stepped w) l
  seen_none more got gone = seen_step more got ∙ ap (λ b. map clause_of (cond b (e ∷ filter (was_there w.removals) (in_window (stepped w) l)) (filter (was_there w.removals) (in_window (stepped w) l)))) (sym gone)

-- a clause at a place wasn't there after so many removals
pub record IsAbsent (es : List Entry) (time place : ℕ) : Type 0 where
  pub entry : Entry
  pub got : slice_get es place ≡ Some entry
  pub gone : was_there_at time entry.gone ≡ false

pub seen_skipped : (g : ℕ) (w : Window) (l : ListValue) → g ≤ w.count → ((j : ℕ) → j < g → IsAbsent l.entries w.removals (w.start + (l.fronts - w.fronts) + j)) → seen_in w l ≡ seen_in (skipped g w) l
seen_skipped zero w l within absent =
    let start : w.start ≡ w.start + 0 = omega arith in
    let count : w.count ≡ w.count - 0 = omega arith in
    ap₂ (λ s n. look w.removals n (s + (l.fronts - w.fronts)) l.entries) start count
seen_skipped (suc g) w l within absent =
    let here = absent 0 (omega arith) in
    let place : w.start + (l.fronts - w.fronts) + 0 ≡ w.start + (l.fronts - w.fronts) = omega arith in
    let start : w.start + 1 + g ≡ w.start + suc g = omega arith in
    let count : w.count - 1 - g ≡ w.count - suc g = omega arith in
    seen_none w l here.entry (omega (arith, within)) (ap (slice_get l.entries) (sym place) ∙ here.got) (sym here.gone)
    ∙ seen_skipped g (stepped w) l (omega (arith, within)) (λ j lt.
    let at : w.start + (l.fronts - w.fronts) + suc j ≡ w.start + 1 + (l.fronts - w.fronts) + j = omega arith in
    subst (λ k. IsAbsent l.entries w.removals k) at (absent (suc j) (omega (arith, lt))))
    ∙ ap₂ (λ s n. look w.removals n (s + (l.fronts - w.fronts)) l.entries) start count

pub window_skipped : (g : ℕ) (w : Window) (l : ListValue) → g ≤ w.count → IsWindow w l → IsWindow (skipped g w) l
window_skipped g w l within is = record { fronts = is.fronts; removals = is.removals; within = omega (arith, is.within, within) }

pub seen_end : (w : Window) (l : ListValue) → w.count ≤ 0 → seen_in w l ≡ []
seen_end w l none = let zero : w.count ≡ 0 = omega (arith, none) in ap (λ n. look w.removals n (w.start + (l.fronts - w.fronts)) l.entries) zero

-- ---- slots

-- the first place of a window, as it was read
module _ (items : List Slot) (fronts removals : ℕ) (l : ListValue) (w : Window) (s : Slot) (view : record { entries = map entry_of items; fronts = fronts; removals = removals } ≡ l)
    (more : 0 < w.count) (is : IsWindow w l) (read : s ≡ get_or items (w.start + (fronts - w.fronts)) s) where
  pub slot_read : slice_get items (w.start + (fronts - w.fronts)) ≡ Some s
  slot_read =
      let here : IsWindow w (record { entries = map entry_of items; fronts = fronts; removals = removals }) = subst (IsWindow w) (sym view) is in
      let inside : w.start + (fronts - w.fronts) < length items = omega (arith, here.within, more, length-map items entry_of) in
      slice_get_read items (length items) (w.start + (fronts - w.fronts)) s refl inside read

  pub slot_in : slice_get l.entries (w.start + (l.fronts - w.fronts)) ≡ Some (entry_of s)
  slot_in =
      subst (λ (v : ListValue). slice_get v.entries (w.start + (v.fronts - w.fronts)) ≡ Some (entry_of s)) view
      (slice_get-map entry_of items (w.start + (fronts - w.fronts)) ∙ ap (option_map entry_of) slot_read)
