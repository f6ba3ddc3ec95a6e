-- The numbers that wait, and what they wait for.
use Rattle.std.proofs.Common.{◌≡◌, ℕ, zero, suc, ◌+◌, ◌<◌, ◌≤◌, Bool, true, false, cond, List, [], ◌∷◌, length, get_or, Some, refl, sym, ap, subst, ◌∙◌, inl, inr, zero-add, arith}
use Rattle.std.specs.Prelude.{slice_get, Contains, All}
use Rattle.std.proofs.lemmas.List.{length-map}
use Rattle.std.proofs.lemmas.Option.{none-some, same_Some, slice_get_within}
use Rattle.std.proofs.lemmas.List.Elements.{Contains-get_or}
use Rattle.std.proofs.lemmas.List.Kept.{AllPairs-cons}
use Rattle.cq_attr.specs.declared.susp.Slot.{Slot}
use Rattle.cq_attr.specs.Attributes.{Attributes, Waiting, numbers, Ascends, WaitsFor, IsWokenBy}
use Rattle.cq_attr.specs.Layout.{Watchers, NumericNotes, waiting_at, waiting_from, attributes_of, IsAwake}
use Rattle.cq_attr.proofs.Elements.{contains_here, contains_later, contains_cond, contains_cases, contains_none}
use Rattle.cq_attr.proofs.Watched.{contains_watched, watched_contains}

-- ---- slots that wait

-- the slot that this waits in, of slots of which the first has the number n
pub record WaitsIn (n : ℕ) (ss : List Slot) (ws : Watchers) (w : Waiting) : Type 0 where
  pub place : ℕ
  pub slot : Slot
  pub there : slice_get ss place ≡ Some slot
  pub waits : slot.waits ≡ true
  pub is : w ≡ waiting_at (n + place) slot ws

waits_later : (n : ℕ) (r : Slot) (ss : List Slot) (ws : Watchers) (w : Waiting) → WaitsIn (suc n) ss ws w → WaitsIn n (r ∷ ss) ws w
waits_later n r ss ws w h =
    let e : suc n + h.place ≡ n + suc h.place = omega arith in
    record { place = suc h.place; slot = h.slot; there = h.there; waits = h.waits; is = h.is ∙ ap (λ m. waiting_at m h.slot ws) e }

waits_first : (n : ℕ) (r : Slot) (ss : List Slot) (ws : Watchers) (w : Waiting) (b : Bool) → r.waits ≡ b → (Contains (waiting_from (suc n) ss ws) w → WaitsIn (suc n) ss ws w)
    → Contains (cond b (waiting_at n r ws ∷ waiting_from (suc n) ss ws) (waiting_from (suc n) ss ws)) w → WaitsIn n (r ∷ ss) ws w
waits_first n r ss ws w true waits rest h =
    elim (contains_cases (waiting_at n r ws) (waiting_from (suc n) ss ws) w h) [
      | inl e ↦ (let z : n ≡ n + 0 = omega arith in record { place = 0; slot = r; there = refl; waits = waits; is = sym e ∙ ap (λ m. waiting_at m r ws) z })
      | inr l ↦ waits_later n r ss ws w (rest l)
    ]
waits_first n r ss ws w false waits rest h = waits_later n r ss ws w (rest h)

pub waits_in : (n : ℕ) (ss : List Slot) (ws : Watchers) (w : Waiting) → Contains (waiting_from n ss ws) w → WaitsIn n ss ws w
waits_in n [] ws w h = absurd (contains_none w h)
waits_in n (r ∷ ss) ws w h = waits_first n r ss ws w r.waits refl (waits_in (suc n) ss ws w) h

pub contains_waiting : (n : ℕ) (ss : List Slot) (ws : Watchers) (k : ℕ) (s : Slot) → slice_get ss k ≡ Some s → s.waits ≡ true → Contains (waiting_from n ss ws) (waiting_at (n + k) s ws)
contains_waiting n [] ws k s at waits = absurd (none-some s at)
contains_waiting n (r ∷ ss) ws zero s at waits =
    let is : r ≡ s = same_Some r s at in
    let xs = waiting_from (suc n) ss ws in
    let z : n ≡ n + 0 = omega arith in
    let P : Bool → Type 0 = λ b. Contains (cond b (waiting_at n r ws ∷ xs) xs) (waiting_at (n + 0) s ws) in
    subst P (sym (ap (λ t. t.waits) is ∙ waits)) (contains_here (waiting_at n r ws) xs (waiting_at (n + 0) s ws) (ap (λ t. waiting_at n t ws) is ∙ ap (λ m. waiting_at m s ws) z))
contains_waiting n (r ∷ ss) ws (suc k) s at waits =
    let e : suc n + k ≡ n + suc k = omega arith in
    let P : ℕ → Type 0 = λ m. Contains (waiting_from (suc n) ss ws) (waiting_at m s ws) in
    contains_cond r.waits (waiting_at n r ws) (waiting_from (suc n) ss ws) (waiting_at (n + suc k) s ws) (subst P e (contains_waiting (suc n) ss ws k s at waits))

-- ---- numbers that wait

number_of : (xs : List Waiting) (m : ℕ) → Contains (numbers xs) m → (w : Waiting) × Contains xs w × (w.number ≡ m)
number_of [] m h = absurd (contains_none m h)
number_of (x ∷ xs) m h =
    elim (contains_cases x.number (numbers xs) m h) [
      | inl e ↦ (x, contains_here x xs x refl, e)
      | inr l ↦ let r = number_of xs m l in (r.0, contains_later x xs r.0 r.1, r.2)
    ]

-- the slot of a number that waits
pub record HasSlot (ss : List Slot) (m : ℕ) : Type 0 where
  pub slot : Slot
  pub there : slice_get ss m ≡ Some slot
  pub waits : slot.waits ≡ true

pub slot_of : (ss : List Slot) (ws : Watchers) (m : ℕ) → Contains (numbers (waiting_from 0 ss ws)) m → HasSlot ss m
slot_of ss ws m h =
    let w = number_of (waiting_from 0 ss ws) m h in
    let i = waits_in 0 ss ws w.0 w.1 in
    let e : i.place ≡ m = sym (zero-add i.place) ∙ sym (ap (λ x. x.number) i.is) ∙ w.2 in
    record { slot = i.slot; there = ap (slice_get ss) (sym e) ∙ i.there; waits = i.waits }

pub number_within : (ss : List Slot) (ws : Watchers) (m : ℕ) → Contains (numbers (waiting_from 0 ss ws)) m → m < length ss
number_within ss ws m h = let s = slot_of ss ws m h in slice_get_within ss m s.slot s.there

bounds : (n : ℕ) (ss : List Slot) (ws : Watchers) (m : ℕ) → Contains (numbers (waiting_from n ss ws)) m → (n ≤ m) × (m < n + length ss)
bounds n ss ws m h =
    let w = number_of (waiting_from n ss ws) m h in
    let i = waits_in n ss ws w.0 w.1 in
    let e : n + i.place ≡ m = sym (ap (λ x. x.number) i.is) ∙ w.2 in
    let l = slice_get_within ss i.place i.slot i.there in
    (omega (arith, e), omega (arith, e, l))

pub numbers_below : (n : ℕ) (ss : List Slot) (ws : Watchers) → All (λ m. m < n + length ss) (numbers (waiting_from n ss ws))
numbers_below n ss ws k d l = (bounds n ss ws (get_or (numbers (waiting_from n ss ws)) k d) (Contains-get_or (numbers (waiting_from n ss ws)) k d l)).1

numbers_above : (n : ℕ) (ss : List Slot) (ws : Watchers) → All (λ m. n ≤ m) (numbers (waiting_from n ss ws))
numbers_above n ss ws k d l = (bounds n ss ws (get_or (numbers (waiting_from n ss ws)) k d) (Contains-get_or (numbers (waiting_from n ss ws)) k d l)).0

ascends_first : (b : Bool) (x : Waiting) (xs : List Waiting) → All (λ m. suc x.number ≤ m) (numbers xs) → Ascends (numbers xs) → Ascends (numbers (cond b (x ∷ xs) xs))
ascends_first true x xs above up = AllPairs-cons (λ i j. i < j) x.number (numbers xs) (λ k d l. omega (arith, above k d l)) up
ascends_first false x xs above up = up

pub numbers_ascending : (n : ℕ) (ss : List Slot) (ws : Watchers) → Ascends (numbers (waiting_from n ss ws))
numbers_ascending n [] ws = λ i j d below within. absurd (omega (arith, within))
numbers_ascending n (s ∷ ss) ws = ascends_first s.waits (waiting_at n s ws) (waiting_from (suc n) ss ws) (numbers_above (suc n) ss ws) (numbers_ascending (suc n) ss ws)

-- ---- what is awake

pub awake_waits : (ns : NumericNotes) (ws : Watchers) (ss : List Slot) (v n : ℕ) → IsAwake ws ss v n → WaitsFor (attributes_of ns ws ss) n v
awake_waits ns ws ss v n h =
    let P : ℕ → Type 0 = λ m. Contains (waiting_from 0 ss ws) (waiting_at m h.slot ws) in
    record { waiting = waiting_at n h.slot ws; waits = subst P (zero-add n) (contains_waiting 0 ss ws n h.slot h.there h.waits); number = refl; watches = contains_watched n ws h.place v h.note }

pub waits_awake : (ns : NumericNotes) (ws : Watchers) (ss : List Slot) (v n : ℕ) → WaitsFor (attributes_of ns ws ss) n v → IsAwake ws ss v n
waits_awake ns ws ss v n h =
    let i = waits_in 0 ss ws h.waiting h.waits in
    let e : i.place ≡ n = sym (zero-add i.place) ∙ sym (ap (λ x. x.number) i.is) ∙ h.number in
    let P : Waiting → Type 0 = λ x. Contains x.watched v in
    let found = watched_contains (0 + i.place) ws v (subst P i.is h.watches) in
    record { place = found.0; note = found.1 ∙ ap (λ m. Some (v, m)) (zero-add i.place ∙ e); slot = i.slot; there = ap (slice_get ss) (sym e) ∙ i.there; waits = i.waits }

-- the numbers do not depend on what they wait for
pub numbers_alone : (n : ℕ) (ss : List Slot) (ws us : Watchers) → numbers (waiting_from n ss ws) ≡ numbers (waiting_from n ss us)
numbers_alone n [] ws us = refl
numbers_alone n (s ∷ ss) ws us = by_first s.waits (numbers_alone (suc n) ss ws us) where
  by_first : (b : Bool) → numbers (waiting_from (suc n) ss ws) ≡ numbers (waiting_from (suc n) ss us)
      → numbers (cond b (waiting_at n s ws ∷ waiting_from (suc n) ss ws) (waiting_from (suc n) ss ws)) ≡ numbers (cond b (waiting_at n s us ∷ waiting_from (suc n) ss us) (waiting_from (suc n) ss us))
  by_first true e = ap (λ ms. n ∷ ms) e
  by_first false e = e

-- ---- what wakes waits

contains_number : (xs : List Waiting) (w : Waiting) → Contains xs w → Contains (numbers xs) w.number
contains_number xs w h = (h.0, rw (length-map xs (λ (x : Waiting). x.number)) h.1, get_number xs h.0 w h.2) where
  get_number : (ys : List Waiting) (k : ℕ) (y : Waiting) → get_or ys k y ≡ y → get_or (numbers ys) k y.number ≡ y.number
  get_number [] k y e = refl
  get_number (x ∷ ys) zero y e = ap (λ z. z.number) e
  get_number (x ∷ ys) (suc k) y e = get_number ys k y e

pub woken_waits : (a : Attributes) (vs : List ℕ) (n : ℕ) → IsWokenBy a vs n → Contains (numbers a.waiting) n
woken_waits a vs n h =
    let P : ℕ → Type 0 = Contains (numbers a.waiting) in
    subst P h.waits_for.number (contains_number a.waiting h.waits_for.waiting h.waits_for.waits)
