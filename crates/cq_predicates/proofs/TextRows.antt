-- What a test keeps of counted things, and of the places of parts.
use Rattle.std.proofs.Common.{◌≡◌, ℕ, zero, suc, ◌+◌, ◌-◌, ◌<◌, ◌≤◌, arith, List, [], ◌∷◌, ◌++◌, map, length, filter, flat_map, Bool, true, false, cond, refl, sym, ap, ap₂, ◌∙◌, inl, inr}
use Rattle.std.proofs.lemmas.Bool.{cases_eq, false_from_ne_true}
use Rattle.std.proofs.lemmas.List.Elements.{filter-append}
use Rattle.spec_terms.specs.Variables.{counted_from}
use Rattle.cq_predicates.specs.Places.{place, fits, row, places_from, all_places}
use Rattle.cq_predicates.specs.declared.text.sought.Place.{Place}
use Rattle.cq_predicates.specs.declared.text.sought.Sought.{Sought}

module _ {A : Type 0} (p : A → Bool) where
  pub keeps : (x : A) (xs : List A) → p x ≡ true → filter p (x ∷ xs) ≡ x ∷ filter p xs
  keeps x xs e = ap (λ b. cond b (x ∷ filter p xs) (filter p xs)) e

  pub drops : (x : A) (xs : List A) → p x ≡ false → filter p (x ∷ xs) ≡ filter p xs
  drops x xs e = ap (λ b. cond b (x ∷ filter p xs) (filter p xs)) e

  pub none_counted : (f : ℕ → A) (m k : ℕ) → ((j : ℕ) → m ≤ j → j < m + k → p (f j) ≡ true → ⊥) → filter p (map f (counted_from m k)) ≡ []
  none_counted f m zero h = refl
  none_counted f m (suc k) h =
      drops (f m) (map f (counted_from (suc m) k)) (false_from_ne_true (p (f m)) (h m (omega arith) (omega arith)))
      ∙ none_counted f (suc m) k (λ j l u. h j (omega arith) (omega arith))

  pub first_counted : (f : ℕ → A) (m k n : ℕ) → m ≤ n → n < m + k → ((j : ℕ) → m ≤ j → j < n → p (f j) ≡ true → ⊥) → p (f n) ≡ true
      → filter p (map f (counted_from m k)) ≡ f n ∷ filter p (map f (counted_from (n + 1) (m + k - (n + 1))))
  first_counted f m zero n l u h e = absurd (omega arith)
  first_counted f m (suc k) n l u h e = elim (cases_eq m n) [
    | inl same ↦ (
        let left : k ≡ m + suc k - (n + 1) = omega arith in
        let next : suc m ≡ n + 1 = omega arith in
        keeps (f m) (map f (counted_from (suc m) k)) (ap (λ j. p (f j)) same ∙ e)
        ∙ ap₂ (λ x xs. x ∷ filter p (map f xs)) (ap f same) (ap₂ counted_from next left))
    | inr other ↦ (
        let left : suc m + k - (n + 1) ≡ m + suc k - (n + 1) = omega arith in
        drops (f m) (map f (counted_from (suc m) k)) (false_from_ne_true (p (f m)) (h m (omega arith) (omega arith)))
        ∙ first_counted f (suc m) k n (omega arith) (omega arith) (λ j a b. h j (omega arith) b) e
        ∙ ap (λ i. f n ∷ filter p (map f (counted_from (n + 1) i))) left)
  ]

-- ---- rows of places

module _ (s : Sought) (cs : List ℕ) where
  abbrev kept : List Place → List Place
  kept ps = filter (fits s cs) ps

  pub row_none : (before low : ℕ) → before ≤ length cs → ((len : ℕ) → low ≤ len → before + len ≤ length cs → fits s cs (place before len) ≡ true → ⊥) → kept (row cs before low) ≡ []
  row_none before low b h = none_counted (fits s cs) (place before) low (length cs + 1 - before - low) (λ j l u. h j l (omega arith))

  pub row_first : (before low len : ℕ) → before + len ≤ length cs → low ≤ len → ((j : ℕ) → low ≤ j → j < len → fits s cs (place before j) ≡ true → ⊥) → fits s cs (place before len) ≡ true
      → kept (row cs before low) ≡ place before len ∷ kept (row cs before (len + 1))
  row_first before low len w l h e =
      let left : low + (length cs + 1 - before - low) - (len + 1) ≡ length cs + 1 - before - (len + 1) = omega arith in
      first_counted (fits s cs) (place before) low (length cs + 1 - before - low) len l (omega arith) h e
      ∙ ap (λ i. place before len ∷ kept (map (place before) (counted_from (len + 1) i))) left

  later : (before k : ℕ) → length cs - before ≡ k → before ≤ length cs → flat_map (λ b. row cs b 0) (counted_from (suc before) k) ≡ places_from cs (suc before) 0
  later before zero e h =
      let none : length cs + 1 - suc before - 0 ≡ 0 = omega arith in
      let few : length cs - suc before ≡ 0 = omega arith in
      sym (ap₂ (λ i j. map (place (suc before)) (counted_from 0 i) ++ flat_map (λ b. row cs b 0) (counted_from (suc (suc before)) j)) none few)
  later before (suc k) e h =
      let few : k ≡ length cs - suc before = omega arith in
      ap (λ j. row cs (suc before) 0 ++ flat_map (λ b. row cs b 0) (counted_from (suc (suc before)) j)) few

  -- no part is left behind so many characters
  pub passed : (before low : ℕ) → before ≤ length cs → kept (row cs before low) ≡ [] → kept (places_from cs before low) ≡ kept (places_from cs (before + 1) 0)
  passed before low h e =
      let rest = flat_map (λ b. row cs b 0) (counted_from (suc before) (length cs - before)) in
      let next : suc before ≡ before + 1 = omega arith in
      filter-append (fits s cs) (row cs before low) rest ∙ ap (λ xs. xs ++ kept rest) e
      ∙ ap kept (later before (length cs - before) refl h) ∙ ap (λ b. kept (places_from cs b 0)) next

-- ---- all places

joined_same : (cs : List ℕ) (m k : ℕ) → m + k ≡ length cs + 1
    → flat_map (λ b. row cs b 0) (counted_from m k) ≡ flat_map (λ b. map (place b) (counted_from 0 (length cs - b + 1))) (counted_from m k)
joined_same cs m zero e = refl
joined_same cs m (suc k) e =
    let few : length cs + 1 - m - 0 ≡ length cs - m + 1 = omega arith in
    ap₂ (λ i xs. map (place m) (counted_from 0 i) ++ xs) few (joined_same cs (suc m) k (omega arith))

pub all_from_start : (cs : List ℕ) → places_from cs 0 0 ≡ all_places cs
all_from_start cs =
    let one : suc (length cs - 0) ≡ length cs + 1 = omega arith in
    joined_same cs 0 (suc (length cs - 0)) (omega arith) ∙ ap (λ k. flat_map (λ b. map (place b) (counted_from 0 (length cs - b + 1))) (counted_from 0 k)) one

-- ---- splits

pub count_first : (q : ℕ → Bool) (n next : ℕ) → next ≤ n → q next ≡ true → filter q (counted_from next (n + 1 - next)) ≡ next ∷ filter q (counted_from (next + 1) (n + 1 - (next + 1)))
count_first q n next h e =
    let left : n + 1 - next ≡ suc (n + 1 - (next + 1)) = omega arith in
    let one : suc next ≡ next + 1 = omega arith in
    ap (λ k. filter q (counted_from next k)) left ∙ keeps q next (counted_from (suc next) (n + 1 - (next + 1))) e
    ∙ ap (λ i. next ∷ filter q (counted_from i (n + 1 - (next + 1)))) one

pub count_passed : (q : ℕ → Bool) (n next : ℕ) → next ≤ n → q next ≡ false → filter q (counted_from next (n + 1 - next)) ≡ filter q (counted_from (next + 1) (n + 1 - (next + 1)))
count_passed q n next h e =
    let left : n + 1 - next ≡ suc (n + 1 - (next + 1)) = omega arith in
    let one : suc next ≡ next + 1 = omega arith in
    ap (λ k. filter q (counted_from next k)) left ∙ drops q next (counted_from (suc next) (n + 1 - (next + 1))) e
    ∙ ap (λ i. filter q (counted_from i (n + 1 - (next + 1)))) one
