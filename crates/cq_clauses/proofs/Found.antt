-- The procedure of a predicate.
use Rattle.std.proofs.Common.{◌≡◌, ℕ, zero, suc, ◌+◌, ◌<◌, Bool, true, false, cond, not, ◌||◌, List, [], ◌∷◌, ◌++◌, map, set, get_or, position, find, Some, None, nat_lt, refl, sym, ap, ap₂, ◌∙◌, ◌⊎◌, inl, inr, arith}
use Rattle.std.specs.Prelude.{slice_get}
use Rattle.std.specs.List.{list_any, prefix_len}
use Rattle.std.specs.Option.{option_map}
use Rattle.std.proofs.lemmas.List.{length-map}
use Rattle.std.proofs.lemmas.List.Quantifiers.{position-Some}
use Rattle.std.proofs.lemmas.Option.{none-some, same_Some, get_or_from_slice_get}
use Rattle.cq_clauses.specs.Database.{first_changed}

-- ---- the place of the first that passes a test

prefix_len-map : {A B : Type 0} (f : A → B) (p : B → Bool) (xs : List A) → prefix_len p (map f xs) ≡ prefix_len (λ x. p (f x)) xs
prefix_len-map f p [] = refl
prefix_len-map f p (x ∷ xs) = ap (λ n. cond (p (f x)) (1 + n) 0) (prefix_len-map f p xs)

pub position-map : {A B : Type 0} (f : A → B) (p : B → Bool) (xs : List A) → position p (map f xs) ≡ position (λ x. p (f x)) xs
position-map f p xs = ap₂ (λ k n. cond (nat_lt k n) (Some k) None) (prefix_len-map f (λ y. not (p y)) xs) (length-map xs f)

pub list_any-map : {A B : Type 0} (f : A → B) (test : B → Bool) (xs : List A) → list_any test (map f xs) ≡ list_any (λ x. test (f x)) xs
list_any-map f test [] = refl
list_any-map f test (x ∷ xs) = ap (λ b. test (f x) || b) (list_any-map f test xs)

-- ---- the change of that one

module _ {A : Type 0} (test : A → Bool) (change : A → A) (other : A) where
  at_first : (xs : List A) (i : ℕ) (x : A) → slice_get xs i ≡ Some x → test x ≡ true → ((k : ℕ) → k < i → test (get_or xs k x) ≡ false) → first_changed test change other xs ≡ set xs i (change x)
  at_first [] i x got passes others = absurd (none-some x got)
  at_first (y ∷ xs) zero x got passes others =
      let same : y ≡ x = same_Some y x got in
      ap (λ b. cond b (change y ∷ xs) (y ∷ first_changed test change other xs)) (ap test same ∙ passes) ∙ ap (λ z. change z ∷ xs) same
  at_first (y ∷ xs) (suc i) x got passes others =
      ap (λ b. cond b (change y ∷ xs) (y ∷ first_changed test change other xs)) (others 0 (omega arith))
      ∙ ap (λ zs. y ∷ zs) (at_first xs i x got passes (λ k l. others (suc k) (omega (arith, l))))

  pub changed_at : (xs : List A) (i : ℕ) (x : A) → position test xs ≡ Some i → slice_get xs i ≡ Some x → first_changed test change other xs ≡ set xs i (change x)
  changed_at xs i x found got =
      let first = position-Some test xs i x found in
      at_first xs i x got (ap test (sym (get_or_from_slice_get xs i x x got)) ∙ first.1) first.2

  pub changed_none : (xs : List A) → list_any test xs ≡ false → first_changed test change other xs ≡ xs ++ other ∷ []
  changed_none [] none = refl
  changed_none (x ∷ xs) none = by (test x) none (changed_none xs)
    where
      by : (b : Bool) → (b || list_any test xs) ≡ false → (list_any test xs ≡ false → first_changed test change other xs ≡ xs ++ other ∷ [])
          → cond b (change x ∷ xs) (x ∷ first_changed test change other xs) ≡ x ∷ xs ++ other ∷ []
      by true n rest = cc
      by false n rest = ap (λ ys. x ∷ ys) (rest n)

-- what stood at a place stays or is changed
pub changed_still : {A : Type 0} (test : A → Bool) (change : A → A) (other : A) (xs : List A) (i : ℕ) (x : A) → slice_get xs i ≡ Some x
    → (slice_get (first_changed test change other xs) i ≡ Some x) ⊎ (slice_get (first_changed test change other xs) i ≡ Some (change x))
changed_still test change other [] i x got = absurd (none-some x got)
changed_still test change other (y ∷ xs) i x got = by (test y) i got (λ j g. changed_still test change other xs j x g)
  where
    by : (b : Bool) (i : ℕ) → slice_get (y ∷ xs) i ≡ Some x
        → ((j : ℕ) → slice_get xs j ≡ Some x → (slice_get (first_changed test change other xs) j ≡ Some x) ⊎ (slice_get (first_changed test change other xs) j ≡ Some (change x)))
        → (slice_get (cond b (change y ∷ xs) (y ∷ first_changed test change other xs)) i ≡ Some x) ⊎ (slice_get (cond b (change y ∷ xs) (y ∷ first_changed test change other xs)) i ≡ Some (change x))
    by true zero got rest = inr (ap (λ z. Some (change z)) (same_Some y x got))
    by true (suc i) got rest = inl got
    by false zero got rest = inl got
    by false (suc i) got rest = rest i got

-- a view of the list changes alike
pub changed-map : {A B : Type 0} (view : A → B) (test : A → Bool) (change : A → A) (other : A) (test' : B → Bool) (change' : B → B) (other' : B)
    → ((x : A) → test x ≡ test' (view x)) → ((x : A) → view (change x) ≡ change' (view x)) → view other ≡ other'
    → (xs : List A) → map view (first_changed test change other xs) ≡ first_changed test' change' other' (map view xs)
changed-map view test change other test' change' other' tests changes others [] = ap (λ y. y ∷ []) others
changed-map view test change other test' change' other' tests changes others (x ∷ xs) =
    by (test x) (changed-map view test change other test' change' other' tests changes others xs)
    ∙ ap (λ b. cond b (change' (view x) ∷ map view xs) (view x ∷ first_changed test' change' other' (map view xs))) (tests x)
  where
    by : (b : Bool) → map view (first_changed test change other xs) ≡ first_changed test' change' other' (map view xs)
        → map view (cond b (change x ∷ xs) (x ∷ first_changed test change other xs)) ≡ cond b (change' (view x) ∷ map view xs) (view x ∷ first_changed test' change' other' (map view xs))
    by true rest = ap (λ y. y ∷ map view xs) (changes x)
    by false rest = ap (λ ys. view x ∷ ys) rest

-- ---- the one that is found

module _ {A : Type 0} (test : A → Bool) where
  at_first_find : (xs : List A) (i : ℕ) (x : A) → slice_get xs i ≡ Some x → test x ≡ true → ((k : ℕ) → k < i → test (get_or xs k x) ≡ false) → find test xs ≡ Some x
  at_first_find [] i x got passes others = absurd (none-some x got)
  at_first_find (y ∷ xs) zero x got passes others =
      let same : y ≡ x = same_Some y x got in
      ap (λ b. cond b (Some y) (find test xs)) (ap test same ∙ passes) ∙ ap (λ z. Some z) same
  at_first_find (y ∷ xs) (suc i) x got passes others =
      ap (λ b. cond b (Some y) (find test xs)) (others 0 (omega arith))
      ∙ at_first_find xs i x got passes (λ k l. others (suc k) (omega (arith, l)))

  pub find_at : (xs : List A) (i : ℕ) (x : A) → position test xs ≡ Some i → slice_get xs i ≡ Some x → find test xs ≡ Some x
  find_at xs i x found got =
      let first = position-Some test xs i x found in
      at_first_find xs i x got (ap test (sym (get_or_from_slice_get xs i x x got)) ∙ first.1) first.2

  pub find_none : (xs : List A) → list_any test xs ≡ false → find test xs ≡ None
  find_none [] none = refl
  find_none (x ∷ xs) none = by (test x) none (find_none xs)
    where
      by : (b : Bool) → (b || list_any test xs) ≡ false → (list_any test xs ≡ false → find test xs ≡ None) → cond b (Some x) (find test xs) ≡ None
      by true n rest = cc
      by false n rest = rest n

pub find-map : {A B : Type 0} (view : A → B) (test : B → Bool) (xs : List A) → find test (map view xs) ≡ option_map view (find (λ x. test (view x)) xs)
find-map view test [] = refl
find-map view test (x ∷ xs) = by (test (view x)) (find-map view test xs)
  where
    by : (b : Bool) → find test (map view xs) ≡ option_map view (find (λ x. test (view x)) xs)
        → cond b (Some (view x)) (find test (map view xs)) ≡ option_map view (cond b (Some x) (find (λ x. test (view x)) xs))
    by true rest = refl
    by false rest = rest
