-- What holds of numbers that are counted holds of the list that is made of them, in order.
use Rattle.std.proofs.Common.{◌≡◌, ℕ, zero, suc, ◌+◌, ◌<◌, ◌≤◌, arith, List, [], ◌∷◌, ◌++◌, map, All, AllPairs, Contains, flat_map, get_or, refl, sym, subst, ap₂, ◌∙◌, inl, inr}
use Rattle.std.proofs.lemmas.List.{map-append}
use Rattle.std.proofs.lemmas.List.Elements.{All-nil, All-cons, All-head, All-tail, All-append, Contains-append_left, Contains-append_right}
use Rattle.std.proofs.lemmas.List.Kept.{AllPairs-cons}
use Rattle.std.proofs.lemmas.Bool.{cases_eq}
use Rattle.spec_terms.specs.Variables.{counted_from}

module _ {A : Type 0} where
  pairs_nil : (B : A → A → Type 0) → AllPairs B []
  pairs_nil B i j d l m = absurd (omega arith)

  pairs_append : (B : A → A → Type 0) (xs ys : List A) → AllPairs B xs → AllPairs B ys
      → All (λ (x : A). All (B x) ys) xs → AllPairs B (xs ++ ys)
  pairs_append B [] ys h k a = k
  pairs_append B (x ∷ xs) ys h k a =
      AllPairs-cons B x (xs ++ ys) (
      All-append (B x) xs ys (λ i d l. h 0 (suc i) d (omega arith) (omega arith)) (All-head (λ (z : A). All (B z) ys) x xs a)) (
      pairs_append B xs ys (λ i j d l m. h (suc i) (suc j) d (omega arith) (omega arith)) k (All-tail (λ (z : A). All (B z) ys) x xs a))

  pub all_counted : (P : A → Type 0) (f : ℕ → A) (m k : ℕ) → ((i : ℕ) → m ≤ i → i < m + k → P (f i))
      → All P (map f (counted_from m k))
  all_counted P f m zero h = All-nil P
  all_counted P f m (suc k) h = All-cons P (f m) (map f (counted_from (suc m) k)) (h m (omega arith) (omega arith)) (all_counted P f (suc m) k (λ i l u. h i (omega arith) (omega arith)))

  pub contains_counted : (f : ℕ → A) (m k i : ℕ) → m ≤ i → i < m + k → Contains (map f (counted_from m k)) (f i)
  contains_counted f m zero i l u = absurd (omega arith)
  contains_counted f m (suc k) i l u = elim (cases_eq m i) [
    | inl e ↦ (0, omega arith, (λ j. f (e j)))
    | inr n ↦ (let c = contains_counted f (suc m) k i (omega arith) (omega arith) in (suc c.0, omega (arith, c.1), c.2))
  ]

  pub pairs_counted : (B : A → A → Type 0) (f : ℕ → A) (m k : ℕ)
      → ((i j : ℕ) → m ≤ i → i < j → j < m + k → B (f i) (f j)) → AllPairs B (map f (counted_from m k))
  pairs_counted B f m zero h = pairs_nil B
  pairs_counted B f m (suc k) h =
      AllPairs-cons B (f m) (map f (counted_from (suc m) k)) (all_counted (B (f m)) f (suc m) k (λ i l u. h m i (omega arith) (omega arith) (omega arith))) (
      pairs_counted B f (suc m) k (λ i j l c u. h i j (omega arith) c (omega arith)))

  -- ---- lists of lists

  pub all_joined : (P : A → Type 0) (g : ℕ → List A) (m k : ℕ) → ((i : ℕ) → m ≤ i → i < m + k → All P (g i))
      → All P (flat_map g (counted_from m k))
  all_joined P g m zero h = All-nil P
  all_joined P g m (suc k) h = All-append P (g m) (flat_map g (counted_from (suc m) k)) (h m (omega arith) (omega arith)) (all_joined P g (suc m) k (λ i l u. h i (omega arith) (omega arith)))

  pub contains_joined : (g : ℕ → List A) (m k i : ℕ) (x : A) → m ≤ i → i < m + k → Contains (g i) x
      → Contains (flat_map g (counted_from m k)) x
  contains_joined g m zero i x l u c = absurd (omega arith)
  contains_joined g m (suc k) i x l u c = elim (cases_eq m i) [
    | inl e ↦ Contains-append_left (g m) (flat_map g (counted_from (suc m) k)) x (subst (λ (j : ℕ). Contains (g j) x) (sym e) c)
    | inr n ↦ Contains-append_right (g m) (flat_map g (counted_from (suc m) k)) x (contains_joined g (suc m) k i x (omega arith) (omega arith) c)
  ]

  pub pairs_joined : (B : A → A → Type 0) (g : ℕ → List A) (m k : ℕ)
      → ((i : ℕ) → m ≤ i → i < m + k → AllPairs B (g i))
      → ((i j : ℕ) → m ≤ i → i < j → j < m + k → All (λ (x : A). All (B x) (g j)) (g i))
      → AllPairs B (flat_map g (counted_from m k))
  pairs_joined B g m zero h c = pairs_nil B
  pairs_joined B g m (suc k) h c =
      pairs_append B (g m) (flat_map g (counted_from (suc m) k)) (h m (omega arith) (omega arith)) (
      pairs_joined B g (suc m) k (λ i l u. h i (omega arith) (omega arith)) (λ i j l d u. c i j (omega arith) d (omega arith))) (
      λ i d l. all_joined (B (get_or (g m) i d)) g (suc m) k (λ j b u. c m j (omega arith) (omega arith) (omega arith) i d l))

-- ---- the same lists

pub counted_same : {A : Type 0} (f g : ℕ → A) (m k : ℕ) → ((i : ℕ) → m ≤ i → i < m + k → f i ≡ g i)
    → map f (counted_from m k) ≡ map g (counted_from m k)
counted_same f g m zero h = refl
counted_same f g m (suc k) h = ap₂ (λ x xs. x ∷ xs) (h m (omega arith) (omega arith)) (counted_same f g (suc m) k (λ i l u. h i (omega arith) (omega arith)))

pub joined_same : {A B : Type 0} (h : A → B) (f : ℕ → List A) (g : ℕ → List B) (m k : ℕ)
    → ((i : ℕ) → m ≤ i → i < m + k → map h (f i) ≡ g i)
    → map h (flat_map f (counted_from m k)) ≡ flat_map g (counted_from m k)
joined_same h f g m zero e = refl
joined_same h f g m (suc k) e =
    map-append h (f m) (flat_map f (counted_from (suc m) k))
    ∙ ap₂ (λ xs ys. xs ++ ys) (e m (omega arith) (omega arith)) (joined_same h f g (suc m) k (λ i l u. e i (omega arith) (omega arith)))
