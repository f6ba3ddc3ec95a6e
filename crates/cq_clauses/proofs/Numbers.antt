-- The numbers of the places that pass a test.
use Rattle.std.proofs.Common.{◌≡◌, ℕ, zero, suc, ◌+◌, ◌≤◌, Bool, true, false, cond, List, [], ◌∷◌, ◌++◌, length, get_or, Result, Ok, Err, Some, MatchResult, nat_cmp, sym, ap, subst, ◌∙◌, ◌⊎◌, inl, inr, ◌<◌, arith}
use Rattle.std.specs.Prelude.{slice_get}
use Rattle.std.proofs.lemmas.Option.{none-some, same_Some}
use Rattle.std.specs.List.Sorted.{IsBinarySearchResult}
use Rattle.std.proofs.lemmas.Option.{slice_get_within, slice_get-get_or, get_or_from_slice_get}
use Rattle.std.proofs.lemmas.Bool.{cases_lt}
use Rattle.std.proofs.lemmas.List.Sorted.{searched}
use Rattle.cq_clauses.specs.Numbered.{numbered, IsRising, NoneWithin}

module _ {A : Type 0} (test : A → Bool) where
  -- a place that passes has its number there
  pub covers : (c : ℕ) (xs : List A) (i : ℕ) (x : A) → slice_get xs i ≡ Some x → test x ≡ true → (j : ℕ) × (slice_get (numbered test c xs) j ≡ Some (c + i))
  covers c [] i x got passes = absurd (none-some x got)
  covers c (y ∷ xs) zero x got passes =
      let first : test y ≡ true = ap test (same_Some y x got) ∙ passes in
      let same : c ≡ c + 0 = omega arith in
      (0, ap (λ b. slice_get (cond b (c ∷ numbered test (c + 1) xs) (numbered test (c + 1) xs)) 0) first ∙ ap Some same)
  covers c (y ∷ xs) (suc i) x got passes =
      let rest = covers (c + 1) xs i x got passes in
      let same : c + 1 + i ≡ c + suc i = omega arith in
      by (test y) rest.0 (rest.1 ∙ ap Some same)
    where
      by : (b : Bool) (j : ℕ) → slice_get (numbered test (c + 1) xs) j ≡ Some (c + suc i)
          → (j : ℕ) × (slice_get (cond b (c ∷ numbered test (c + 1) xs) (numbered test (c + 1) xs)) j ≡ Some (c + suc i))
      by true j at = (suc j, at)
      by false j at = (j, at)

  -- each is the first number or more
  from_first : (c : ℕ) (xs : List A) (i n : ℕ) → slice_get (numbered test c xs) i ≡ Some n → c ≤ n
  from_first c [] i n got = absurd (none-some n got)
  from_first c (x ∷ xs) i n got = by (test x) i got (λ j g. from_first (c + 1) xs j n g)
    where
      by : (b : Bool) (i : ℕ) → slice_get (cond b (c ∷ numbered test (c + 1) xs) (numbered test (c + 1) xs)) i ≡ Some n
          → ((j : ℕ) → slice_get (numbered test (c + 1) xs) j ≡ Some n → c + 1 ≤ n) → c ≤ n
      by true zero got rest = omega (arith, same_Some c n got)
      by true (suc i) got rest = omega (arith, rest i got)
      by false i got rest = omega (arith, rest i got)

  pub rising : (c : ℕ) (xs : List A) → IsRising (numbered test c xs)
  rising c [] = record { rises = λ i j m n order got got'. absurd (none-some m got) }
  rising c (x ∷ xs) = record { rises = λ i j m n order got got'. by (test x) i j m n order got got' (λ k l order' at at'. (rising (c + 1) xs).rises k l m n order' at at') }
    where
      by : (b : Bool) (i j m n : ℕ) → i ≤ j → slice_get (cond b (c ∷ numbered test (c + 1) xs) (numbered test (c + 1) xs)) i ≡ Some m
          → slice_get (cond b (c ∷ numbered test (c + 1) xs) (numbered test (c + 1) xs)) j ≡ Some n
          → ((k l : ℕ) → k ≤ l → slice_get (numbered test (c + 1) xs) k ≡ Some m → slice_get (numbered test (c + 1) xs) l ≡ Some n → m ≤ n) → m ≤ n
      by true zero zero m n order got got' rest = omega (arith, same_Some c m got, same_Some c n got')
      by true zero (suc j) m n order got got' rest = omega (arith, same_Some c m got, from_first (c + 1) xs j n got')
      by true (suc i) zero m n order got got' rest = absurd (omega (arith, order))
      by true (suc i) (suc j) m n order got got' rest = rest i j (omega (arith, order)) got got'
      by false i j m n order got got' rest = rest i j order got got'

  pub numbered-append : (c : ℕ) (xs ys : List A) → numbered test c (xs ++ ys) ≡ numbered test c xs ++ numbered test (c + length xs) ys
  numbered-append c [] ys = let same : c ≡ c + 0 = omega arith in ap (λ n. numbered test n ys) same
  numbered-append c (x ∷ xs) ys =
      let same : c + 1 + length xs ≡ c + suc (length xs) = omega arith in
      by (test x) (numbered-append (c + 1) xs ys ∙ ap (λ n. numbered test (c + 1) xs ++ numbered test n ys) same)
    where
      by : (b : Bool) → numbered test (c + 1) (xs ++ ys) ≡ numbered test (c + 1) xs ++ numbered test (c + suc (length xs)) ys
          → cond b (c ∷ numbered test (c + 1) (xs ++ ys)) (numbered test (c + 1) (xs ++ ys))
          ≡ cond b (c ∷ numbered test (c + 1) xs) (numbered test (c + 1) xs) ++ numbered test (c + suc (length xs)) ys
      by true rest = ap (λ ns. c ∷ ns) rest
      by false rest = rest

-- what a search for a number found in numbers that rise
module _ (xs : List ℕ) (from : ℕ) (r : Result ℕ ℕ) (p : ℕ) (result : IsBinarySearchResult (λ y. nat_cmp y from) xs r) (is : IsRising xs) (at : (r ≡ Ok p) ⊎ (r ≡ Err p)) where
  no_less : (i j : ℕ) → i ≤ j → j < length xs → get_or xs i 0 ≤ get_or xs j 0
  no_less i j order l =
      is.rises i j (get_or xs i 0) (get_or xs j 0) order (slice_get-get_or xs i 0 (omega (arith, order, l))) (slice_get-get_or xs j 0 l)

  abbrev Found : Result ℕ ℕ → Type 0
  Found s = MatchResult s (λ i. (i < length xs) × (get_or xs i 0 ≡ from))
      (λ i. (i ≤ length xs) × ((k : ℕ) → k < i → get_or xs k 0 < from) × ((k : ℕ) → i ≤ k → k < length xs → from < get_or xs k 0))

  found : Found r
  found = searched xs from r result no_less

  pub least_some : (n : ℕ) → slice_get xs p ≡ Some n → (from ≤ n) × NoneWithin xs from n
  least_some n got = elim at [
    | inl ok ↦ (
        let m = subst Found ok found in
        let same : n ≡ from = sym (get_or_from_slice_get xs p n 0 got) ∙ m.1 in
        (omega (arith, same), record { beyond = λ i x stood high. omega (arith, same, high) }))
    | inr err ↦ (
        let m = subst Found err found in
        let more : from < n = subst (λ y. from < y) (get_or_from_slice_get xs p n 0 got) (m.2 p (omega arith) (slice_get_within xs p n got)) in (
          omega (arith, more),
          record {
            beyond = λ i x stood high. elim (cases_lt i p) [
              | inl less ↦ (let low : x < from = subst (λ y. y < from) (get_or_from_slice_get xs i x 0 stood) (m.1 i less) in absurd (omega (arith, low, high)))
              | inr rest ↦ is.rises p i n x rest got stood
            ];
          },
        ))
  ]

  pub least_none : (end : ℕ) → length xs ≤ p → NoneWithin xs from end
  least_none end past = record {
    beyond = λ i x stood high.
        let within : i < length xs = slice_get_within xs i x stood in
        elim at [
          | inl ok ↦ (let m = subst Found ok found in absurd (omega (arith, m.0, past)))
          | inr err ↦ (
              let m = subst Found err found in
              let low : x < from = subst (λ y. y < from) (get_or_from_slice_get xs i x 0 stood) (m.1 i (omega (arith, within, past))) in
              absurd (omega (arith, low, high)))
        ];
  }
