-- What an index tells of the clauses that it is made of.
use Rattle.std.proofs.Common.{◌≡◌, ℕ, ◌+◌, ◌-◌, ◌<◌, ◌≤◌, ◌^◌, Bool, true, false, cond, List, [], ◌∷◌, ◌++◌, length, min, Option, Some, None, refl, sym, ap, ap₂, subst, ◌∙◌, arith, length-append}
use Rattle.std.specs.Prelude.{slice_get, is_none, unwrap_or}
use Rattle.std.proofs.lemmas.List.{append-nil}
use Rattle.std.specs.HashMap.{HashMap, get}
use Rattle.cq_clauses.specs.declared.index.Index.{Index}
use Rattle.cq_clauses.specs.declared.key.Key.{Key}
use Rattle.cq_clauses.specs.declared.list.End.{End}
use Rattle.cq_clauses.specs.declared.list.End.TheVariants.{First, Last}
use Rattle.cq_clauses.specs.Alike.{same_key-is, same_key-equiv}
use Rattle.cq_clauses.specs.Database.{added}
use Rattle.cq_clauses.specs.Keys.{same_key, has_key, may_match}
use Rattle.cq_clauses.specs.Numbered.{numbered, IsRising, NoneWithin}
use Rattle.cq_clauses.specs.Indexes.{IsIndex, HasNoted, NoneMatches, noted}
use Rattle.cq_clauses.proofs.Numbers.{covers, rising, numbered-append}

module _ (index : Index) (keys : List (Option Key)) (is : IsIndex index keys) where
  pub keyless_rises : IsRising index.keyless
  keyless_rises = subst IsRising (sym is.keyless) (rising is_none index.first keys)

  pub keyed_rises : (key : Key) (places : List ℕ) → Some places ≡ get same_key index.keyed key → IsRising places
  keyed_rises key places got = subst IsRising (sym (ap (λ o. unwrap_or o []) got ∙ is.keyed key)) (rising (has_key key) index.first keys)

  -- what stands between two numbers is in no list that has no number there
  passed : (test : Option Key → Bool) (places : List ℕ) (from to i : ℕ) (k : Option Key) → places ≡ numbered test index.first keys → NoneWithin places (index.first + from) to
      → from ≤ i → slice_get keys i ≡ Some k → test k ≡ true → to ≤ index.first + i
  passed test places from to i k all none low got passes =
      let at = covers test index.first keys i k got passes in
      none.beyond at.0 (index.first + i) (ap (λ ns. slice_get ns at.0) all ∙ at.1) (omega (arith, low))

  pub none_matches : (key : Key) (from keyless keyed result : ℕ) → NoneWithin index.keyless (index.first + from) keyless
      → NoneWithin (unwrap_or (get same_key index.keyed key) []) (index.first + from) keyed → result ≡ min keyed keyless → NoneMatches key keys from (result - index.first)
  none_matches key from keyless keyed result none_less none_keyed least = record { fails = fails }
    where
      fails : (i : ℕ) (k : Option Key) → from ≤ i → i < result - index.first → slice_get keys i ≡ Some k → may_match key k ≡ false
      fails i None low high got = absurd (omega (arith, high, least, passed is_none index.keyless from keyless i None is.keyless none_less low got refl))
      fails i (Some l) low high got = by (same_key key l) refl
        where
          by : (b : Bool) → same_key key l ≡ b → b ≡ false
          by true same = absurd (omega (arith, high, least, passed (has_key key) (unwrap_or (get same_key index.keyed key) []) from keyed i (Some l) (is.keyed key) none_keyed low got same))
          by false same = refl

-- ---- one more

noted_front : {A : Type 0} (test : A → Bool) (c n : ℕ) (x : A) (xs : List A) (places : List ℕ) → c ≡ n + 1 → places ≡ numbered test c xs → noted (test x) First n places ≡ numbered test n (x ∷ xs)
noted_front test c n x xs places next is = by (test x) (is ∙ ap (λ k. numbered test k xs) next)
  where
    by : (b : Bool) → places ≡ numbered test (n + 1) xs → noted b First n places ≡ cond b (n ∷ numbered test (n + 1) xs) (numbered test (n + 1) xs)
    by true e = ap (λ ns. n ∷ ns) e
    by false e = e

noted_back : {A : Type 0} (test : A → Bool) (c n : ℕ) (x : A) (xs : List A) (places : List ℕ) → n ≡ c + length xs → places ≡ numbered test c xs → noted (test x) Last n places ≡ numbered test c (xs ++ x ∷ [])
noted_back test c n x xs places next is =
    by (test x) ∙ ap₂ (λ ns m. ns ++ cond (test x) (m ∷ []) []) is next ∙ sym (numbered-append test c xs (x ∷ []))
  where
    by : (b : Bool) → noted b Last n places ≡ places ++ cond b (n ∷ []) []
    by true = refl
    by false = sym (append-nil places)

-- a list taken out, and put back with one more number
module _ {S : Type 0} (old mid new : HashMap Key (List ℕ) S) (key : Key) (end : End) (number : ℕ) (places : List ℕ)
    (removed : (k : Key) → get same_key mid k ≡ cond (same_key key k) None (get same_key old k))
    (put : (k : Key) → get same_key new k ≡ cond (same_key key k) (Some places) (get same_key mid k))
    (is : places ≡ added end number (unwrap_or (get same_key old key) [])) where
  pub noted_keyed : (k : Key) → unwrap_or (get same_key new k) [] ≡ noted (same_key k key) end number (unwrap_or (get same_key old k) [])
  noted_keyed k = by (same_key key k) refl
    where
      by : (b : Bool) → same_key key k ≡ b → unwrap_or (get same_key new k) [] ≡ noted (same_key k key) end number (unwrap_or (get same_key old k) [])
      by true e =
          ap (λ o. unwrap_or o []) (put k ∙ ap (λ b. cond b (Some places) (get same_key mid k)) e) ∙ is
          ∙ ap (λ l. added end number (unwrap_or (get same_key old l) [])) (same_key-is key k e)
          ∙ sym (ap (λ b. noted b end number (unwrap_or (get same_key old k) [])) (same_key-equiv.symm k key ∙ e))
      by false e =
          ap (λ o. unwrap_or o []) (put k ∙ ap (λ b. cond b (Some places) (get same_key mid k)) e ∙ removed k ∙ ap (λ b. cond b None (get same_key old k)) e)
          ∙ sym (ap (λ b. noted b end number (unwrap_or (get same_key old k) [])) (same_key-equiv.symm k key ∙ e))

module _ (old mid : Index) (keys : List (Option Key)) (key : Option Key) (number : ℕ) (is : IsIndex old keys) where
  pub added_first : HasNoted key number First old mid → old.first ≡ number + 1 → IsIndex (record mid { first = number; count = mid.count + 1 }) (key ∷ keys)
  added_first has next = record {
    counted = omega (arith, has.count, is.counted);
    fits = omega (arith, has.count, is.fits, next);
    keyless = has.keyless ∙ noted_front is_none old.first number key keys old.keyless next is.keyless;
    keyed = λ k. has.keyed k ∙ noted_front (has_key k) old.first number key keys (unwrap_or (get same_key old.keyed k) []) next (is.keyed k);
  }

  pub added_last : HasNoted key number Last old mid → number ≡ old.first + old.count → number + 1 < 2 ^ 64 → IsIndex (record mid { count = mid.count + 1 }) (keys ++ key ∷ [])
  added_last has next fits = record {
    counted = omega (arith, has.count, is.counted, length-append keys (key ∷ []));
    fits = omega (arith, has.count, has.first, next, fits);
    keyless = has.keyless ∙ noted_back is_none old.first number key keys old.keyless (omega (arith, next, is.counted)) is.keyless ∙ ap (λ c. numbered is_none c (keys ++ key ∷ [])) (sym has.first);
    keyed = λ k. has.keyed k ∙ noted_back (has_key k) old.first number key keys (unwrap_or (get same_key old.keyed k) []) (omega (arith, next, is.counted)) (is.keyed k)
        ∙ ap (λ c. numbered (has_key k) c (keys ++ key ∷ [])) (sym has.first);
  }
