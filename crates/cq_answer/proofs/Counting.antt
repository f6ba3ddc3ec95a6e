-- Variables that are named one by one.
use Rattle.std.proofs.Common.{◌≡◌, ℕ, suc, ◌+◌, ◌-◌, ◌<◌, ◌≤◌, Bool, true, false, cond, List, [], ◌∷◌, ◌++◌, length, take, drop, get_or, map, refl, sym, ap, ap₂, ◌∙◌, arith, append_assoc, append-nil, length-append}
use Rattle.std.specs.Prelude.{filter}
use Rattle.std.proofs.lemmas.List.{take_more, map-append}
use Rattle.std.proofs.lemmas.List.Elements.{filter-append}
use Rattle.spec_terms.specs.VariableName.{VariableName}
use Rattle.spec_text.specs.Written.{counted_name}
use Rattle.cq_frac.specs.declared.VarId.{VarId}
use Rattle.cq_term.specs.Places.{numbers_of}
use Rattle.cq_answer.specs.Numbered.{counted, AreCounted}
use Rattle.cq_answer.proofs.Numbering.{counted_push}

counted_length : (k : ℕ) (us : List ℕ) → length (counted k us) ≡ length us
counted_length k [] = refl
counted_length k (u ∷ us) = ap suc (counted_length (suc k) us)

-- the next one
pub next_counted : (first : List VariableName) (us : List ℕ) (from v : ℕ) (names new : List VariableName) → AreCounted first us from names →
    new ≡ names ++ record { name = counted_name (length names - from); number = v } ∷ [] → AreCounted first (us ++ v ∷ []) from new
next_counted first us from v names new a e =
    let long : length names - from ≡ 0 + length us = omega (arith, a.0, ap (λ (ns : List VariableName). length ns) a.1, length-append first (counted 0 us), counted_length 0 us) in (
      a.0,
      e ∙ ap₂ (λ ns n. ns ++ record { name = counted_name n; number = v } ∷ []) a.1 long
          ∙ append_assoc first (counted 0 us) (record { name = counted_name (0 + length us); number = v } ∷ [])
          ∙ ap (λ ns. first ++ ns) (sym (counted_push 0 us v)),
    )

-- all of them as far as they are named
pub counted_more : (first : List VariableName) (us : List ℕ) (from : ℕ) (xs : List VarId) (i : ℕ) (x : VarId) (names new : List VariableName) → i < length xs → x ≡ get_or xs i x →
    AreCounted first (us ++ numbers_of (take i xs)) from names → new ≡ names ++ record { name = counted_name (length names - from); number = x.0 } ∷ [] →
    AreCounted first (us ++ numbers_of (take (i + 1) xs)) from new
counted_more first us from xs i x names new l at a e =
    let b = next_counted first (us ++ numbers_of (take i xs)) from x.0 names new a e in (
      b.0,
      b.1 ∙ ap (λ ws. first ++ counted 0 ws) (
          append_assoc us (numbers_of (take i xs)) (x.0 ∷ [])
          ∙ ap (λ ws. us ++ ws) (sym (map-append (λ (y : VarId). y.0) (take i xs) (x ∷ [])) ∙ ap numbers_of (sym (take_more xs i x l ∙ ap (λ y. take i xs ++ y ∷ []) (sym at))))),
    )

-- those that pass a test
module _ (p : ℕ → Bool) (us : List ℕ) (xs : List VarId) (i : ℕ) (x : VarId) (l : i < length xs) (at : x ≡ get_or xs i x) where
  filtered : us ++ filter p (numbers_of (take (i + 1) xs)) ≡ (us ++ filter p (numbers_of (take i xs))) ++ cond (p x.0) (x.0 ∷ []) []
  filtered =
      ap (λ ys. us ++ filter p (numbers_of ys)) (take_more xs i x l ∙ ap (λ y. take i xs ++ y ∷ []) (sym at))
      ∙ ap (λ ws. us ++ filter p ws) (map-append (λ (y : VarId). y.0) (take i xs) (x ∷ []))
      ∙ ap (λ ws. us ++ ws) (filter-append p (numbers_of (take i xs)) (x.0 ∷ []))
      ∙ sym (append_assoc us (filter p (numbers_of (take i xs))) (cond (p x.0) (x.0 ∷ []) []))

  pub passed_more : (first : List VariableName) (from : ℕ) (names new : List VariableName) → true ≡ p x.0 → AreCounted first (us ++ filter p (numbers_of (take i xs))) from names →
      new ≡ names ++ record { name = counted_name (length names - from); number = x.0 } ∷ [] → AreCounted first (us ++ filter p (numbers_of (take (i + 1) xs))) from new
  passed_more first from names new passes a e =
      let b = next_counted first (us ++ filter p (numbers_of (take i xs))) from x.0 names new a e in
      (b.0, b.1 ∙ ap (λ ws. first ++ counted 0 ws) (sym (filtered ∙ ap (λ c. (us ++ filter p (numbers_of (take i xs))) ++ cond c (x.0 ∷ []) []) (sym passes))))

  pub passed_by : (first : List VariableName) (from : ℕ) (names : List VariableName) → false ≡ p x.0 → AreCounted first (us ++ filter p (numbers_of (take i xs))) from names →
      AreCounted first (us ++ filter p (numbers_of (take (i + 1) xs))) from names
  passed_by first from names fails a =
      (a.0, a.1 ∙ ap (λ ws. first ++ counted 0 ws) (sym (filtered ∙ ap (λ c. (us ++ filter p (numbers_of (take i xs))) ++ cond c (x.0 ∷ []) []) (sym fails) ∙ append-nil (us ++ filter p (numbers_of (take i xs))))))

pub one_longer : (from : ℕ) (names new : List VariableName) (n : VariableName) → from ≤ length names → new ≡ names ++ n ∷ [] → from ≤ length new
one_longer from names new n l e = omega (arith, l, ap (λ (ns : List VariableName). length ns) e, length-append names (n ∷ []))
