-- What marks keep of which the newest are only counted.
use Rattle.std.proofs.Common.{◌≡◌, ℕ, suc, ◌+◌, ◌-◌, ◌<◌, ◌≤◌, List, [], ◌∷◌, ◌++◌, length, take, get_or, replicate, Some, ap, sym, subst, ◌∙◌, arith, length-append, length-take}
use Rattle.std.specs.Prelude.{slice_get}
use Rattle.std.proofs.Math.Seq.{append_snoc, take-append-add}
use Rattle.std.proofs.lemmas.List.{length-replicate, replicate_more, take-replicate, take-append-le, append-nil, append_assoc, get_or-append-add, get_or-replicate}
use Rattle.std.proofs.lemmas.Option.{slice_get_read}
use Rattle.spec_numbers.proofs.Places.{get_kept}
use Rattle.cq_trail.specs.Counting.{counted}

module _ {V : Type 0} where
  -- each mark is the value's own
  pub counted_all : (own : List V) (n : ℕ) (now : V) → n ≤ length own → counted own n now ≡ own
  counted_all own n now h =
      let none : n - length own ≡ 0 = omega (arith, h) in
      ap (λ k. own ++ replicate k now) none ∙ append-nil own

  pub length-counted : (own : List V) (n : ℕ) (now : V) → length own ≤ n → length (counted own n now) ≡ n
  length-counted own n now h =
      let k = n - length own in
      length-append own (replicate k now) ∙ ap (λ j. length own + j) (length-replicate k now) ∙ omega (arith, h)

  -- one more is counted
  pub counted_push : (own : List V) (n : ℕ) (now : V) → length own ≤ n → counted own (n + 1) now ≡ counted own n now ++ now ∷ []
  counted_push own n now h =
      let k = n - length own in
      let more : n + 1 - length own ≡ n - length own + 1 = omega (arith, h) in
      ap (λ j. own ++ replicate j now) more
      ∙ ap (λ l. own ++ l) (sym (replicate_more k now))
      ∙ sym (append_assoc own (replicate k now) (now ∷ []))

  -- the oldest counted mark becomes the value's own
  pub counted_own : (own : List V) (n : ℕ) (now : V) → length own < n → counted (own ++ now ∷ []) n now ≡ counted own n now
  counted_own own n now h =
      let k = n - (length own + 1) in
      let longer = length-append own (now ∷ []) in
      let fewer : n - length (own ++ now ∷ []) ≡ n - (length own + 1) = omega (arith, longer) in
      let more : n - length own ≡ suc (n - (length own + 1)) = omega (arith, h) in
      ap (λ j. (own ++ now ∷ []) ++ replicate j now) fewer
      ∙ append_snoc own now (replicate k now)
      ∙ ap (λ j. own ++ replicate j now) (sym more)

  -- the counted marks from a place on end
  pub counted_take : (own : List V) (n : ℕ) (now : V) (m : ℕ) → length own ≤ m → m ≤ n → counted own m now ≡ take m (counted own n now)
  counted_take own n now m low high =
      let k = n - length own in
      let at : m ≡ length own + (m - length own) = omega (arith, low) in
      let within : m - length own ≤ n - length own = omega (arith, high) in
      ap (λ l. own ++ l) (sym (take-replicate (m - length own) k now within))
      ∙ sym (take-append-add own (replicate k now) (m - length own))
      ∙ ap (λ j. take j (counted own n now)) (sym at)

  -- the value's own marks from a place on end, and the counted ones
  pub own_take : (own : List V) (n : ℕ) (now : V) (m : ℕ) (v : V) → m < length own → counted (take m own) m v ≡ take m (counted own n now)
  own_take own n now m v low =
      let all : m ≤ length (take m own) = omega (arith, low, length-take m own) in
      let within : m ≤ length own = omega (arith, low) in
      counted_all (take m own) m v all ∙ sym (take-append-le m own (replicate (n - length own) now) within)

  -- what a counted mark keeps
  pub counted_at : (own : List V) (n : ℕ) (now : V) (m : ℕ) → length own ≤ m → m < n → slice_get (counted own n now) m ≡ Some now
  counted_at own n now m low high =
      let k = n - length own in
      let at : m ≡ length own + (m - length own) = omega (arith, low) in
      let some : length own ≤ n = omega (arith, low, high) in
      let within : m - length own < n - length own = omega (arith, low, high) in
      slice_get_read (counted own n now) n m now (sym (length-counted own n now some)) high
      (sym (ap (λ j. get_or (counted own n now) j now) at ∙ get_or-append-add own (replicate k now) (m - length own) now ∙ get_or-replicate k (m - length own) now now within))

  -- what the value's own mark keeps
  pub own_at : (own : List V) (n : ℕ) (now : V) (m : ℕ) (v : V) → slice_get own m ≡ Some v → slice_get (counted own n now) m ≡ Some v
  own_at own n now m v e = get_kept own (replicate (n - length own) now) m v e

  -- a change under the same marks, each of which is the value's own
  pub counted_changed : (own : List V) (n : ℕ) → n ≤ length own → (new : List V) → new ≡ own → (now : V) → counted new n now ≡ own
  counted_changed own n all new e now = counted_all new n now (subst (λ l. n ≤ length l) (sym e) all) ∙ e
