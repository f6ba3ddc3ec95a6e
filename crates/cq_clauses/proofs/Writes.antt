-- What stands in a list of which one place was written.
use Rattle.std.proofs.Common.{◌≡◌, ℕ, zero, suc, List, [], ◌∷◌, ◌++◌, length, set, Some, refl, sym, ap, ◌∙◌, ◌⊎◌, inl, inr}
use Rattle.std.specs.Prelude.{slice_get}
use Rattle.std.proofs.lemmas.Option.{none-some, same_Some}

module _ {X : Type 0} where
  pub got_here : (xs : List X) (i : ℕ) (x y : X) → slice_get xs i ≡ Some x → slice_get (set xs i y) i ≡ Some y
  got_here [] i x y got = absurd (none-some x got)
  got_here (z ∷ xs) zero x y got = refl
  got_here (z ∷ xs) (suc i) x y got = got_here xs i x y got

  -- what stands there now is the new, or stood there
  pub got_either : (xs : List X) (i : ℕ) (y : X) (j : ℕ) (s : X) → slice_get (set xs i y) j ≡ Some s → ((j ≡ i) × (y ≡ s)) ⊎ (slice_get xs j ≡ Some s)
  got_either [] i y j s got = inr got
  got_either (z ∷ xs) zero y zero s got = inl (refl, same_Some y s got)
  got_either (z ∷ xs) zero y (suc j) s got = inr got
  got_either (z ∷ xs) (suc i) y zero s got = inr got
  got_either (z ∷ xs) (suc i) y (suc j) s got = elim (got_either xs i y j s got) [ inl here ↦ inl (ap suc here.0, here.1) | inr old ↦ inr old ]

  -- what stood there stays, or was the one in whose place the new stands
  pub got_still : (xs : List X) (i : ℕ) (x y : X) (j : ℕ) (s : X) → slice_get xs i ≡ Some x → slice_get xs j ≡ Some s
      → (slice_get (set xs i y) j ≡ Some s) ⊎ ((slice_get (set xs i y) j ≡ Some y) × (x ≡ s))
  got_still [] i x y j s stood got = absurd (none-some x stood)
  got_still (z ∷ xs) zero x y zero s stood got = inr (refl, same_Some x s (sym stood ∙ got))
  got_still (z ∷ xs) zero x y (suc j) s stood got = inl got
  got_still (z ∷ xs) (suc i) x y zero s stood got = inl got
  got_still (z ∷ xs) (suc i) x y (suc j) s stood got = got_still xs i x y j s stood got

  pub got_last : (xs : List X) (y : X) → slice_get (xs ++ y ∷ []) (length xs) ≡ Some y
  got_last [] y = refl
  got_last (z ∷ xs) y = got_last xs y
