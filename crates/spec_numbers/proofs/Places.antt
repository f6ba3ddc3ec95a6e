-- What stands at the places of lists that are pushed to, cut and mapped.
use Rattle.std.proofs.Common.{◌≡◌, ℕ, zero, suc, ◌+◌, ◌<◌, List, [], ◌∷◌, ◌++◌, length, Option, Some, None, inl, inr, ◌⊎◌, refl, sym, ap, ap₂, ◌∙◌, take, drop, map, get_or, arith}
use Rattle.std.specs.Prelude.{slice_get, is_some, false}
use Rattle.std.proofs.lemmas.List.{take_more}
use Rattle.std.proofs.lemmas.Option.{none-some, same_Some, slice_get_within}

pub get_push : {X : Type 0} (xs : List X) (y : X) (i : ℕ) (c : X) → slice_get (xs ++ y ∷ []) i ≡ Some c → (slice_get xs i ≡ Some c) ⊎ ((i ≡ length xs) × (y ≡ c))
get_push [] y zero c h = inr (refl, same_Some y c h)
get_push [] y (suc i) c h = absurd (none-some c h)
get_push (x ∷ xs) y zero c h = inl h
get_push (x ∷ xs) y (suc i) c h = elim (get_push xs y i c h) [ inl p ↦ inl p | inr q ↦ inr (ap suc q.0, q.1) ]

pub get_kept : {X : Type 0} (xs ys : List X) (i : ℕ) (c : X) → slice_get xs i ≡ Some c → slice_get (xs ++ ys) i ≡ Some c
get_kept [] ys i c h = absurd (none-some c h)
get_kept (x ∷ xs) ys zero c h = h
get_kept (x ∷ xs) ys (suc i) c h = get_kept xs ys i c h

pub get_take : {X : Type 0} (n k : ℕ) (ys : List X) (y : X) → slice_get (take n ys) k ≡ Some y → (slice_get ys k ≡ Some y) × (k < n)
get_take zero k ys y e = absurd (none-some y e)
get_take (suc n) k [] y e = absurd (none-some y e)
get_take (suc n) zero (z ∷ ys) y e = (e, omega arith)
get_take (suc n) (suc k) (z ∷ ys) y e = let r = get_take n k ys y e in (r.0, omega (arith, r.1))

pub get-drop : {X : Type 0} (n : ℕ) (xs : List X) (j : ℕ) → slice_get (drop n xs) j ≡ slice_get xs (n + j)
get-drop zero xs j = ap (slice_get xs) (omega arith)
get-drop (suc n) [] j = refl
get-drop (suc n) (x ∷ xs) j = get-drop n xs j ∙ (let e : suc n + j ≡ suc (n + j) = omega arith in sym (ap (slice_get (x ∷ xs)) e))

-- what was pushed last
pub newest : {X : Type 0} (xs : List X) (x : X) (n : ℕ) → n ≡ length xs → (all : List X) → all ≡ xs ++ x ∷ [] → (y : X) → slice_get all n ≡ Some y → y ≡ x
newest xs x n e all f y g =
    elim (get_push xs x n y (rw (← f) g)) [
      | inl h ↦ absurd (omega (arith, slice_get_within xs n y h, e))
      | inr h ↦ sym h.1
    ]

pub take-next : {X : Type 0} (xs : List X) (i : ℕ) (x : X) → i < length xs → x ≡ get_or xs i x → take (i + 1) xs ≡ take i xs ++ x ∷ []
take-next xs i x l e = take_more xs i x l ∙ ap (λ y. take i xs ++ y ∷ []) (sym e)

pub map_same : {X Y : Type 0} (f g : X → Y) (xs : List X) → ((k : ℕ) (x : X) → slice_get xs k ≡ Some x → f x ≡ g x) → map f xs ≡ map g xs
map_same f g [] h = refl
map_same f g (x ∷ xs) h = ap₂ (λ y ys. y ∷ ys) (h 0 x refl) (map_same f g xs (λ k z e. h (suc k) z e))

pub none_is : {X : Type 0} (o : Option X) → is_some o ≡ false → o ≡ None
none_is None e = refl
none_is (Some x) e = cc

-- nothing stands in an empty list
pub nothing_within : {X : Type 0} (front behind : List X) (x : X) → [] ≡ front ++ x ∷ behind → ⊥
nothing_within [] behind x e = cc
nothing_within (y ∷ front) behind x e = cc
