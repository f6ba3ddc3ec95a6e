-- Elements of lists, by place and by containment.
use Rattle.std.proofs.Common.{◌≡◌, ℕ, zero, suc, ◌<◌, Bool, true, false, cond, List, [], ◌∷◌, length, map, take, get_or, Some, None, refl, ap, subst, inl, inr, ◌⊎◌, arith}
use Rattle.std.specs.Prelude.{slice_get, Contains, All, ◌||◌, Result, Ok, Err, OnErr}
use Rattle.std.specs.List.{list_any, cons_option}
use Rattle.std.proofs.lemmas.Option.{slice_get_within, get_or_from_slice_get}

module _ {X : Type 0} where
  pub contains_here : (x : X) (xs : List X) (y : X) → x ≡ y → Contains (x ∷ xs) y
  contains_here x xs y e = (0, omega arith, e)

  pub contains_later : (x : X) (xs : List X) (y : X) → Contains xs y → Contains (x ∷ xs) y
  contains_later x xs y h = (suc h.0, omega (arith, h.1), h.2)

  pub contains_cases : (x : X) (xs : List X) (y : X) → Contains (x ∷ xs) y → (x ≡ y) ⊎ Contains xs y
  contains_cases x xs y h = by_place h.0 h.1 h.2 where
    by_place : (k : ℕ) → k < length (x ∷ xs) → get_or (x ∷ xs) k y ≡ y → (x ≡ y) ⊎ Contains xs y
    by_place zero lt e = inl e
    by_place (suc k) lt e = inr (k, omega (arith, lt), e)

  pub contains_none : (y : X) → Contains [] y → ⊥
  contains_none y h = omega (arith, h.1)

  -- an element may stand in front
  pub contains_cond : (b : Bool) (x : X) (xs : List X) (y : X) → Contains xs y → Contains (cond b (x ∷ xs) xs) y
  contains_cond true x xs y h = contains_later x xs y h
  contains_cond false x xs y h = h

  pub contains_option : (b : Bool) (x : X) (xs : List X) (y : X) → Contains xs y → Contains (cons_option (cond b (Some x) None) xs) y
  contains_option true x xs y h = contains_later x xs y h
  contains_option false x xs y h = h

  pub get_taken : (n : ℕ) (xs : List X) (k : ℕ) → k < n → slice_get (take n xs) k ≡ slice_get xs k
  get_taken zero xs k l = absurd (omega (arith, l))
  get_taken (suc n) [] k l = refl
  get_taken (suc n) (x ∷ xs) zero l = refl
  get_taken (suc n) (x ∷ xs) (suc k) l = get_taken n xs k (omega (arith, l))

  pub all_at : (P : X → Type 0) (xs : List X) (k : ℕ) (x : X) → All P xs → slice_get xs k ≡ Some x → P x
  all_at P xs k x all at = subst P (get_or_from_slice_get xs k x x at) (all k x (slice_get_within xs k x at))

  pub any_of_map : {Y : Type 0} (p : Y → Bool) (f : X → Y) (xs : List X) → list_any p (map f xs) ≡ list_any (λ x. p (f x)) xs
  any_of_map p f [] = refl
  any_of_map p f (x ∷ xs) = ap (λ b. p (f x) || b) (any_of_map p f xs)

pub on_err : {T E : Type 0} {P : Type 0} (r : Result T E) → P → OnErr r P
on_err (Ok x) p = tt
on_err (Err e) p = p
