-- Two lists of one length, as pairs.
use Rattle.std.proofs.Common.{◌≡◌, ℕ, zero, suc, List, [], ◌∷◌, ◌++◌, length, Some, refl, ap, take, arith}
use Rattle.std.proofs.lemmas.Option.{none-some, same_Some}
use Rattle.std.specs.Prelude.{slice_get}
use Rattle.std.specs.List.{zip}

module _ {A B : Type 0} where
  pub zip-push : (xs : List A) (ys : List B) (x : A) (y : B) → length xs ≡ length ys → zip (xs ++ x ∷ []) (ys ++ y ∷ []) ≡ zip xs ys ++ (x, y) ∷ []
  zip-push [] [] x y e = refl
  zip-push [] (b ∷ ys) x y e = absurd (omega arith)
  zip-push (a ∷ xs) [] x y e = absurd (omega arith)
  zip-push (a ∷ xs) (b ∷ ys) x y e = ap (λ l. (a, b) ∷ l) (zip-push xs ys x y (omega arith))

  pub zip-take : (n : ℕ) (xs : List A) (ys : List B) → zip (take n xs) (take n ys) ≡ take n (zip xs ys)
  zip-take zero xs ys = refl
  zip-take (suc n) [] ys = refl
  zip-take (suc n) (a ∷ xs) [] = refl
  zip-take (suc n) (a ∷ xs) (b ∷ ys) = ap (λ l. (a, b) ∷ l) (zip-take n xs ys)

  pub zip_at : (xs : List A) (ys : List B) (n : ℕ) (x : A) (y : B) → slice_get xs n ≡ Some x → slice_get ys n ≡ Some y → slice_get (zip xs ys) n ≡ Some (x, y)
  zip_at [] ys n x y p q = absurd (none-some x p)
  zip_at (a ∷ xs) [] n x y p q = absurd (none-some y q)
  zip_at (a ∷ xs) (b ∷ ys) zero x y p q = λ i. Some (same_Some a x p i, same_Some b y q i)
  zip_at (a ∷ xs) (b ∷ ys) (suc n) x y p q = zip_at xs ys n x y p q
