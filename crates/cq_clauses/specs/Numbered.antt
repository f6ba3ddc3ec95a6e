-- Places of a list that pass a test.
use Rattle.std.specs.Prelude.{ℕ, ◌+◌, ◌≡◌, ◌≤◌, List, [], ◌∷◌, Bool, cond, slice_get, Some}

-- the places that pass a test in order, where the first place has the number c
abbrev pub numbered : {A : Type 0} → (A → Bool) → ℕ → List A → List ℕ
numbered test c [] = []
numbered test c (x ∷ xs) = cond (test x) (c ∷ numbered test (c + 1) xs) (numbered test (c + 1) xs)

-- no number of the list is less than one before it
pub record IsRising (xs : List ℕ) : Type 0 where
  pub rises : (i j x y : ℕ) → i ≤ j → slice_get xs i ≡ Some x → slice_get xs j ≡ Some y → x ≤ y

-- no number of the list is `from` or more, and less than `to`
pub record NoneWithin (xs : List ℕ) (from to : ℕ) : Type 0 where
  pub beyond : (i x : ℕ) → slice_get xs i ≡ Some x → from ≤ x → to ≤ x
