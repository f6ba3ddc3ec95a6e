-- Numbers below a bound, no two of which are the same, are no more than the bound.
use Rattle.std.proofs.Common.{◌≡◌, ℕ, zero, suc, ◌<◌, ◌≤◌, arith, sym, ◌∙◌, ◌⊎◌, inl, inr}
use Rattle.spec_simplex.proofs.Sums.{equal_or_not}

-- no two of the first n are the same
abbrev pub AreApart : (ℕ → ℕ) → ℕ → Type 0
AreApart f n = (i j : ℕ) → i < j → j < n → f i ≡ f j → ⊥

-- the top number makes way for y
module _ (top y x : ℕ) where
  abbrev moved_where : (x ≡ top) ⊎ (x ≡ top → ⊥) → ℕ
  moved_where (inl e) = y
  moved_where (inr e) = x

moved : ℕ → ℕ → ℕ → ℕ
moved top y x = moved_where top y x (equal_or_not x top)

moved_below : (top y x : ℕ) → y < suc top → x < suc top → (x ≡ y → ⊥) → moved top y x < top
unfolding moved
moved_below top y x h l n = go (equal_or_not x top)
  where
    go : (o : (x ≡ top) ⊎ (x ≡ top → ⊥)) → moved_where top y x o < top
    go (inl e) = omega (arith, h, e, n)
    go (inr e) = omega (arith, l, e)

moved_apart : (top y x z : ℕ) → (x ≡ y → ⊥) → (z ≡ y → ⊥) → moved top y x ≡ moved top y z → x ≡ z
unfolding moved
moved_apart top y x z n k = go (equal_or_not x top) (equal_or_not z top)
  where
    go : (o : (x ≡ top) ⊎ (x ≡ top → ⊥)) (p : (z ≡ top) ⊎ (z ≡ top → ⊥)) → moved_where top y x o ≡ moved_where top y z p → x ≡ z
    go (inl g) (inl h) e = g ∙ sym h
    go (inl g) (inr h) e = absurd (k (sym e))
    go (inr g) (inl h) e = absurd (n e)
    go (inr g) (inr h) e = e

pub no_more_than : (m n : ℕ) (f : ℕ → ℕ) → ((k : ℕ) → k < n → f k < m) → AreApart f n → n ≤ m
no_more_than m zero f b a = omega arith
no_more_than zero (suc n) f b a = absurd (omega (arith, b n (omega arith)))
no_more_than (suc m) (suc n) f b a =
    let others : (k : ℕ) → k < n → f k ≡ f n → ⊥ = λ k l. a k n l (omega arith) in
    let r = no_more_than m n (λ k. moved m (f n) (f k))
    (λ k l. moved_below m (f n) (f k) (b n (omega arith)) (b k (omega (arith, l))) (others k l))
    (λ i j l h e. a i j l (omega (arith, h)) (moved_apart m (f n) (f i) (f j) (others i (omega (arith, l, h))) (others j h) e)) in
    omega (arith, r)
