-- Variables in an order.
use Rattle.std.proofs.Common.{◌≡◌, ℕ, List, [], ◌∷◌, ◌++◌, subst, inl, inr}
use Rattle.spec_numbers.specs.Sums.{Monomial, Mentions}
use Rattle.spec_linear.specs.Solution.{Has}
use Rattle.spec_linear.specs.Echelon.{AreDistinct, InOrder, variables}

pub has_behind : (front targets : List ℕ) (x : ℕ) → Has x targets → Has x (front ++ targets)
has_behind [] targets x h = h
has_behind (v ∷ front) targets x h = inr (has_behind front targets x h)

-- one variable more in the order
pub in_order-more : (x : ℕ) (order ys : List ℕ) → InOrder order ys → InOrder (x ∷ order) ys
in_order-more x order [] h = tt
in_order-more x order (y ∷ ys) h = inr h

pub in_order-has : (order xs : List ℕ) → InOrder order xs → (x : ℕ) → Has x xs → Has x order
in_order-has order [] h x k = absurd k
in_order-has [] (y ∷ xs) h x k = absurd h
in_order-has (v ∷ order) (y ∷ xs) (inl h) x (inl e) = let e' : x ≡ y = e in inl (subst (λ z. x ≡ z) h.0 e')
in_order-has (v ∷ order) (y ∷ xs) (inl h) x (inr k) = inr (in_order-has order xs h.1 x k)
in_order-has (v ∷ order) (y ∷ xs) (inr h) x k = inr (in_order-has order (y ∷ xs) h x k)

-- what begins with a target stands in the targets
pub in_order-behind : (front targets : List ℕ) (x : ℕ) (xs : List ℕ) → AreDistinct (front ++ targets) → Has x targets → InOrder (front ++ targets) (x ∷ xs) → InOrder targets (x ∷ xs)
in_order-behind [] targets x xs d h i = i
in_order-behind (v ∷ front) targets x xs d h (inl i) = absurd (d.0 (subst (λ z. Has z (front ++ targets)) i.0 (has_behind front targets x h)))
in_order-behind (v ∷ front) targets x xs d h (inr i) = in_order-behind front targets x xs d.1 h i

pub mentions-has : (x : ℕ) (s : List Monomial) → Mentions x s → Has x (variables s)
mentions-has x [] h = h
mentions-has x (m ∷ s) (inl e) = inl e
mentions-has x (m ∷ s) (inr h) = inr (mentions-has x s h)

-- what stands in an order of distinct variables stands in it once
pub in_order-once : (order : List ℕ) (y : ℕ) (ys : List ℕ) → AreDistinct order → InOrder order (y ∷ ys) → Has y ys → ⊥
in_order-once [] y ys d h k = h
in_order-once (v ∷ order) y ys d (inl h) k = d.0 (subst (λ z. Has z order) h.0 (in_order-has order ys h.1 y k))
in_order-once (v ∷ order) y ys d (inr h) k = in_order-once order y ys d.1 h k

-- what stands behind the first stands in the order by itself
pub in_order-rest : (order : List ℕ) (x : ℕ) (xs : List ℕ) → InOrder order (x ∷ xs) → InOrder order xs
in_order-rest [] x xs h = absurd h
in_order-rest (v ∷ order) x [] h = tt
in_order-rest (v ∷ order) x (y ∷ xs) (inl h) = inr h.1
in_order-rest (v ∷ order) x (y ∷ xs) (inr h) = inr (in_order-rest order x (y ∷ xs) h)

-- of two variables only one stands behind the other
pub in_order-apart : (order : List ℕ) (x y : ℕ) (xs ys : List ℕ) → AreDistinct order → InOrder order (x ∷ xs) → Has y xs → InOrder order (y ∷ ys) → Has x ys → ⊥
in_order-apart [] x y xs ys d i h j k = i
in_order-apart (v ∷ order) x y xs ys d (inl i) h (inl j) k = d.0 (subst (λ z. Has z order) j.0 (in_order-has order xs i.1 y h))
in_order-apart (v ∷ order) x y xs ys d (inl i) h (inr j) k = d.0 (subst (λ z. Has z order) i.0 (in_order-has order (y ∷ ys) j x (inr k)))
in_order-apart (v ∷ order) x y xs ys d (inr i) h (inl j) k = d.0 (subst (λ z. Has z order) j.0 (in_order-has order (x ∷ xs) i y (inr h)))
in_order-apart (v ∷ order) x y xs ys d (inr i) h (inr j) k = in_order-apart order x y xs ys d.1 i h j k
