-- How many of some variables stand in a list. Where one goes and none joins, there are fewer.
use Rattle.std.proofs.Common.{◌≡◌, inl, inr, ℕ, suc, ◌<◌, ◌≤◌, List, [], ◌∷◌, Bool, true, false, nat_eq, ◌||◌, arith, refl, subst}
use Rattle.spec_numbers.specs.Sums.{Monomial, Mentions}
use Rattle.spec_linear.specs.Solution.{Constraint, Has, SomeMentions}
use Rattle.spec_numbers.proofs.Tests.{nat_eq-same, one_is, or_left, or_right}

-- ---- whether a variable stands in a list
abbrev pub mentions : ℕ → List Monomial → Bool
mentions x [] = false
mentions x (m ∷ s) = nat_eq x m.variable || mentions x s

abbrev pub stands : ℕ → List Constraint → Bool
stands x [] = false
stands x (c ∷ l) = mentions x c.form.products || stands x l

mentions-is : (x : ℕ) (s : List Monomial) → mentions x s ≡ true → Mentions x s
mentions-is x [] e = let d : false ≡ true = e in cc
mentions-is x (m ∷ s) e = elim (one_is (nat_eq x m.variable) (mentions x s) e) [ inl h ↦ inl (nat_eq-same x m.variable h) | inr h ↦ inr (mentions-is x s h) ]

is-mentions : (x : ℕ) (s : List Monomial) → Mentions x s → mentions x s ≡ true
is-mentions x [] h = absurd h
is-mentions x (m ∷ s) (inl e) = let t : nat_eq x m.variable ≡ true = grind arith in or_left (nat_eq x m.variable) (mentions x s) t
is-mentions x (m ∷ s) (inr h) = or_right (nat_eq x m.variable) (mentions x s) (is-mentions x s h)

stands-is : (x : ℕ) (l : List Constraint) → stands x l ≡ true → SomeMentions x l
stands-is x [] e = let d : false ≡ true = e in cc
stands-is x (c ∷ l) e = elim (one_is (mentions x c.form.products) (stands x l) e) [ inl h ↦ inl (mentions-is x c.form.products h) | inr h ↦ inr (stands-is x l h) ]

is-stands : (x : ℕ) (l : List Constraint) → SomeMentions x l → stands x l ≡ true
is-stands x [] h = absurd h
is-stands x (c ∷ l) (inl h) = or_left (mentions x c.form.products) (stands x l) (is-mentions x c.form.products h)
is-stands x (c ∷ l) (inr h) = or_right (mentions x c.form.products) (stands x l) (is-stands x l h)

-- ---- how many do
abbrev pub one_more_if : Bool → ℕ → ℕ
one_more_if true n = suc n
one_more_if false n = n

abbrev pub standing : List ℕ → List Constraint → ℕ
standing [] l = 0
standing (x ∷ xs) l = one_more_if (stands x l) (standing xs l)

at_most : (a b : Bool) (m n : ℕ) → (a ≡ true → b ≡ true) → m ≤ n → one_more_if a m ≤ one_more_if b n
at_most true true m n h k = omega (arith, k)
at_most true false m n h k = let d : false ≡ true = h refl in cc
at_most false true m n h k = omega (arith, k)
at_most false false m n h k = k

fewer : (a b : Bool) (m n : ℕ) → (a ≡ true → b ≡ true) → m < n → one_more_if a m < one_more_if b n
fewer true true m n h k = omega (arith, k)
fewer true false m n h k = let d : false ≡ true = h refl in cc
fewer false true m n h k = omega (arith, k)
fewer false false m n h k = k

one_gone : (a b : Bool) (m n : ℕ) → a ≡ false → b ≡ true → m ≤ n → one_more_if a m < one_more_if b n
one_gone true b m n e f k = let d : true ≡ false = e in cc
one_gone false true m n e f k = omega (arith, k)
one_gone false false m n e f k = let d : false ≡ true = f in cc

module _ (l m : List Constraint) (within : (y : ℕ) → SomeMentions y m → SomeMentions y l) where
  also : (y : ℕ) → stands y m ≡ true → stands y l ≡ true
  also y e = is-stands y l (within y (stands-is y m e))

  not_more : (xs : List ℕ) → standing xs m ≤ standing xs l
  not_more [] = omega arith
  not_more (x ∷ xs) = at_most (stands x m) (stands x l) (standing xs m) (standing xs l) (also x) (not_more xs)

  gone : (x : ℕ) → (SomeMentions x m → ⊥) → stands x m ≡ false
  gone x n = by (stands x m) refl
    where
      by : (b : Bool) → stands x m ≡ b → b ≡ false
      by true e = absurd (n (stands-is x m e))
      by false e = refl

  pub fewer_stand : (xs : List ℕ) (x : ℕ) → Has x xs → SomeMentions x l → (SomeMentions x m → ⊥) → standing xs m < standing xs l
  fewer_stand [] x h s n = absurd h
  fewer_stand (y ∷ xs) x (inl e) s n =
      one_gone (stands y m) (stands y l) (standing xs m) (standing xs l) (subst (λ z. stands z m ≡ false) e (gone x n)) (subst (λ z. stands z l ≡ true) e (is-stands x l s)) (not_more xs)
  fewer_stand (y ∷ xs) x (inr h) s n = fewer (stands y m) (stands y l) (standing xs m) (standing xs l) (also y) (fewer_stand xs x h s n)
