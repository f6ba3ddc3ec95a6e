-- Sparse lists of entries in order, and the pairs of numbers that an operation on them meets.
use Rattle.std.specs.Prelude.{◌≡◌, ℕ, ◌+◌, ◌<◌, ◌≤◌, List, [], ◌∷◌, ◌⊎◌, ⊤, Option, Some, None, Bool, true, false, nat_eq, length, slice_index_or, take, drop}
use Rattle.spec_numbers.specs.Rational.{ℚ, 0ℚ, 1ℚ, neg_ℚ, ◌+ℚ◌, ◌-ℚ◌, ◌*ℚ◌, ◌/ℚ◌}
use Rattle.cq_frac.specs.declared.Operation.{Operation}
use Rattle.cq_frac.specs.declared.Operation.TheVariants.{Sum, Difference, Product, Quotient}
use Rattle.cq_frac.specs.declared.Pair.{Pair}
use Rattle.cq_frac.specs.Refused.{Refuses, Accepts, Tells}
use Rattle.cq_frac.specs.declared.row.Entry.{Entry}
use Rattle.cq_frac.specs.declared.row.Joining.{Joining}
use Rattle.cq_frac.specs.declared.row.Joining.TheVariants.{Plus, Less}
use Rattle.cq_frac.specs.declared.row.Next.{Next}
use Rattle.cq_frac.specs.declared.row.Next.TheVariants.{Left, Right, Both}

-- the sum of the entries where x gives the quantities their values
abbrev pub sum_at : (ℕ → ℚ) → List Entry → ℚ
sum_at x [] = 0ℚ
sum_at x (m ∷ s) = m.factor *ℚ x m.quantity +ℚ sum_at x s

-- each quantity passes the test, is at least lo and above the one before it, and no factor is zero
abbrev pub IsRowFrom : (ℕ → Bool) → ℕ → List Entry → Type 0
IsRowFrom p lo [] = Unit {0}
IsRowFrom p lo (m ∷ s) = (lo ≤ m.quantity) × (p m.quantity ≡ true) × (m.factor ≡ 0ℚ → ⊥) × IsRowFrom p (m.quantity + 1) s

abbrev pub everywhere : ℕ → Bool
everywhere c = true

-- m is in the list
abbrev pub Has : Entry → List Entry → Type 0
Has m [] = ⊥
Has m (n ∷ s) = (m ≡ n) ⊎ Has m s

-- no entry is of the quantity c
abbrev pub Lacks : ℕ → List Entry → Type 0
Lacks c s = (m : Entry) → Has m s → m.quantity ≡ c → ⊥

-- p and q by a sum or a difference
abbrev pub joined : Joining → ℚ → ℚ → ℚ
joined Plus p q = p +ℚ q
joined Less p q = p -ℚ q

abbrev pub operation_of : Joining → Operation
operation_of Plus = Sum
operation_of Less = Difference

-- each entry times k
abbrev pub times : ℚ → List Entry → List Entry
times k [] = []
times k (m ∷ s) = record { quantity = m.quantity; factor = k *ℚ m.factor } ∷ times k s

-- each entry by p
abbrev pub over : ℚ → List Entry → List Entry
over p [] = []
over p (m ∷ s) = record { quantity = m.quantity; factor = m.factor /ℚ p } ∷ over p s

-- each entry with the other sign
abbrev pub negated : List Entry → List Entry
negated [] = []
negated (m ∷ s) = record { quantity = m.quantity; factor = neg_ℚ m.factor } ∷ negated s

abbrev pub choose : {A : Type 0} → Bool → A → A → A
choose true a b = a
choose false a b = b

-- the entries but those of the quantity c
abbrev pub others : ℕ → List Entry → List Entry
others c [] = []
others c (m ∷ s) = choose (nat_eq m.quantity c) (others c s) (m ∷ others c s)

-- 1 at a quantity, and 0 at the others
abbrev pub unit : ℕ → ℕ → ℚ
unit c y = choose (nat_eq y c) 1ℚ 0ℚ

-- the test without a quantity
abbrev pub except : ℕ → (ℕ → Bool) → ℕ → Bool
except c p y = choose (nat_eq y c) false (p y)

-- a factor of the list, by p
pub record IsQuotientPair (s : List Entry) (p : ℚ) (pair : Pair) : Type 0 where
  pub entry : Entry
  pub in_row : Has entry s
  pub tells : Tells Quotient entry.factor p pair

-- k times a factor of the list
pub record IsProductPair (k : ℚ) (s : List Entry) (pair : Pair) : Type 0 where
  pub entry : Entry
  pub in_row : Has entry s
  pub tells : Tells Product k entry.factor pair

-- the factors of one quantity in two lists
pub record IsJoinedPair (a : List Entry) (how : Joining) (b : List Entry) (pair : Pair) : Type 0 where
  pub left : Entry
  pub right : Entry
  pub in_left : Has left a
  pub in_right : Has right b
  pub same : left.quantity ≡ right.quantity
  pub tells : Tells (operation_of how) left.factor right.factor pair

-- none of the pairs is refused
abbrev pub NoQuotientPair : List Entry → ℚ → Type 0
NoQuotientPair s p = (m : Entry) → Has m s → Refuses Quotient m.factor p → ⊥

abbrev pub NoProductPair : ℚ → List Entry → Type 0
NoProductPair k s = (m : Entry) → Has m s → Refuses Product k m.factor → ⊥

abbrev pub NoJoinedPair : List Entry → Joining → List Entry → Type 0
NoJoinedPair a how b = (m n : Entry) → Has m a → Has n b → m.quantity ≡ n.quantity → Refuses (operation_of how) m.factor n.factor → ⊥

-- ---- a list with a multiplier, or as it is

-- the multiplier, or 1
abbrev pub multiplier : Option ℚ → ℚ
multiplier None = 1ℚ
multiplier (Some k) = k

-- what a product with the multiplier says, taken or refused; without one there is none
abbrev pub AcceptsScaled : Option ℚ → ℚ → Type 0
AcceptsScaled None q = ⊤
AcceptsScaled (Some k) q = Accepts Product k q

abbrev pub TellsScaled : Option ℚ → ℚ → Pair → Type 0
TellsScaled None q pair = ⊥
TellsScaled (Some k) q pair = Tells Product k q pair

abbrev pub IsScaledPair : Option ℚ → List Entry → Pair → Type 0
IsScaledPair None s pair = ⊥
IsScaledPair (Some k) s pair = IsProductPair k s pair

abbrev pub NoScaledPair : Option ℚ → List Entry → Type 0
NoScaledPair None s = ⊤
NoScaledPair (Some k) s = NoProductPair k s

-- ---- a merge of two lists that has come to the places i and j

-- the list begins above the quantity c, or is empty
abbrev pub StartsAbove : ℕ → List Entry → Type 0
StartsAbove c [] = Unit {0}
StartsAbove c (m ∷ s) = c < m.quantity

-- m is the entry at the place i
abbrev pub IsNextAt : List Entry → ℕ → Entry → Type 0
IsNextAt s i m = drop i s ≡ m ∷ drop (i + 1) s

abbrev pub IsNext : List Entry → ℕ → List Entry → ℕ → Next → Type 0
IsNext a i b j (Left x) = IsNextAt a i x × StartsAbove x.quantity (drop j b)
IsNext a i b j (Right y) = IsNextAt b j y × StartsAbove y.quantity (drop i a)
IsNext a i b j (Both x y) = IsNextAt a i x × IsNextAt b j y × (x.quantity ≡ y.quantity)

-- ---- the place of a quantity

-- all that stands before the place is below the quantity
abbrev pub BelowAt : ℕ → List Entry → ℕ → Type 0
BelowAt c s i = (m : Entry) → Has m (take i s) → m.quantity < c

-- all from the place on is above it
abbrev pub AboveFrom : ℕ → List Entry → ℕ → Type 0
AboveFrom c s i = (m : Entry) → Has m (drop i s) → c < m.quantity

-- the entry at the place is of the quantity
pub record IsFoundAt (c : ℕ) (s : List Entry) (i : ℕ) : Type 0 where
  pub within : i < length s
  pub own : (d : Entry) → (slice_index_or s i d).quantity ≡ c

-- no entry is of the quantity, and the place is where one would stand
pub record IsGapAt (c : ℕ) (s : List Entry) (i : ℕ) : Type 0 where
  pub within : i ≤ length s
  pub below : BelowAt c s i
  pub above : AboveFrom c s i
