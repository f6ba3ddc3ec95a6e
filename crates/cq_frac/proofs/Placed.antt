-- One more entry in its place.
use Rattle.std.proofs.Common.{◌≡◌, ℕ, zero, suc, ◌+◌, ◌<◌, ◌≤◌, List, [], ◌∷◌, ◌++◌, length, take, drop, get_or, Bool, true, arith, refl, ap, sym, subst, ◌∙◌, ◌⊎◌, inl, inr}
use Rattle.std.specs.List.Sorted.{IsNonDecreasingBy}
use Rattle.spec_numbers.specs.Rational.{ℚ, 0ℚ, ◌+ℚ◌, ◌*ℚ◌}
use Rattle.spec_numbers.proofs.Ring.{var, ◌⊕◌}
use Rattle.spec_numbers.proofs.RationalLemmas.{ring}
use Rattle.cq_frac.specs.declared.row.Entry.{Entry}
use Rattle.cq_frac.specs.Rows.{sum_at, IsRowFrom, Has, Lacks, BelowAt, AboveFrom, IsGapAt}
use Rattle.cq_frac.proofs.Units.{has_least}

-- a list in order whose entry at the place is above it
pub above_from : (p : ℕ → Bool) (lo c : ℕ) (s : List Entry) (i : ℕ) (m : Entry) → IsRowFrom p lo s → i < length s → m ≡ get_or s i m → c < m.quantity → AboveFrom c s i
above_from p lo c [] i m r l e k = absurd (omega arith)
above_from p lo c (x ∷ s) zero m r l e k = λ y w. go y w
  where
    first : c < x.quantity
    first = let f : m.quantity ≡ x.quantity = ap (λ (t : Entry). t.quantity) e in omega (arith, f, k)

    go : (y : Entry) → Has y (x ∷ s) → c < y.quantity
    go y (inl f) = let g : y.quantity ≡ x.quantity = ap (λ (t : Entry). t.quantity) f in let d = first in omega (arith, g, d)
    go y (inr w) = let g = has_least p (x.quantity + 1) s y r.3 w in let d = first in omega (arith, g, d)
above_from p lo c (x ∷ s) (suc i) m r l e k = above_from p (x.quantity + 1) c s i m r.3 (omega arith) e k

pub above_end : (c : ℕ) (s : List Entry) (i : ℕ) → length s ≤ i → AboveFrom c s i
above_end c [] zero l m h = absurd h
above_end c [] (suc i) l m h = absurd h
above_end c (x ∷ s) zero l m h = absurd (omega arith)
above_end c (x ∷ s) (suc i) l m h = above_end c s i (omega arith) m h

raise : (p : ℕ → Bool) (lo : ℕ) (n : Entry) (s : List Entry) → IsRowFrom p lo s → ((m : Entry) → Has m s → n.quantity < m.quantity) → IsRowFrom p (n.quantity + 1) s
raise p lo n [] r h = tt
raise p lo n (m ∷ s) r h = let l = h m (inl refl) in (omega (arith, l), r.1, r.2, r.3)

pub row_insert : (p : ℕ → Bool) (lo : ℕ) (s : List Entry) (i : ℕ) (n : Entry) → lo ≤ n.quantity → p n.quantity ≡ true → (n.factor ≡ 0ℚ → ⊥) → IsRowFrom p lo s → BelowAt n.quantity s i → AboveFrom n.quantity s i → IsRowFrom p lo (take i s ++ n ∷ drop i s)
row_insert p lo [] zero n l t f r b a = (l, t, f, tt)
row_insert p lo [] (suc i) n l t f r b a = (l, t, f, tt)
row_insert p lo (m ∷ s) zero n l t f r b a = (l, t, f, raise p lo n (m ∷ s) r a)
row_insert p lo (m ∷ s) (suc i) n l t f r b a =
    let k = b m (inl refl) in
    (r.0, r.1, r.2, row_insert p (m.quantity + 1) s i n (omega (arith, k)) t f r.3 (λ y w. b y (inr w)) a)

pub sum_at-insert : (x : ℕ → ℚ) (s : List Entry) (i : ℕ) (n : Entry) → sum_at x (take i s ++ n ∷ drop i s) ≡ sum_at x s +ℚ n.factor *ℚ x n.quantity
sum_at-insert x [] zero n = add_last
  where
    add_last : n.factor *ℚ x n.quantity +ℚ 0ℚ ≡ 0ℚ +ℚ n.factor *ℚ x n.quantity
    add_last = ring (0ℚ ∷ (n.factor *ℚ x n.quantity) ∷ []) (var 1 ⊕ var 0) (var 0 ⊕ var 1) refl
sum_at-insert x [] (suc i) n = add_last
  where
    add_last : n.factor *ℚ x n.quantity +ℚ 0ℚ ≡ 0ℚ +ℚ n.factor *ℚ x n.quantity
    add_last = ring (0ℚ ∷ (n.factor *ℚ x n.quantity) ∷ []) (var 1 ⊕ var 0) (var 0 ⊕ var 1) refl
sum_at-insert x (m ∷ s) zero n = ring (sum_at x (m ∷ s) ∷ (n.factor *ℚ x n.quantity) ∷ []) (var 1 ⊕ var 0) (var 0 ⊕ var 1) refl
sum_at-insert x (m ∷ s) (suc i) n =
    ap (λ w. m.factor *ℚ x m.quantity +ℚ w) (sum_at-insert x s i n)
    ∙ ring ((m.factor *ℚ x m.quantity) ∷ sum_at x s ∷ (n.factor *ℚ x n.quantity) ∷ []) (var 0 ⊕ (var 1 ⊕ var 2)) ((var 0 ⊕ var 1) ⊕ var 2) refl

-- ---- the place of a quantity

at_least : (p : ℕ → Bool) (lo : ℕ) (s : List Entry) (j : ℕ) (d : Entry) → IsRowFrom p lo s → j < length s → lo ≤ (get_or s j d).quantity
at_least p lo [] j d r l = absurd (omega arith)
at_least p lo (m ∷ s) zero d r l = r.0
at_least p lo (m ∷ s) (suc j) d r l = let g = at_least p (m.quantity + 1) s j d r.3 (omega arith) in omega (arith, r.0, g)

-- what stands at a place of a row is not above what stands further on
rising_at : (p : ℕ → Bool) (lo : ℕ) (s : List Entry) (i j : ℕ) (d : Entry) → IsRowFrom p lo s → i ≤ j → j < length s → (get_or s i d).quantity ≤ (get_or s j d).quantity
rising_at p lo [] i j d r k l = absurd (omega arith)
rising_at p lo (m ∷ s) zero zero d r k l = omega arith
rising_at p lo (m ∷ s) zero (suc j) d r k l = let g = at_least p (m.quantity + 1) s j d r.3 (omega arith) in omega (arith, g)
rising_at p lo (m ∷ s) (suc i) zero d r k l = absurd (omega arith)
rising_at p lo (m ∷ s) (suc i) (suc j) d r k l = rising_at p (m.quantity + 1) s i j d r.3 (omega arith) (omega arith)

pub rising : (p : ℕ → Bool) (lo : ℕ) (s : List Entry) → IsRowFrom p lo s → IsNonDecreasingBy (λ (m : Entry). m.quantity) s
rising p lo s r = λ i j d k l. rising_at p lo s i j d r k l

-- what stands before a place, and from it on, by its own place
pub below_at : (c : ℕ) (s : List Entry) (i : ℕ) → i ≤ length s → ((k : ℕ) (d : Entry) → k < i → (get_or s k d).quantity < c) → (m : Entry) → Has m (take i s) → m.quantity < c
below_at c [] i b h m w = absurd (none i w)
  where
    none : (i : ℕ) → Has m (take i []) → ⊥
    none zero w = w
    none (suc i) w = w
below_at c (x ∷ s) zero b h m w = absurd w
below_at c (x ∷ s) (suc i) b h m (inl e) = subst (λ (t : Entry). t.quantity < c) (sym e) (h 0 m (omega arith))
below_at c (x ∷ s) (suc i) b h m (inr w) = below_at c s i (omega arith) (λ k d l. h (suc k) d (omega arith)) m w

not_below_from : (c : ℕ) (s : List Entry) (i : ℕ) → ((k : ℕ) (d : Entry) → i ≤ k → k < length s → c ≤ (get_or s k d).quantity) → (m : Entry) → Has m (drop i s) → c ≤ m.quantity
not_below_from c [] zero h m w = absurd w
not_below_from c [] (suc i) h m w = absurd w
not_below_from c (x ∷ s) zero h m (inl e) = subst (λ (t : Entry). c ≤ t.quantity) (sym e) (h 0 m (omega arith) (omega arith))
not_below_from c (x ∷ s) zero h m (inr w) = not_below_from c s 0 (λ k d l b. h (suc k) d (omega arith) (omega arith)) m (subst (Has m) (drop_zero s) w)
  where
    drop_zero : (s : List Entry) → s ≡ drop 0 s
    drop_zero s = refl
not_below_from c (x ∷ s) (suc i) h m w = not_below_from c s i (λ k d l b. h (suc k) d (omega arith) (omega arith)) m w

has_dropped : (m : Entry) (s : List Entry) (i : ℕ) → Has m (drop i s) → Has m s
has_dropped m [] zero w = w
has_dropped m [] (suc i) w = w
has_dropped m (x ∷ s) zero w = w
has_dropped m (x ∷ s) (suc i) w = inr (has_dropped m s i w)

-- where an entry of a new quantity stands
pub gap_of_lacks : (c : ℕ) (s : List Entry) (i : ℕ) → i ≤ length s → ((k : ℕ) (d : Entry) → k < i → (get_or s k d).quantity < c) → ((k : ℕ) (d : Entry) → i ≤ k → k < length s → c ≤ (get_or s k d).quantity) → Lacks c s → IsGapAt c s i
gap_of_lacks c s i b h k n = record {
  within = b;
  below = below_at c s i b h;
  above = λ m w. let g = not_below_from c s i k m w in let o : m.quantity ≡ c → ⊥ = n m (has_dropped m s i w) in omega (arith, g, o);
}

has_split : (m : Entry) (s : List Entry) (i : ℕ) → Has m s → Has m (take i s) ⊎ Has m (drop i s)
has_split m [] i w = absurd w
has_split m (x ∷ s) zero w = inr w
has_split m (x ∷ s) (suc i) (inl e) = inl (inl e)
has_split m (x ∷ s) (suc i) (inr w) = elim (has_split m s i w) [ inl k ↦ inl (inr k) | inr k ↦ inr k ]

pub gap_lacks : (c : ℕ) (s : List Entry) (i : ℕ) → IsGapAt c s i → Lacks c s
gap_lacks c s i g = λ m w e. elim (has_split m s i w) [
  | inl k ↦ let l = g.below m k in absurd (omega (arith, l, e))
  | inr k ↦ let l = g.above m k in absurd (omega (arith, l, e))
]
