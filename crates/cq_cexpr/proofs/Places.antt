-- Slots of variables: their order, their places, and what a variable has in them.
use Rattle.std.proofs.Common.{◌≡◌, ◌≢◌, ℕ, zero, suc, ◌+◌, ◌<◌, ◌≤◌, List, [], ◌∷◌, ◌++◌, length, take, drop, get_or, Bool, true, false, cond, not, pos, arith, refl, ap, ap₂, sym, subst, ◌∙◌}
use Rattle.std.specs.Prelude.{slice_set}
use Rattle.std.specs.List.Sorted.{IsNonDecreasingBy}
use Rattle.spec_numbers.specs.Rational.{ℚ, 0ℚ, ◌+ℚ◌, ◌*ℚ◌}
use Rattle.spec_numbers.specs.Sums as sums
use Rattle.spec_numbers.specs.Sums.{Monomial, unit}
use Rattle.spec_numbers.proofs.Ring.{var, int, ◌⊕◌, ◌⊗◌, minus}
use Rattle.spec_numbers.proofs.RationalLemmas.{ring}
use Rattle.spec_numbers.proofs.Sums.{unit-self, unit-other}
use Rattle.spec_linear.specs.Form.{IsSumFrom, is_zero, without_zeros}
use Rattle.spec_linear.proofs.Values.{is_zero-true, is_zero-of, is_zero-false}
use Rattle.spec_numbers.proofs.Places.{take-next}
use Rattle.cq_frac.specs.declared.row.Entry.{Entry}
use Rattle.cq_frac.specs.declared.row.Joining.{Joining}
use Rattle.cq_frac.specs.declared.row.Joining.TheVariants.{Plus, Less}
use Rattle.cq_frac.specs.Rows.{sum_at, joined}
use Rattle.cq_form.specs.Entries.{product_of, products_of}
use Rattle.cq_cexpr.specs.Slots.{IsRisingFrom}

-- ---- order

at_least : (lo : ℕ) (s : List Entry) (j : ℕ) (d : Entry) → IsRisingFrom lo s → j < length s → lo ≤ (get_or s j d).quantity
at_least lo [] j d r l = absurd (omega arith)
at_least lo (m ∷ s) zero d r l = r.0
at_least lo (m ∷ s) (suc j) d r l = let g = at_least (suc m.quantity) s j d r.1 (omega arith) in omega (arith, r.0, g)

rising_at : (lo : ℕ) (s : List Entry) (i j : ℕ) (d : Entry) → IsRisingFrom lo s → i ≤ j → j < length s → (get_or s i d).quantity ≤ (get_or s j d).quantity
rising_at lo [] i j d r k l = absurd (omega arith)
rising_at lo (m ∷ s) zero zero d r k l = omega arith
rising_at lo (m ∷ s) zero (suc j) d r k l = let g = at_least (suc m.quantity) s j d r.1 (omega arith) in omega (arith, g)
rising_at lo (m ∷ s) (suc i) zero d r k l = absurd (omega arith)
rising_at lo (m ∷ s) (suc i) (suc j) d r k l = rising_at (suc m.quantity) s i j d r.1 (omega arith) (omega arith)

pub rising : (lo : ℕ) (s : List Entry) → IsRisingFrom lo s → IsNonDecreasingBy (λ (m : Entry). m.quantity) s
rising lo s r = λ i j d k l. rising_at lo s i j d r k l

pub rising_insert : (lo : ℕ) (s : List Entry) (i : ℕ) (n : Entry) → lo ≤ n.quantity → IsRisingFrom lo s → i ≤ length s
    → ((k : ℕ) (d : Entry) → k < i → (get_or s k d).quantity < n.quantity) → (i < length s → n.quantity < (get_or s i n).quantity)
    → IsRisingFrom lo (take i s ++ n ∷ drop i s)
rising_insert lo [] zero n l r b f a = (l, tt)
rising_insert lo [] (suc i) n l r b f a = absurd (omega (arith, b))
rising_insert lo (m ∷ s) zero n l r b f a = let k : n.quantity < m.quantity = a (omega arith) in (l, (omega (arith, k), r.1))
rising_insert lo (m ∷ s) (suc i) n l r b f a =
    let k : m.quantity < n.quantity = f 0 m (omega arith) in
    (r.0, rising_insert (suc m.quantity) s i n (omega (arith, k)) r.1 (omega (arith, b)) (λ j d h. f (suc j) d (omega (arith, h))) (λ h. a (omega (arith, h))))

pub rising_set : (lo : ℕ) (s : List Entry) (i : ℕ) (z : Entry) → IsRisingFrom lo s → i < length s → (get_or s i z).quantity ≡ z.quantity → IsRisingFrom lo (slice_set s i z)
rising_set lo [] i z r l e = absurd (omega arith)
rising_set lo (m ∷ s) zero z r l e = (omega (arith, r.0, e), subst (λ c. IsRisingFrom (suc c) s) e r.1)
rising_set lo (m ∷ s) (suc i) z r l e = (r.0, rising_set (suc m.quantity) s i z r.1 (omega arith) e)

pub rising_of : (lo : ℕ) (s : List Entry) → IsSumFrom lo (products_of s) → IsRisingFrom lo s
rising_of lo [] o = tt
rising_of lo (m ∷ s) o = (o.0, rising_of (suc m.quantity) s o.2)

-- ---- what a variable has

none_below : (c lo : ℕ) (s : List Entry) → c < lo → IsRisingFrom lo s → sum_at (unit c) s ≡ 0ℚ
none_below c lo [] l r = refl
none_below c lo (m ∷ s) l r =
    ap₂ (λ p q. m.factor *ℚ p +ℚ q) (unit-other c m.quantity (λ e. omega (arith, l, r.0, e))) (none_below c (suc m.quantity) s (omega (arith, l, r.0)) r.1)
    ∙ ring (m.factor ∷ []) (var 0 ⊗ int (pos 0) ⊕ int (pos 0)) (int (pos 0)) refl

-- an entry further on is of another variable
apart : (x : Entry) (s : List Entry) (i : ℕ) (m : Entry) → IsRisingFrom (suc x.quantity) s → i < length s → m ≡ get_or s i m → m.quantity ≡ x.quantity → ⊥
apart x s i m r l e h =
    let k = at_least (suc x.quantity) s i m r l in
    let f : m.quantity ≡ (get_or s i m).quantity = ap (λ (t : Entry). t.quantity) e in
    omega (arith, k, f, h)

pub slot_factor : (lo : ℕ) (s : List Entry) (i : ℕ) (m : Entry) → IsRisingFrom lo s → i < length s → m ≡ get_or s i m → sum_at (unit m.quantity) s ≡ m.factor
slot_factor lo [] i m r l e = absurd (omega arith)
slot_factor lo (x ∷ s) zero m r l e =
    subst (λ (t : Entry). sum_at (unit t.quantity) (x ∷ s) ≡ t.factor) (sym e)
    (ap₂ (λ p q. x.factor *ℚ p +ℚ q) (unit-self x.quantity) (none_below x.quantity (suc x.quantity) s (omega arith) r.1)
    ∙ ring (x.factor ∷ []) (var 0 ⊗ int (pos 1) ⊕ int (pos 0)) (var 0) refl)
slot_factor lo (x ∷ s) (suc i) m r l e =
    ap₂ (λ p q. x.factor *ℚ p +ℚ q) (unit-other m.quantity x.quantity (apart x s i m r.1 (omega arith) e)) (slot_factor (suc x.quantity) s i m r.1 (omega arith) e)
    ∙ ring (x.factor ∷ m.factor ∷ []) (var 0 ⊗ int (pos 0) ⊕ var 1) (var 1) refl

-- nothing, in what stands before its entry
pub none_before : (lo : ℕ) (s : List Entry) (i : ℕ) (m : Entry) → IsRisingFrom lo s → i < length s → m ≡ get_or s i m → sum_at (unit m.quantity) (take i s) ≡ 0ℚ
none_before lo [] i m r l e = absurd (omega arith)
none_before lo (x ∷ s) zero m r l e = refl
none_before lo (x ∷ s) (suc i) m r l e =
    ap₂ (λ p q. x.factor *ℚ p +ℚ q) (unit-other m.quantity x.quantity (apart x s i m r.1 (omega arith) e)) (none_before (suc x.quantity) s i m r.1 (omega arith) e)
    ∙ ring (x.factor ∷ []) (var 0 ⊗ int (pos 0) ⊕ int (pos 0)) (int (pos 0)) refl

-- ---- sums

pub sum_at-end : (v : ℕ → ℚ) (s : List Entry) (n : Entry) → sum_at v (s ++ n ∷ []) ≡ sum_at v s +ℚ n.factor *ℚ v n.quantity
sum_at-end v [] n = ring ((n.factor *ℚ v n.quantity) ∷ []) (var 0 ⊕ int (pos 0)) (int (pos 0) ⊕ var 0) refl
sum_at-end v (m ∷ s) n =
    ap (λ w. m.factor *ℚ v m.quantity +ℚ w) (sum_at-end v s n)
    ∙ ring ((m.factor *ℚ v m.quantity) ∷ sum_at v s ∷ (n.factor *ℚ v n.quantity) ∷ []) (var 0 ⊕ (var 1 ⊕ var 2)) ((var 0 ⊕ var 1) ⊕ var 2) refl

pub nothing_added : (q w : ℚ) → q +ℚ 0ℚ *ℚ w ≡ q
nothing_added q w = ring (q ∷ w ∷ []) (var 0 ⊕ int (pos 0) ⊗ var 1) (var 0) refl

pub joined_nothing : (how : Joining) (q : ℚ) → q ≡ joined how q 0ℚ
joined_nothing Plus q = ring (q ∷ []) (var 0) (var 0 ⊕ int (pos 0)) refl
joined_nothing Less q = ring (q ∷ []) (var 0) (var 0 ⊕ minus (int (pos 0))) refl

joined_more : (how : Joining) (q t p : ℚ) → joined how (joined how q t) p ≡ joined how q (t +ℚ p)
joined_more Plus q t p = ring (q ∷ t ∷ p ∷ []) ((var 0 ⊕ var 1) ⊕ var 2) (var 0 ⊕ (var 1 ⊕ var 2)) refl
joined_more Less q t p = ring (q ∷ t ∷ p ∷ []) ((var 0 ⊕ minus (var 1)) ⊕ minus (var 2)) (var 0 ⊕ minus (var 1 ⊕ var 2)) refl

-- one entry more is joined
pub joined_next : (how : Joining) (v : ℕ → ℚ) (s : List Entry) (i : ℕ) (m : Entry) (q r after : ℚ) → i < length s → m ≡ get_or s i m
    → r ≡ joined how q (sum_at v (take i s)) → after ≡ joined how r (m.factor *ℚ v m.quantity) → after ≡ joined how q (sum_at v (take (i + 1) s))
joined_next how v s i m q r after l e h k =
    k ∙ ap (λ w. joined how w (m.factor *ℚ v m.quantity)) h ∙ joined_more how q (sum_at v (take i s)) (m.factor *ℚ v m.quantity)
    ∙ ap (joined how q) (sym (ap (sum_at v) (take-next s i m l e) ∙ sum_at-end v (take i s) m))

-- ---- what is left without zeros

products_of-end : (s : List Entry) (m : Entry) → products_of (s ++ m ∷ []) ≡ products_of s ++ product_of m ∷ []
products_of-end [] m = refl
products_of-end (x ∷ s) m = ap (λ t. product_of x ∷ t) (products_of-end s m)

zeros-end : (s : List Monomial) (m : Monomial) → without_zeros (s ++ m ∷ []) ≡ without_zeros s ++ without_zeros (m ∷ [])
zeros-end [] m = refl
zeros-end (x ∷ s) m = go (is_zero x.factor) (zeros-end s m)
  where
    go : (b : Bool) → without_zeros (s ++ m ∷ []) ≡ without_zeros s ++ without_zeros (m ∷ [])
        → cond (not b) (x ∷ without_zeros (s ++ m ∷ [])) (without_zeros (s ++ m ∷ [])) ≡ cond (not b) (x ∷ without_zeros s) (without_zeros s) ++ without_zeros (m ∷ [])
    go true h = h
    go false h = ap (λ t. x ∷ t) h

not_zero : (q : ℚ) → q ≢ 0ℚ → is_zero q ≡ false
not_zero q n = go (is_zero q) refl
  where
    go : (b : Bool) → is_zero q ≡ b → is_zero q ≡ false
    go true e = absurd (n (is_zero-true q e))
    go false e = e

module _ (s done : List Entry) (i : ℕ) (m : Entry) (l : i < length s) (e : m ≡ get_or s i m) (h : products_of done ≡ without_zeros (products_of (take i s))) where
  next_is : without_zeros (products_of (take (i + 1) s)) ≡ without_zeros (products_of (take i s)) ++ without_zeros (product_of m ∷ [])
  next_is =
      ap (λ t. without_zeros (products_of t)) (take-next s i m l e) ∙ ap without_zeros (products_of-end (take i s) m) ∙ zeros-end (products_of (take i s)) (product_of m)

  pub zero_skipped : m.factor ≡ 0ℚ → products_of done ≡ without_zeros (products_of (take (i + 1) s))
  zero_skipped z =
      let none : without_zeros (product_of m ∷ []) ≡ [] = ap (λ b. cond (not b) (product_of m ∷ []) []) (is_zero-of m.factor z) in
      h ∙ sym (next_is ∙ ap (λ t. without_zeros (products_of (take i s)) ++ t) none ∙ nil (without_zeros (products_of (take i s))))
    where
      nil : (t : List Monomial) → t ++ [] ≡ t
      nil [] = refl
      nil (p ∷ t) = ap (λ u. p ∷ u) (nil t)

  pub entry_kept : (next : List Entry) → m.factor ≢ 0ℚ → next ≡ done ++ m ∷ [] → products_of next ≡ without_zeros (products_of (take (i + 1) s))
  entry_kept next n f =
      let own : without_zeros (product_of m ∷ []) ≡ product_of m ∷ [] = ap (λ b. cond (not b) (product_of m ∷ []) []) (not_zero m.factor n) in
      ap products_of f ∙ products_of-end done m ∙ ap (λ t. t ++ product_of m ∷ []) h ∙ sym (next_is ∙ ap (λ t. without_zeros (products_of (take i s)) ++ t) own)

sum_lower : (lo hi : ℕ) (s : List Monomial) → lo ≤ hi → IsSumFrom hi s → IsSumFrom lo s
sum_lower lo hi [] l o = tt
sum_lower lo hi (m ∷ s) l o = (omega (arith, l, o.0), o.1, o.2)

pub kept_in_order : (lo : ℕ) (s : List Entry) → IsRisingFrom lo s → IsSumFrom lo (without_zeros (products_of s))
kept_in_order lo [] r = tt
kept_in_order lo (m ∷ s) r = go (is_zero m.factor) refl (kept_in_order (suc m.quantity) s r.1)
  where
    go : (b : Bool) → is_zero m.factor ≡ b → IsSumFrom (suc m.quantity) (without_zeros (products_of s))
        → IsSumFrom lo (cond (not b) (product_of m ∷ without_zeros (products_of s)) (without_zeros (products_of s)))
    go true e o = let k = r.0 in sum_lower lo (suc m.quantity) (without_zeros (products_of s)) (omega (arith, k)) o
    go false e o = (r.0, is_zero-false m.factor e, o)

pub sum_of : (v : ℕ → ℚ) (s : List Entry) → sums.sum_at v (products_of s) ≡ sum_at v s
sum_of v [] = refl
sum_of v (m ∷ s) = ap (λ w. m.factor *ℚ v m.quantity +ℚ w) (sum_of v s)
