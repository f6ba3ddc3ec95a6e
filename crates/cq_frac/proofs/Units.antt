-- Lists that are scaled, divided, negated or cut; and what a list has at one quantity.
use Rattle.std.proofs.Common.{◌≡◌, ℕ, ◌+◌, ◌<◌, ◌≤◌, List, [], ◌∷◌, Bool, true, false, nat_eq, inl, inr, pos, arith, refl, ap, ap₂, sym, subst, ◌∙◌, eqb→eq, T}
use Rattle.spec_numbers.specs.Rational.{ℚ, 0ℚ, 1ℚ, inv_ℚ, neg_ℚ, ◌+ℚ◌, ◌-ℚ◌, ◌*ℚ◌}
use Rattle.spec_numbers.proofs.Ring.{var, int, ◌⊕◌, ◌⊗◌, minus}
use Rattle.spec_numbers.proofs.RationalLemmas.{ring}
use Rattle.spec_numbers.proofs.Sign.{product_zero, inverse_not_zero}
use Rattle.cq_frac.specs.declared.row.Entry.{Entry}
use Rattle.cq_frac.specs.Rows.{sum_at, IsRowFrom, Has, Lacks, times, over, negated, others, unit, except, choose}
use Rattle.spec_numbers.proofs.Tests.{nat_eq-self, nat_eq-apart}

-- ---- rows of multiples

pub row_times : (p : ℕ → Bool) (lo : ℕ) (k : ℚ) (s : List Entry) → (k ≡ 0ℚ → ⊥) → IsRowFrom p lo s → IsRowFrom p lo (times k s)
row_times p lo k [] n r = tt
row_times p lo k (m ∷ s) n r = (r.0, r.1, (λ z. r.2 (product_zero k m.factor n z)), row_times p (m.quantity + 1) k s n r.3)

pub row_over : (p : ℕ → Bool) (lo : ℕ) (k : ℚ) (s : List Entry) → (k ≡ 0ℚ → ⊥) → IsRowFrom p lo s → IsRowFrom p lo (over k s)
row_over p lo k [] n r = tt
row_over p lo k (m ∷ s) n r = (r.0, r.1, (λ z. inverse_not_zero k n (product_zero m.factor (inv_ℚ k) r.2 z)), row_over p (m.quantity + 1) k s n r.3)

pub sum_at-times : (x : ℕ → ℚ) (k : ℚ) (s : List Entry) → sum_at x (times k s) ≡ k *ℚ sum_at x s
sum_at-times x k [] = ring (k ∷ []) (int (pos 0)) (var 0 ⊗ int (pos 0)) refl
sum_at-times x k (m ∷ s) =
    ap (λ w. (k *ℚ m.factor) *ℚ x m.quantity +ℚ w) (sum_at-times x k s)
    ∙ ring (k ∷ m.factor ∷ x m.quantity ∷ sum_at x s ∷ []) ((var 0 ⊗ var 1) ⊗ var 2 ⊕ var 0 ⊗ var 3) (var 0 ⊗ (var 1 ⊗ var 2 ⊕ var 3)) refl

pub sum_at-over : (x : ℕ → ℚ) (k : ℚ) (s : List Entry) → sum_at x (over k s) ≡ inv_ℚ k *ℚ sum_at x s
sum_at-over x k [] = ring (inv_ℚ k ∷ []) (int (pos 0)) (var 0 ⊗ int (pos 0)) refl
sum_at-over x k (m ∷ s) =
    ap (λ w. (m.factor *ℚ inv_ℚ k) *ℚ x m.quantity +ℚ w) (sum_at-over x k s)
    ∙ ring (inv_ℚ k ∷ m.factor ∷ x m.quantity ∷ sum_at x s ∷ []) ((var 1 ⊗ var 0) ⊗ var 2 ⊕ var 0 ⊗ var 3) (var 0 ⊗ (var 1 ⊗ var 2 ⊕ var 3)) refl

pub has_times : (k : ℚ) (s : List Entry) (n : Entry) → Has n (times k s) → (m : Entry) × Has m s × (n ≡ record { quantity = m.quantity; factor = k *ℚ m.factor })
has_times k [] n h = absurd h
has_times k (m ∷ s) n (inl e) = (m, inl refl, e)
has_times k (m ∷ s) n (inr h) = let r = has_times k s n h in (r.0, inr r.1, r.2)

-- ---- tests of columns

pub row_weaker : (p q : ℕ → Bool) (lo : ℕ) (s : List Entry) → ((c : ℕ) → p c ≡ true → q c ≡ true) → IsRowFrom p lo s → IsRowFrom q lo s
row_weaker p q lo [] w r = tt
row_weaker p q lo (m ∷ s) w r = (r.0, w m.quantity r.1, r.2, row_weaker p q (m.quantity + 1) s w r.3)

pub same_number : (x y : ℕ) → nat_eq x y ≡ true → x ≡ y
same_number x y e = eqb→eq x y (subst T (sym e) tt)

pub except_true : (c y : ℕ) (p : ℕ → Bool) → (y ≡ c → ⊥) → p y ≡ true → except c p y ≡ true
except_true c y p n h = ap (λ b. choose b false (p y)) (nat_eq-apart y c n) ∙ h

pub except_below : (c y : ℕ) (p : ℕ → Bool) → except c p y ≡ true → (p y ≡ true) × (y ≡ c → ⊥)
except_below c y p h = go (nat_eq y c) refl h
  where
    go : (b : Bool) → nat_eq y c ≡ b → choose b false (p y) ≡ true → (p y ≡ true) × (y ≡ c → ⊥)
    go true e k = cc
    go false e k = (k, (λ z. let f : nat_eq y c ≡ true = subst (λ t. nat_eq t c ≡ true) (sym z) (nat_eq-self c) in cc))

-- ---- what a row has at a column

pub unit_self : (c : ℕ) → unit c c ≡ 1ℚ
unit_self c = ap (λ b. choose b 1ℚ 0ℚ) (nat_eq-self c)

pub unit_other : (c y : ℕ) → (y ≡ c → ⊥) → unit c y ≡ 0ℚ
unit_other c y n = ap (λ b. choose b 1ℚ 0ℚ) (nat_eq-apart y c n)

pub no_entry : (c : ℕ) (s : List Entry) → Lacks c s → sum_at (unit c) s ≡ 0ℚ
no_entry c [] h = refl
no_entry c (m ∷ s) h =
    ap₂ (λ a b. m.factor *ℚ a +ℚ b) (unit_other c m.quantity (h m (inl refl))) (no_entry c s (λ n k. h n (inr k)))
    ∙ ring (m.factor ∷ []) (var 0 ⊗ int (pos 0) ⊕ int (pos 0)) (int (pos 0)) refl

pub has_least : (p : ℕ → Bool) (lo : ℕ) (s : List Entry) (m : Entry) → IsRowFrom p lo s → Has m s → lo ≤ m.quantity
has_least p lo [] m r h = absurd h
has_least p lo (x ∷ s) m r (inl e) = omega (arith, r.0, ap (λ (y : Entry). y.quantity) e)
has_least p lo (x ∷ s) m r (inr h) = omega (arith, r.0, has_least p (x.quantity + 1) s m r.3 h)

pub unit_above : (p : ℕ → Bool) (lo c : ℕ) (s : List Entry) → IsRowFrom p lo s → c < lo → sum_at (unit c) s ≡ 0ℚ
unit_above p lo c s r l = no_entry c s (λ m h e. let k = has_least p lo s m r h in omega arith)

at_head : (p : ℕ → Bool) (lo : ℕ) (m : Entry) (s : List Entry) → IsRowFrom p lo (m ∷ s) → sum_at (unit m.quantity) (m ∷ s) ≡ m.factor
at_head p lo m s r =
    ap₂ (λ a b. m.factor *ℚ a +ℚ b) (unit_self m.quantity) (unit_above p (m.quantity + 1) m.quantity s r.3 (omega arith))
    ∙ ring (m.factor ∷ []) (var 0 ⊗ int (pos 1) ⊕ int (pos 0)) (var 0) refl

skip_head : (c : ℕ) (m : Entry) (s : List Entry) → (m.quantity ≡ c → ⊥) → sum_at (unit c) (m ∷ s) ≡ sum_at (unit c) s
skip_head c m s n =
    ap (λ a. m.factor *ℚ a +ℚ sum_at (unit c) s) (unit_other c m.quantity n)
    ∙ ring (m.factor ∷ sum_at (unit c) s ∷ []) (var 0 ⊗ int (pos 0) ⊕ var 1) (var 1) refl

pub at_unit : (p : ℕ → Bool) (lo : ℕ) (s : List Entry) (m : Entry) → IsRowFrom p lo s → Has m s → sum_at (unit m.quantity) s ≡ m.factor
at_unit p lo [] m r h = absurd h
at_unit p lo (x ∷ s) m r (inl e) = subst (λ (t : Entry). sum_at (unit t.quantity) (x ∷ s) ≡ t.factor) (sym e) (at_head p lo x s r)
at_unit p lo (x ∷ s) m r (inr h) =
    let l = has_least p (x.quantity + 1) s m r.3 h in
    skip_head m.quantity x s (λ e. omega (arith, l)) ∙ at_unit p (x.quantity + 1) s m r.3 h

-- a row in order whose factors at a column sum to zero has none there
pub vanished : (p : ℕ → Bool) (lo c : ℕ) (s : List Entry) → IsRowFrom p lo s → sum_at (unit c) s ≡ 0ℚ → IsRowFrom (except c p) lo s
vanished p lo c [] r z = tt
vanished p lo c (m ∷ s) r z =
    let not_here : m.quantity ≡ c → ⊥ = λ e. r.2 (sym (at_head p lo m s r) ∙ ap (λ d. sum_at (unit d) (m ∷ s)) e ∙ z) in
    (r.0, except_true c m.quantity p not_here r.1, r.2, vanished p (m.quantity + 1) c s r.3 (sym (skip_head c m s not_here) ∙ z))

-- ---- the negated entries, and the others

pub sum_at-negated : (x : ℕ → ℚ) (s : List Entry) → sum_at x (negated s) ≡ neg_ℚ (sum_at x s)
sum_at-negated x [] = ring [] (int (pos 0)) (minus (int (pos 0))) refl
sum_at-negated x (m ∷ s) =
    ap (λ w. neg_ℚ m.factor *ℚ x m.quantity +ℚ w) (sum_at-negated x s)
    ∙ ring (m.factor ∷ x m.quantity ∷ sum_at x s ∷ []) (minus (var 0) ⊗ var 1 ⊕ minus (var 2)) (minus (var 0 ⊗ var 1 ⊕ var 2)) refl

pub row_negated : (p : ℕ → Bool) (lo : ℕ) (s : List Entry) → IsRowFrom p lo s → IsRowFrom p lo (negated s)
row_negated p lo [] r = tt
row_negated p lo (m ∷ s) r =
    (r.0, r.1, (λ z. r.2 (ring (m.factor ∷ []) (var 0) (minus (minus (var 0))) refl ∙ ap neg_ℚ z ∙ ring [] (minus (int (pos 0))) (int (pos 0)) refl)), row_negated p (m.quantity + 1) s r.3)

pub negated_has : (s : List Entry) (m : Entry) → Has m (negated s) → (n : Entry) × Has n s × (m.quantity ≡ n.quantity)
negated_has [] m h = absurd h
negated_has (x ∷ s) m (inl e) = (x, inl refl, ap (λ (t : Entry). t.quantity) e)
negated_has (x ∷ s) m (inr h) = let r = negated_has s m h in (r.0, inr r.1, r.2)

pub others_has : (c : ℕ) (s : List Entry) (m : Entry) → Has m (others c s) → Has m s
others_has c [] m h = h
others_has c (x ∷ s) m h = go (nat_eq x.quantity c) h (others_has c s m)
  where
    go : (b : Bool) → Has m (choose b (others c s) (x ∷ others c s)) → (Has m (others c s) → Has m s) → Has m (x ∷ s)
    go true k rest = inr (rest k)
    go false (inl e) rest = inl e
    go false (inr k) rest = inr (rest k)

pub sum_at-others : (x : ℕ → ℚ) (c : ℕ) (s : List Entry) → sum_at x (others c s) ≡ sum_at x s -ℚ sum_at (unit c) s *ℚ x c
sum_at-others x c [] = ring (x c ∷ []) (int (pos 0)) (int (pos 0) ⊕ minus (int (pos 0) ⊗ var 0)) refl
sum_at-others x c (m ∷ s) = go (nat_eq m.quantity c) refl (sum_at-others x c s)
  where
    go : (b : Bool) → nat_eq m.quantity c ≡ b → sum_at x (others c s) ≡ sum_at x s -ℚ sum_at (unit c) s *ℚ x c →
        sum_at x (choose b (others c s) (m ∷ others c s)) ≡ (m.factor *ℚ x m.quantity +ℚ sum_at x s) -ℚ (m.factor *ℚ choose b 1ℚ 0ℚ +ℚ sum_at (unit c) s) *ℚ x c
    go true e h =
        h ∙ ring (m.factor ∷ x c ∷ sum_at x s ∷ sum_at (unit c) s ∷ []) (var 2 ⊕ minus (var 3 ⊗ var 1)) ((var 0 ⊗ var 1 ⊕ var 2) ⊕ minus ((var 0 ⊗ int (pos 1) ⊕ var 3) ⊗ var 1)) refl
        ∙ ap (λ d. (m.factor *ℚ x d +ℚ sum_at x s) -ℚ (m.factor *ℚ 1ℚ +ℚ sum_at (unit c) s) *ℚ x c) (sym (same_number m.quantity c e))
    go false e h =
        ap (λ w. m.factor *ℚ x m.quantity +ℚ w) h
        ∙ ring (m.factor ∷ x m.quantity ∷ sum_at x s ∷ sum_at (unit c) s ∷ x c ∷ []) (var 0 ⊗ var 1 ⊕ (var 2 ⊕ minus (var 3 ⊗ var 4))) ((var 0 ⊗ var 1 ⊕ var 2) ⊕ minus ((var 0 ⊗ int (pos 0) ⊕ var 3) ⊗ var 4)) refl

pub row_lower : (p : ℕ → Bool) (lo to : ℕ) (s : List Entry) → to ≤ lo → IsRowFrom p lo s → IsRowFrom p to s
row_lower p lo to [] h r = tt
row_lower p lo to (m ∷ s) h r = (omega (arith, r.0, h), r.1, r.2, r.3)

pub row_others : (p : ℕ → Bool) (lo c : ℕ) (s : List Entry) → IsRowFrom p lo s → IsRowFrom (except c p) lo (others c s)
row_others p lo c [] r = tt
row_others p lo c (m ∷ s) r = go (nat_eq m.quantity c) refl (row_others p (m.quantity + 1) c s r.3)
  where
    go : (b : Bool) → nat_eq m.quantity c ≡ b → IsRowFrom (except c p) (m.quantity + 1) (others c s) → IsRowFrom (except c p) lo (choose b (others c s) (m ∷ others c s))
    go true e k = row_lower (except c p) (m.quantity + 1) lo (others c s) (omega (arith, r.0)) k
    go false e k = (r.0, except_true c m.quantity p (λ z. let f : nat_eq m.quantity c ≡ true = subst (λ t. nat_eq t c ≡ true) (sym z) (nat_eq-self c) in cc) r.1, r.2, k)
