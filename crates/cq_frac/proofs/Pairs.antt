-- The pairs of an operation on rows, from those of its lists.
use Rattle.std.proofs.Common.{◌≡◌, ℕ, List, [], ◌∷◌, ◌⊎◌, inl, inr, refl, ap, sym, subst, ◌∙◌}
use Rattle.spec_numbers.specs.Rational.{ℚ, ◌*ℚ◌}
use Rattle.cq_frac.specs.declared.Operation.{Operation}
use Rattle.cq_frac.specs.declared.Operation.TheVariants.{Product, Quotient}
use Rattle.cq_frac.specs.declared.Pair.{Pair}
use Rattle.cq_frac.specs.Refused.{Refuses, IsRefused, Tells}
use Rattle.cq_frac.specs.declared.row.Entry.{Entry}
use Rattle.cq_frac.specs.declared.row.Joining.{Joining}
use Rattle.cq_frac.specs.declared.row.Joining.TheVariants.{Less}
use Rattle.cq_frac.specs.Row.{Row}
use Rattle.cq_frac.specs.Rows.{Has, operation_of, times, IsProductPair, IsQuotientPair, IsJoinedPair, NoProductPair, NoQuotientPair, NoJoinedPair}
use Rattle.cq_frac.specs.Numbers.{Site, at_constant, at_live, at_dropped, IsNumber, constant_number, live_number, dropped_number, JoinPair, product_pair, joined_pair, QuotientPair, quotient_pair, ShiftPair, of_rows, of_rate}
use Rattle.cq_frac.proofs.Units.{has_times}

-- ---- the numbers at a place
pub live_at : (r : Row) (at : Site) (n : ℚ) (c : ℕ) → IsNumber r at n → at ≡ at_live c → Has (record { quantity = c; factor = n }) r.live
live_at r at n c constant_number e = cc
live_at r at n c (live_number m h) e = let f : m.quantity ≡ c = cc in subst (λ k. Has (record { quantity = k; factor = m.factor }) r.live) f h
live_at r at n c (dropped_number m h) e = cc

pub dropped_at : (r : Row) (at : Site) (n : ℚ) (c : ℕ) → IsNumber r at n → at ≡ at_dropped c → Has (record { quantity = c; factor = n }) r.dropped
dropped_at r at n c constant_number e = cc
dropped_at r at n c (live_number m h) e = cc
dropped_at r at n c (dropped_number m h) e = let f : m.quantity ≡ c = cc in subst (λ k. Has (record { quantity = k; factor = m.factor }) r.dropped) f h

pub constant_at : (r : Row) (at : Site) (n : ℚ) → IsNumber r at n → at ≡ at_constant → n ≡ r.constant
constant_at r at n constant_number e = refl
constant_at r at n (live_number m h) e = cc
constant_at r at n (dropped_number m h) e = cc

-- ---- what a pair that is told of shows
pub shown : (P : Operation → ℚ → ℚ → Type 0) (o : Operation) (a b : ℚ) (pair : Pair) → Tells o a b pair → P o a b → P pair.operation pair.left pair.right × IsRefused pair
shown P o a b pair t h = (subst (λ (p : Pair). P p.operation p.left p.right) (sym t.is_pair) h, subst IsRefused (sym t.is_pair) t.refused)

times_has : (k : ℚ) (s : List Entry) (m : Entry) → Has m s → Has (record { quantity = m.quantity; factor = k *ℚ m.factor }) (times k s)
times_has k [] m h = absurd h
times_has k (n ∷ s) m (inl e) = inl (ap (λ (t : Entry). record { quantity = t.quantity; factor = k *ℚ t.factor }) e)
times_has k (n ∷ s) m (inr h) = inr (times_has k s m h)

-- a pair of the two lists, where each shows a number of its row at one place
list_pair : (a : Row) (how : Joining) (k : ℚ) (b : Row) (place : ℕ → Site) (s t : List Entry) (pair : Pair) →
    ((m : Entry) → Has m s → IsNumber a (place m.quantity) m.factor) → ((m : Entry) → Has m t → IsNumber b (place m.quantity) m.factor) →
    IsProductPair k t pair ⊎ IsJoinedPair s how (times k t) pair → JoinPair a how k b pair.operation pair.left pair.right × IsRefused pair
list_pair a how k b place s t pair left right (inl h) =
    shown (JoinPair a how k b) Product k h.entry.factor pair h.tells (product_pair (place h.entry.quantity) h.entry.factor (right h.entry h.in_row))
list_pair a how k b place s t pair left right (inr h) =
    let r = has_times k t h.right h.in_right in
    let f : h.right.factor ≡ k *ℚ r.0.factor = ap (λ (n : Entry). n.factor) r.2 in
    let g : h.left.quantity ≡ r.0.quantity = h.same ∙ ap (λ (n : Entry). n.quantity) r.2 in
    shown (JoinPair a how k b) (operation_of how) h.left.factor (k *ℚ r.0.factor) pair (subst (λ q. Tells (operation_of how) h.left.factor q pair) f h.tells)
    (joined_pair (place r.0.quantity) h.left.factor r.0.factor (subst (λ c. IsNumber a (place c) h.left.factor) g (left h.left h.in_left)) (right r.0 r.1))

-- nothing refused, of lists that are equal
pub both_accepted : (how : Joining) (k : ℚ) (s t u v : List Entry) → s ≡ u → t ≡ v → NoProductPair k t × NoJoinedPair s how (times k t) → NoProductPair k v × NoJoinedPair u how (times k v)
both_accepted how k s t u v e f h = (subst (NoProductPair k) f h.0, subst (λ x. NoJoinedPair x how (times k v)) e (subst (λ y. NoJoinedPair s how (times k y)) f h.1))

module _ (a : Row) (how : Joining) (k : ℚ) (b : Row) where
  pub live_pair : (s t : List Entry) (pair : Pair) → s ≡ a.live → t ≡ b.live → IsProductPair k t pair ⊎ IsJoinedPair s how (times k t) pair → JoinPair a how k b pair.operation pair.left pair.right × IsRefused pair
  live_pair s t pair es et h = list_pair a how k b at_live s t pair (λ m w. live_number m (subst (Has m) es w)) (λ m w. live_number m (subst (Has m) et w)) h

  pub dropped_pair : (s t : List Entry) (pair : Pair) → s ≡ a.dropped → t ≡ b.dropped → IsProductPair k t pair ⊎ IsJoinedPair s how (times k t) pair → JoinPair a how k b pair.operation pair.left pair.right × IsRefused pair
  dropped_pair s t pair es et h = list_pair a how k b at_dropped s t pair (λ m w. dropped_number m (subst (Has m) es w)) (λ m w. dropped_number m (subst (Has m) et w)) h

  pub constant_product : (n : ℚ) (pair : Pair) → n ≡ b.constant → Tells Product k n pair → JoinPair a how k b pair.operation pair.left pair.right × IsRefused pair
  constant_product n pair e t = shown (JoinPair a how k b) Product k b.constant pair (subst (λ q. Tells Product k q pair) e t) (product_pair at_constant b.constant constant_number)

  pub constant_joined : (m product : ℚ) (pair : Pair) → m ≡ a.constant → product ≡ k *ℚ b.constant → Tells (operation_of how) m product pair → JoinPair a how k b pair.operation pair.left pair.right × IsRefused pair
  constant_joined m product pair e f t =
      shown (JoinPair a how k b) (operation_of how) a.constant (k *ℚ b.constant) pair (subst (λ q. Tells (operation_of how) q (k *ℚ b.constant) pair) e (subst (λ q. Tells (operation_of how) m q pair) f t))
      (joined_pair at_constant a.constant b.constant constant_number constant_number)

  -- what the three parts of the operation did not refuse
  pub record Accepted : Type 0 where
    pub live : NoProductPair k b.live × NoJoinedPair a.live how (times k b.live)
    pub dropped : NoProductPair k b.dropped × NoJoinedPair a.dropped how (times k b.dropped)
    pub product : Refuses Product k b.constant → ⊥
    pub sum : Refuses (operation_of how) a.constant (k *ℚ b.constant) → ⊥

  pub join_accepted : Accepted → (o : Operation) (p q : ℚ) → JoinPair a how k b o p q → Refuses o p q → ⊥
  join_accepted n o p q w r = go w r
    where
      one : (at : Site) (m : ℚ) → IsNumber b at m → Refuses Product k m → ⊥
      one at m constant_number r = n.product r
      one at m (live_number x h) r = n.live.0 x h r
      one at m (dropped_number x h) r = n.dropped.0 x h r

      two : (at : Site) (l m : ℚ) → IsNumber a at l → IsNumber b at m → Refuses (operation_of how) l (k *ℚ m) → ⊥
      two at l m constant_number h r = n.sum (subst (λ z. Refuses (operation_of how) a.constant (k *ℚ z)) (constant_at b at_constant m h refl) r)
      two at l m (live_number x w) h r = n.live.1 x (record { quantity = x.quantity; factor = k *ℚ m }) w (times_has k b.live (record { quantity = x.quantity; factor = m }) (live_at b (at_live x.quantity) m x.quantity h refl)) refl r
      two at l m (dropped_number x w) h r = n.dropped.1 x (record { quantity = x.quantity; factor = k *ℚ m }) w (times_has k b.dropped (record { quantity = x.quantity; factor = m }) (dropped_at b (at_dropped x.quantity) m x.quantity h refl)) refl r

      go : {o : Operation} {p q : ℚ} → JoinPair a how k b o p q → Refuses o p q → ⊥
      go (product_pair at m h) r = one at m h r
      go (joined_pair at l m h i) r = two at l m h i r

module _ (row : Row) (p : ℚ) where
  pub live_quotient : (pair : Pair) (s : List Entry) → s ≡ row.live → IsQuotientPair s p pair → QuotientPair row p pair.operation pair.left pair.right × IsRefused pair
  live_quotient pair s e h = shown (QuotientPair row p) Quotient h.entry.factor p pair h.tells (quotient_pair (at_live h.entry.quantity) h.entry.factor (live_number h.entry (subst (Has h.entry) e h.in_row)))

  pub dropped_quotient : (pair : Pair) (s : List Entry) → s ≡ row.dropped → IsQuotientPair s p pair → QuotientPair row p pair.operation pair.left pair.right × IsRefused pair
  dropped_quotient pair s e h = shown (QuotientPair row p) Quotient h.entry.factor p pair h.tells (quotient_pair (at_dropped h.entry.quantity) h.entry.factor (dropped_number h.entry (subst (Has h.entry) e h.in_row)))

  pub constant_quotient : (pair : Pair) (n : ℚ) → n ≡ row.constant → Tells Quotient n p pair → QuotientPair row p pair.operation pair.left pair.right × IsRefused pair
  constant_quotient pair n e t = shown (QuotientPair row p) Quotient row.constant p pair (subst (λ q. Tells Quotient q p pair) e t) (quotient_pair at_constant row.constant constant_number)

  pub quotient_accepted : NoQuotientPair row.live p → NoQuotientPair row.dropped p → (Refuses Quotient row.constant p → ⊥) → (o : Operation) (a b : ℚ) → QuotientPair row p o a b → Refuses o a b → ⊥
  quotient_accepted nl nd nc o a b w r = go w r
    where
      one : (at : Site) (m : ℚ) → IsNumber row at m → Refuses Quotient m p → ⊥
      one at m constant_number r = nc r
      one at m (live_number x h) r = nl x h r
      one at m (dropped_number x h) r = nd x h r

      go : {o : Operation} {a b : ℚ} → QuotientPair row p o a b → Refuses o a b → ⊥
      go (quotient_pair at m h) r = one at m h r

module _ (other : Row) (e : ℚ) (q : Row) (rate : ℚ) where
  pub rows_pair : (pair : Pair) → JoinPair other Less e q pair.operation pair.left pair.right × IsRefused pair → ShiftPair other e q rate pair.operation pair.left pair.right × IsRefused pair
  rows_pair pair h = (of_rows h.0, h.1)

  pub rate_pair : (pair : Pair) → Tells Product e rate pair → ShiftPair other e q rate pair.operation pair.left pair.right × IsRefused pair
  rate_pair pair t = shown (ShiftPair other e q rate) Product e rate pair t of_rate

  pub shift_accepted : ((o : Operation) (a b : ℚ) → JoinPair other Less e q o a b → Refuses o a b → ⊥) → (Refuses Product e rate → ⊥) → (o : Operation) (a b : ℚ) → ShiftPair other e q rate o a b → Refuses o a b → ⊥
  shift_accepted n m o a b w r = go w r
    where
      go : {o : Operation} {a b : ℚ} → ShiftPair other e q rate o a b → Refuses o a b → ⊥
      go (of_rows j) r = n _ _ _ j r
      go of_rate r = m r
