-- A row with at most one entry joined to it, and what a merge without a multiplier says.
use Rattle.std.proofs.Common.{◌≡◌, ℕ, zero, suc, ◌+◌, ◌<◌, List, [], ◌∷◌, ◌++◌, length, take, drop, get_or, Bool, Result, Ok, Err, inl, inr, Option, Some, None, pos, arith, refl, ap, ap₂, sym, subst, ◌∙◌}
use Rattle.std.specs.Prelude.{slice_set, IfOk, OnOk}
use Rattle.spec_numbers.specs.Rational.{ℚ, 0ℚ, 1ℚ, ◌+ℚ◌, ◌-ℚ◌, ◌*ℚ◌}
use Rattle.spec_numbers.proofs.Ring.{var, int, ◌⊕◌, ◌⊗◌, minus}
use Rattle.spec_numbers.proofs.RationalLemmas.{ring}
use Rattle.cq_frac.specs.Refused.{Refuses}
use Rattle.cq_frac.specs.declared.Operation.TheVariants.{Product}
use Rattle.cq_frac.specs.declared.Pair.{Pair}
use Rattle.cq_frac.proofs.Refusals.{never_both}
use Rattle.cq_frac.specs.declared.row.Entry.{Entry}
use Rattle.cq_frac.specs.declared.row.Joining.{Joining}
use Rattle.cq_frac.specs.declared.row.Joining.TheVariants.{Plus, Less}
use Rattle.cq_frac.specs.Rows.{sum_at, IsRowFrom, everywhere, Has, Lacks, joined, operation_of, times, unit, multiplier, AcceptsScaled, TellsScaled, IsScaledPair, NoScaledPair, IsJoinedPair, NoJoinedPair}
use Rattle.cq_frac.proofs.Units.{at_unit, row_lower, sum_at-times}

-- ---- what follows from a fact of an `Ok`

pub if_ok : {T E : Type 0} {P Q : T → Type 0} (r : Result T E) → ((x : T) → P x → Q x) → IfOk r P → IfOk r Q
if_ok (Ok x) f h = f x h
if_ok (Err e) f h = h

pub if_both : {T E : Type 0} {P Q R : T → Type 0} (r : Result T E) → ((x : T) → P x → Q x → R x) → IfOk r P → IfOk r Q → IfOk r R
if_both (Ok x) f h k = f x h k
if_both (Err e) f h k = h

pub on_ok : {T E : Type 0} {P Q : Type 0} (r : Result T E) → (P → Q) → OnOk r P → OnOk r Q
on_ok (Ok x) f h = f h
on_ok (Err e) f h = h

-- ---- once a list is that list

pub times_one : (s : List Entry) → times 1ℚ s ≡ s
times_one [] = refl
times_one (m ∷ s) = ap₂ (λ q t. record { quantity = m.quantity; factor = q } ∷ t) (ring (m.factor ∷ []) (int (pos 1) ⊗ var 0) (var 0) refl) (times_one s)

pub joined_one : (how : Joining) (p q : ℚ) → joined how p (1ℚ *ℚ q) ≡ joined how p q
joined_one how p q = ap (joined how p) (ring (q ∷ []) (int (pos 1) ⊗ var 0) (var 0) refl)

-- ---- a list with one entry taken out, or another in its place

pub row_removed : (p : ℕ → Bool) (lo : ℕ) (s : List Entry) (i : ℕ) → IsRowFrom p lo s → IsRowFrom p lo (take i s ++ drop (suc i) s)
row_removed p lo [] zero r = tt
row_removed p lo [] (suc i) r = tt
row_removed p lo (m ∷ s) zero r = row_lower p (m.quantity + 1) lo s (omega (arith, r.0)) r.3
row_removed p lo (m ∷ s) (suc i) r = (r.0, r.1, r.2, row_removed p (m.quantity + 1) s i r.3)

pub row_set : (p : ℕ → Bool) (lo : ℕ) (s : List Entry) (i : ℕ) (z : Entry) → IsRowFrom p lo s → i < length s → (get_or s i z).quantity ≡ z.quantity → (z.factor ≡ 0ℚ → ⊥) → IsRowFrom p lo (slice_set s i z)
row_set p lo [] i z r l e n = absurd (omega arith)
row_set p lo (m ∷ s) zero z r l e n = (omega (arith, r.0, e), ap p (sym e) ∙ r.1, n, subst (λ c. IsRowFrom p (c + 1) s) e r.3)
row_set p lo (m ∷ s) (suc i) z r l e n = (r.0, r.1, r.2, row_set p (m.quantity + 1) s i z r.3 (omega arith) e n)

sum_at-removed : (x : ℕ → ℚ) (s : List Entry) (i : ℕ) (m : Entry) → i < length s → m ≡ get_or s i m → sum_at x (take i s ++ drop (suc i) s) +ℚ m.factor *ℚ x m.quantity ≡ sum_at x s
sum_at-removed x [] i m l e = absurd (omega arith)
sum_at-removed x (n ∷ s) zero m l e =
    ap (λ (t : Entry). sum_at x s +ℚ t.factor *ℚ x t.quantity) e
    ∙ ring (sum_at x s ∷ (n.factor *ℚ x n.quantity) ∷ []) (var 0 ⊕ var 1) (var 1 ⊕ var 0) refl
sum_at-removed x (n ∷ s) (suc i) m l e =
    ring ((n.factor *ℚ x n.quantity) ∷ sum_at x (take i s ++ drop (suc i) s) ∷ (m.factor *ℚ x m.quantity) ∷ []) ((var 0 ⊕ var 1) ⊕ var 2) (var 0 ⊕ (var 1 ⊕ var 2)) refl
    ∙ ap (λ w. n.factor *ℚ x n.quantity +ℚ w) (sum_at-removed x s i m (omega arith) e)

sum_at-set : (x : ℕ → ℚ) (s : List Entry) (i : ℕ) (m z : Entry) → i < length s → m ≡ get_or s i m → sum_at x (slice_set s i z) +ℚ m.factor *ℚ x m.quantity ≡ sum_at x s +ℚ z.factor *ℚ x z.quantity
sum_at-set x [] i m z l e = absurd (omega arith)
sum_at-set x (n ∷ s) zero m z l e =
    ap (λ (t : Entry). (z.factor *ℚ x z.quantity +ℚ sum_at x s) +ℚ t.factor *ℚ x t.quantity) e
    ∙ ring (sum_at x s ∷ (n.factor *ℚ x n.quantity) ∷ (z.factor *ℚ x z.quantity) ∷ []) ((var 2 ⊕ var 0) ⊕ var 1) ((var 1 ⊕ var 0) ⊕ var 2) refl
sum_at-set x (n ∷ s) (suc i) m z l e =
    ring ((n.factor *ℚ x n.quantity) ∷ sum_at x (slice_set s i z) ∷ (m.factor *ℚ x m.quantity) ∷ []) ((var 0 ⊕ var 1) ⊕ var 2) (var 0 ⊕ (var 1 ⊕ var 2)) refl
    ∙ ap (λ w. n.factor *ℚ x n.quantity +ℚ w) (sum_at-set x s i m z (omega arith) e)
    ∙ ring ((n.factor *ℚ x n.quantity) ∷ sum_at x s ∷ (z.factor *ℚ x z.quantity) ∷ []) (var 0 ⊕ (var 1 ⊕ var 2)) ((var 0 ⊕ var 1) ⊕ var 2) refl

-- what goes off and what comes instead
moved : (how : Joining) (after before own f z v : ℚ) → after +ℚ own *ℚ v ≡ before +ℚ z *ℚ v → z ≡ joined how own f → after ≡ joined how before (f *ℚ v)
moved how after before own f z v h e =
    ring (after ∷ own ∷ v ∷ []) (var 0) ((var 0 ⊕ var 1 ⊗ var 2) ⊕ minus (var 1 ⊗ var 2)) refl
    ∙ ap (λ w. w -ℚ own *ℚ v) (h ∙ ap (λ w. before +ℚ w *ℚ v) e) ∙ go how
  where
    go : (how : Joining) → (before +ℚ joined how own f *ℚ v) -ℚ own *ℚ v ≡ joined how before (f *ℚ v)
    go Plus = ring (before ∷ own ∷ f ∷ v ∷ []) ((var 0 ⊕ (var 1 ⊕ var 2) ⊗ var 3) ⊕ minus (var 1 ⊗ var 3)) (var 0 ⊕ var 2 ⊗ var 3) refl
    go Less = ring (before ∷ own ∷ f ∷ v ∷ []) ((var 0 ⊕ (var 1 ⊕ minus (var 2)) ⊗ var 3) ⊕ minus (var 1 ⊗ var 3)) (var 0 ⊕ minus (var 2 ⊗ var 3)) refl

module _ (how : Joining) (s : List Entry) (i : ℕ) (own entry : Entry) (z : ℚ) (l : i < length s) (e : own ≡ get_or s i own) (same : own.quantity ≡ entry.quantity) (is : z ≡ joined how own.factor entry.factor) where
  at_own : (x : ℕ → ℚ) (t : List Entry) (q : ℚ) → sum_at x t +ℚ own.factor *ℚ x own.quantity ≡ q → sum_at x t +ℚ own.factor *ℚ x entry.quantity ≡ q
  at_own x t q h = ap (λ c. sum_at x t +ℚ own.factor *ℚ x c) (sym same) ∙ h

  pub removed_value : z ≡ 0ℚ → (x : ℕ → ℚ) → sum_at x (take i s ++ drop (suc i) s) ≡ joined how (sum_at x s) (entry.factor *ℚ x entry.quantity)
  removed_value n x =
      moved how (sum_at x (take i s ++ drop (suc i) s)) (sum_at x s) own.factor entry.factor z (x entry.quantity)
      (at_own x (take i s ++ drop (suc i) s) (sum_at x s) (sum_at-removed x s i own l e) ∙ ring (sum_at x s ∷ x entry.quantity ∷ []) (var 0) (var 0 ⊕ int (pos 0) ⊗ var 1) refl ∙ ap (λ w. sum_at x s +ℚ w *ℚ x entry.quantity) (sym n))
      is

  pub set_value : (x : ℕ → ℚ) → sum_at x (slice_set s i (record { quantity = entry.quantity; factor = z })) ≡ joined how (sum_at x s) (entry.factor *ℚ x entry.quantity)
  set_value x =
      let t = slice_set s i (record { quantity = entry.quantity; factor = z }) in
      moved how (sum_at x t) (sum_at x s) own.factor entry.factor z (x entry.quantity)
      (at_own x t (sum_at x s +ℚ z *ℚ x entry.quantity) (sum_at-set x s i own (record { quantity = entry.quantity; factor = z }) l e)) is

pub alone_value : (how : Joining) (n f z v : ℚ) → z ≡ joined how 0ℚ f → n +ℚ z *ℚ v ≡ joined how n (f *ℚ v)
alone_value how n f z v e = ap (λ w. n +ℚ w *ℚ v) e ∙ go how
  where
    go : (how : Joining) → n +ℚ joined how 0ℚ f *ℚ v ≡ joined how n (f *ℚ v)
    go Plus = ring (n ∷ f ∷ v ∷ []) (var 0 ⊕ (int (pos 0) ⊕ var 1) ⊗ var 2) (var 0 ⊕ var 1 ⊗ var 2) refl
    go Less = ring (n ∷ f ∷ v ∷ []) (var 0 ⊕ (int (pos 0) ⊕ minus (var 1)) ⊗ var 2) (var 0 ⊕ minus (var 1 ⊗ var 2)) refl

-- ---- the pairs

-- one entry of the row is of the quantity
pub one_accepted : (how : Joining) (s : List Entry) (own entry : Entry) → IsRowFrom everywhere 0 s → Has own s → own.quantity ≡ entry.quantity → (Refuses (operation_of how) own.factor entry.factor → ⊥) → NoJoinedPair s how (entry ∷ [])
one_accepted how s own entry r h same n = λ a b k w e x. go a b k w e x
  where
    go : (a b : Entry) → Has a s → Has b (entry ∷ []) → a.quantity ≡ b.quantity → Refuses (operation_of how) a.factor b.factor → ⊥
    go a b k (inl w) e x =
        let q : a.quantity ≡ own.quantity = e ∙ ap (λ (t : Entry). t.quantity) w ∙ sym same in
        let f : a.factor ≡ own.factor = sym (at_unit everywhere 0 s a r k) ∙ ap (λ c. sum_at (unit c) s) q ∙ at_unit everywhere 0 s own r h in
        n (subst (λ y. Refuses (operation_of how) y entry.factor) f (subst (λ (t : Entry). Refuses (operation_of how) a.factor t.factor) w x))
    go a b k (inr w) e x = w

-- none is
pub none_accepted : (how : Joining) (s : List Entry) (entry : Entry) → Lacks entry.quantity s → NoJoinedPair s how (entry ∷ [])
none_accepted how s entry n = λ a b k w e x. go a b k w e
  where
    go : (a b : Entry) → Has a s → Has b (entry ∷ []) → a.quantity ≡ b.quantity → ⊥
    go a b k (inl w) e = n a k (e ∙ ap (λ (t : Entry). t.quantity) w)
    go a b k (inr w) e = w

-- ---- a list without entries, or with one

pub is_empty_list : (s : List Entry) → length s ≡ 0 → s ≡ []
is_empty_list [] e = refl
is_empty_list (m ∷ s) e = absurd (omega arith)

pub is_one : (s : List Entry) (m : Entry) → length s ≡ 1 → m ≡ get_or s 0 m → m ∷ [] ≡ s
is_one [] m l e = absurd (omega arith)
is_one (x ∷ s) m l e = ap₂ (λ (y : Entry) (t : List Entry). y ∷ t) e (sym (is_empty_list s (omega arith)))

-- a list with a multiplier, without entries
module _ (how : Joining) (scale : Option ℚ) (a b : List Entry) (e : b ≡ []) where
  pub nothing_value : (x : ℕ → ℚ) → sum_at x a ≡ joined how (sum_at x a) (multiplier scale *ℚ sum_at x b)
  nothing_value x = go how ∙ ap (λ t. joined how (sum_at x a) (multiplier scale *ℚ sum_at x t)) (sym e)
    where
      go : (how : Joining) → sum_at x a ≡ joined how (sum_at x a) (multiplier scale *ℚ 0ℚ)
      go Plus = ring (sum_at x a ∷ multiplier scale ∷ []) (var 0) (var 0 ⊕ var 1 ⊗ int (pos 0)) refl
      go Less = ring (sum_at x a ∷ multiplier scale ∷ []) (var 0) (var 0 ⊕ minus (var 1 ⊗ int (pos 0))) refl

  pub nothing_accepted : NoScaledPair scale b × NoJoinedPair a how (times (multiplier scale) b)
  nothing_accepted = subst (λ t. NoScaledPair scale t × NoJoinedPair a how (times (multiplier scale) t)) (sym e) (go scale, λ m n h k. absurd k)
    where
      go : (scale : Option ℚ) → NoScaledPair scale []
      go None = tt
      go (Some k) = λ m h. absurd h

-- with the entry m, which the multiplier makes z
module _ (how : Joining) (scale : Option ℚ) (a b : List Entry) (m : Entry) (z : ℚ) (e : m ∷ [] ≡ b) where
  pub one_shown : (pair : Pair) → TellsScaled scale m.factor pair → IsScaledPair scale b pair
  one_shown pair t = subst (λ s. IsScaledPair scale s pair) e (go scale t)
    where
      go : (scale : Option ℚ) → TellsScaled scale m.factor pair → IsScaledPair scale (m ∷ []) pair
      go None t = t
      go (Some k) t = record { entry = m; in_row = inl refl; tells = t }

  module _ (f : z ≡ multiplier scale *ℚ m.factor) where
    one_times : record { quantity = m.quantity; factor = z } ∷ [] ≡ times (multiplier scale) b
    one_times = ap (λ q. record { quantity = m.quantity; factor = q } ∷ []) f ∙ ap (times (multiplier scale)) e

    pub one_value : (x : ℕ → ℚ) → joined how (sum_at x a) (z *ℚ x m.quantity) ≡ joined how (sum_at x a) (multiplier scale *ℚ sum_at x b)
    one_value x =
        ap (joined how (sum_at x a))
        (ring ((z *ℚ x m.quantity) ∷ []) (var 0) (var 0 ⊕ int (pos 0)) refl ∙ ap (sum_at x) one_times ∙ sum_at-times x (multiplier scale) b)

    pub one_pair : (pair : Pair) → IsJoinedPair a how (record { quantity = m.quantity; factor = z } ∷ []) pair → IsJoinedPair a how (times (multiplier scale) b) pair
    one_pair pair h = subst (λ s. IsJoinedPair a how s pair) one_times h

    pub one_taken : AcceptsScaled scale m.factor → NoJoinedPair a how (record { quantity = m.quantity; factor = z } ∷ []) → NoScaledPair scale b × NoJoinedPair a how (times (multiplier scale) b)
    one_taken t n = (subst (NoScaledPair scale) e (go scale t), subst (NoJoinedPair a how) one_times n)
      where
        go : (scale : Option ℚ) → AcceptsScaled scale m.factor → NoScaledPair scale (m ∷ [])
        go None t = tt
        go (Some k) t = λ y h r. elim h [ inl i ↦ never_both Product k m.factor t (subst (λ (u : Entry). Refuses Product k u.factor) i r) | inr i ↦ i ]
