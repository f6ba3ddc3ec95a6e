-- The open variables, one by one, and those that have got a value.
use Rattle.std.proofs.Common.{◌≡◌, ℕ, ◌+◌, ◌-◌, ◌<◌, zero, suc, List, [], ◌∷◌, ◌++◌, length, take, get_or, Option, None, Some, ◌⊎◌, inl, inr, arith, refl, ap, sym, subst, ◌∙◌}
use Rattle.std.specs.Prelude.{slice_get, slice_index, MatchOption}
use Rattle.std.specs.List.Sorted.{IsStrictlyIncreasing}
use Rattle.spec_numbers.proofs.Places.{take-next}
use Rattle.spec_numbers.specs.Rational.{ℚ}
use Rattle.spec_linear.specs.Solution.{Constraint, Has, Fixed}
use Rattle.spec_linear.specs.Echelon.{AreDistinct}
use Rattle.cq_frac.specs.declared.VarId.{VarId}
use Rattle.cq_dict.specs.declared.table.Role.{Role}
use Rattle.cq_dict.specs.Roles.{Quantities}
use Rattle.cq_tableau.specs.declared.names.Name.{Name}
use Rattle.cq_tableau.specs.declared.names.Name.TheVariants.{Variable}
use Rattle.cq_tableau.specs.Stored.{IsStored}
use Rattle.cq_tableau.specs.Values.{IsNumber}
use Rattle.cq_tableau.specs.Fixing.{AreOnce, HasNumber, IsOpenHere, AreOpenAt, HasValue, HasNoValue, AreFixedNow}
use Rattle.cq_equations.specs.Told.{numbers_of}
use Rattle.cq_tableau.proofs.Drops.{has_end, has_left, has_last}

numbers-end : (s : List VarId) (x : VarId) → numbers_of (s ++ x ∷ []) ≡ numbers_of s ++ x.0 ∷ []
numbers-end [] x = refl
numbers-end (y ∷ s) x = ap (λ t. y.0 ∷ t) (numbers-end s x)

distinct-end : (s : List ℕ) (x : ℕ) → AreDistinct s → (Has x s → ⊥) → AreDistinct (s ++ x ∷ [])
distinct-end [] x d n = ((λ h. h), tt)
distinct-end (y ∷ s) x d n = ((λ h. elim (has_end s x y h) [ inl k ↦ d.0 k | inr e ↦ n (inl (sym e)) ]), distinct-end s x d.1 (λ h. n (inr h)))

-- ---- open variables
module _ (at : ℕ → ℕ) (names : List Name) (roles : List Role) (n : ℕ) (xs : List VarId) (a : AreOpenAt at names roles n xs) where
  last : (z : ℕ) → z < n + 1 → (z < n) ⊎ (z ≡ n)
  last z l = grind arith

  below : (z : ℕ) → z < n → z < n + 1
  below z l = grind arith

  here : n < n + 1
  here = grind arith

  pub not_open : HasNumber names roles (at n) → AreOpenAt at names roles (n + 1) xs
  not_open h = record {
    once = a.once;
    each = λ x k. let r = a.each x k in (r.0, below r.0 r.1, r.2);
    all = λ z x l e. elim (last z l) [
      | inl g ↦ a.all z x g e
      | inr g ↦ inr (subst (λ y. (v : ℚ) × IsNumber roles (at y) v) (sym g) (h x (subst (λ y. slice_get names (at y) ≡ Some (Variable x)) g e)))
    ];
  }

  module _ (once : AreOnce names) (apart : (k : ℕ) → k < n → at k ≡ at n → ⊥) (x : VarId) (o : IsOpenHere names roles (at n) x) where
    new : Has x.0 (numbers_of xs) → ⊥
    new h = let r = a.each x.0 h in apart r.0 r.1 (once (at r.0) (at n) (Variable x) r.2.0 o.0)

    one_of : (y : ℕ) → Has y (numbers_of xs) ⊎ (y ≡ x.0) → (m : ℕ) × (m < n + 1) × IsOpenHere names roles (at m) (record { 0 = y })
    one_of y (inl k) = let r = a.each y k in (r.0, below r.0 r.1, r.2)
    one_of y (inr e) = (n, here, subst (λ z. IsOpenHere names roles (at n) (record { 0 = z })) (sym e) o)

    all_of : (z : ℕ) (y : VarId) → z < n + 1 → slice_get names (at z) ≡ Some (Variable y) → Has y.0 (numbers_of (xs ++ x ∷ [])) ⊎ ((v : ℚ) × IsNumber roles (at z) v)
    all_of z y l e = elim (last z l) [
      | inl g ↦ elim (a.all z y g e) [ inl k ↦ inl (subst (Has y.0) (sym (numbers-end xs x)) (has_left (numbers_of xs) x.0 y.0 k)) | inr k ↦ inr k ]
      | inr g ↦ inl (subst (Has y.0) (sym (numbers-end xs x))
          (subst (λ i. Has i (numbers_of xs ++ x.0 ∷ [])) (same y (sym o.0 ∙ subst (λ i. slice_get names (at i) ≡ Some (Variable y)) g e)) (has_last (numbers_of xs) x.0)))
    ]
      where
        same : (y : VarId) → Some (Variable x) ≡ Some (Variable y) → x.0 ≡ y.0
        same y e = cc

    pub one_open : AreOpenAt at names roles (n + 1) (xs ++ x ∷ [])
    one_open = record {
      once = subst AreDistinct (sym (numbers-end xs x)) (distinct-end (numbers_of xs) x.0 a.once new);
      each = λ y h. one_of y (has_end (numbers_of xs) x.0 y (subst (Has y) (numbers-end xs x) h));
      all = all_of;
    }

-- ascending numbers are apart
pub rises : (rows : List ℕ) → IsStrictlyIncreasing rows → (k d : ℕ) → k + d + 1 < length rows → slice_index rows k < slice_index rows (k + d + 1)
rises rows h k zero l = subst (λ i. slice_index rows k < slice_index rows i) (omega arith) (h k (omega (arith, l)))
rises rows h k (suc d) l =
    let first = rises rows h k d (omega (arith, l)) in
    let next = h (k + d + 1) (omega (arith, l)) in
    let same : k + d + 1 + 1 ≡ k + suc d + 1 = omega arith in
    subst (λ i. slice_index rows k < slice_index rows i) same (omega (arith, first, next))

pub ascending_apart : (rows : List ℕ) → IsStrictlyIncreasing rows → (n : ℕ) → n < length rows → (k : ℕ) → k < n → slice_index rows k ≡ slice_index rows n → ⊥
ascending_apart rows h n l k m e =
    let same : k + (n - (k + 1)) + 1 ≡ n = omega (arith, m) in
    let g = subst (λ i. slice_index rows k < slice_index rows i) same (rises rows h k (n - (k + 1)) (omega (arith, same, l))) in
    omega (arith, g, e)

-- ---- those that have a value
module _ (names : List Name) (q : Quantities) (before xs : List VarId) (a : AreFixedNow names q before xs) (x : VarId) where
  fewer : (s : List ℕ) (y : ℕ) → AreDistinct (s ++ y ∷ []) → AreDistinct s
  fewer [] y d = tt
  fewer (z ∷ s) y d = ((λ h. d.0 (has_left s y z h)), fewer s y d.1)

  apart_last : (s : List ℕ) (y : ℕ) → AreDistinct (s ++ y ∷ []) → Has y s → ⊥
  apart_last [] y d h = absurd h
  apart_last (z ∷ s) y d (inl e) = d.0 (subst (λ i. Has i (s ++ y ∷ [])) e (has_last s y))
  apart_last (z ∷ s) y d (inr h) = apart_last s y d.1 h

  was : AreDistinct (numbers_of (before ++ x ∷ [])) → AreDistinct (numbers_of before ++ x.0 ∷ [])
  was d = subst AreDistinct (numbers-end before x) d

  pub left_open : HasNoValue names q x.0 → AreFixedNow names q (before ++ x ∷ []) xs
  left_open n = record {
    once = λ d. a.once (fewer (numbers_of before) x.0 (was d));
    each = λ y h. let r = a.each y h in (subst (Has y) (sym (numbers-end before x)) (has_left (numbers_of before) x.0 y r.0), r.1);
    all = λ y h. elim (has_end (numbers_of before) x.0 y (subst (Has y) (numbers-end before x) h)) [
      | inl k ↦ a.all y k
      | inr e ↦ inr (subst (HasNoValue names q) (sym e) n)
    ];
  }

  pub gets_value : HasValue names q x.0 → AreFixedNow names q (before ++ x ∷ []) (xs ++ x ∷ [])
  gets_value n = record {
    once = λ d. subst AreDistinct (sym (numbers-end xs x))
        (distinct-end (numbers_of xs) x.0 (a.once (fewer (numbers_of before) x.0 (was d))) (λ h. apart_last (numbers_of before) x.0 (was d) (a.each x.0 h).0));
    each = λ y h. elim (has_end (numbers_of xs) x.0 y (subst (Has y) (numbers-end xs x) h)) [
      | inl k ↦ (let r = a.each y k in (subst (Has y) (sym (numbers-end before x)) (has_left (numbers_of before) x.0 y r.0), r.1))
      | inr e ↦ (subst (Has y) (sym (numbers-end before x)) (subst (λ i. Has i (numbers_of before ++ x.0 ∷ [])) (sym e) (has_last (numbers_of before) x.0)), subst (HasValue names q) (sym e) n)
    ];
    all = λ y h. elim (has_end (numbers_of before) x.0 y (subst (Has y) (numbers-end before x) h)) [
      | inl k ↦ elim (a.all y k) [ inl g ↦ inl (subst (Has y) (sym (numbers-end xs x)) (has_left (numbers_of xs) x.0 y g)) | inr g ↦ inr g ]
      | inr e ↦ inl (subst (Has y) (sym (numbers-end xs x)) (subst (λ i. Has i (numbers_of xs ++ x.0 ∷ [])) (sym e) (has_last (numbers_of xs) x.0)))
    ];
  }

-- along the variables
module _ (names : List Name) (q : Quantities) (items xs : List VarId) (i : ℕ) (x : VarId) (l : i < length items) (e : x ≡ get_or items i x)
    (a : AreFixedNow names q (take i items) xs) where
  pub open_next : HasNoValue names q x.0 → AreFixedNow names q (take (i + 1) items) xs
  open_next n = subst (λ s. AreFixedNow names q s xs) (sym (take-next items i x l e)) (left_open names q (take i items) xs a x n)

  pub value_next : HasValue names q x.0 → AreFixedNow names q (take (i + 1) items) (xs ++ x ∷ [])
  value_next n = subst (λ s. AreFixedNow names q s (xs ++ x ∷ [])) (sym (take-next items i x l e)) (gets_value names q (take i items) xs a x n)

-- a look-up tells whether the variable has a value
pub no_value : (names : List Name) (q : Quantities) (x : ℕ) (o : Option ℚ)
    → ((told : List Constraint) → IsStored told names q → MatchOption o ((v : ℚ) → Fixed told x v → ⊥) (λ v. Fixed told x v)) → o ≡ None → HasNoValue names q x
no_value names q x o h e told s = subst (λ p. MatchOption p ((v : ℚ) → Fixed told x v → ⊥) (λ v. Fixed told x v)) e (h told s)

pub some_value : (names : List Name) (q : Quantities) (x : ℕ) (o : Option ℚ)
    → ((told : List Constraint) → IsStored told names q → MatchOption o ((v : ℚ) → Fixed told x v → ⊥) (λ v. Fixed told x v)) → (v : ℚ) → o ≡ Some v → HasValue names q x
some_value names q x o h v e told s = (v, subst (λ p. MatchOption p ((w : ℚ) → Fixed told x w → ⊥) (λ w. Fixed told x w)) e (h told s))

-- a place that is there does not ask for the default
item_same : (items : List VarId) (i : ℕ) (d e : VarId) → i < length items → get_or items i d ≡ get_or items i e
item_same [] i d e l = absurd (omega (arith, l))
item_same (y ∷ items) zero d e l = refl
item_same (y ∷ items) (suc i) d e l = item_same items i d e (omega (arith, l))

module _ (names : List Name) (q : Quantities) (items xs : List VarId) (i : ℕ) (l : i < length items) (a : AreFixedNow names q (take i items) xs) (d : VarId) where
  pub open_at : HasNoValue names q (get_or items i d).0 → AreFixedNow names q (take (i + 1) items) xs
  open_at n = open_next names q items xs i (get_or items i d) l (item_same items i d (get_or items i d) l) a n

  pub value_at : HasValue names q (get_or items i d).0 → AreFixedNow names q (take (i + 1) items) (xs ++ get_or items i d ∷ [])
  value_at n = value_next names q items xs i (get_or items i d) l (item_same items i d (get_or items i d) l) a n
