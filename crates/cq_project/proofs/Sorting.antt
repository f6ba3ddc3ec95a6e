-- Products of different variables, sorted by variable, are those of a form with the same values.
use Rattle.std.proofs.Common.{◌≡◌, ℕ, zero, suc, ◌+◌, ◌<◌, ◌≤◌, List, [], ◌∷◌, map, length, Bool, true, false, nat_eq, get_or, set, get_or-set_same, get_or-set_other, arith, refl, ap, ap₂, sym, subst, ◌∙◌, inl, inr, ◌⊎◌}
use Rattle.std.specs.List.{AllByRecursion, sum_by, swap}
use Rattle.std.specs.List.Sorted.{IsPermutation, IsNonDecreasingBy}
use Rattle.std.proofs.lemmas.List.{length-set}
use Rattle.std.proofs.lemmas.List.Sums.{sum_by-cons}
use Rattle.std.proofs.lemmas.List.Sorted.{IsPermutation-keeps, sum_by-IsPermutation}
use Rattle.spec_numbers.specs.Rational.{ℚ, 0ℚ, ◌+ℚ◌, ◌*ℚ◌, neg_ℚ}
use Rattle.spec_numbers.specs.Sums.{sum_at}
use Rattle.spec_numbers.proofs.Ring.{var, ◌⊕◌, minus}
use Rattle.spec_numbers.proofs.RationalLemmas.{ring}
use Rattle.spec_linear.specs.Form.{variables, IsSumFrom}
use Rattle.spec_linear.specs.Solution.{Has}
use Rattle.spec_linear.specs.Echelon.{AreDistinct}
use Rattle.spec_numbers.proofs.Tests.{nat_eq-same, nat_eq-self}
use Rattle.spec_projection.proofs.DecidedLemmas.{nat_dec}
use Rattle.cq_frac.specs.declared.VarId.{VarId}
use Rattle.cq_frac.specs.declared.row.Entry.{Entry}
use Rattle.cq_form.specs.Entries.{entry_of, products_of}
use Rattle.cq_equations.specs.Rows.{monomial_of}

-- ---- the entries of products
pub same_products : (ps : List (VarId × ℚ)) → products_of (map entry_of ps) ≡ map monomial_of ps
same_products [] = refl
same_products (p ∷ ps) = ap (λ s. monomial_of p ∷ s) (same_products ps)

-- ---- in another order
module _ (a : ℕ → ℚ) where
  abbrev term : Entry → ℚ
  term m = m.factor *ℚ a m.quantity

  abbrev sum_of : List Entry → ℚ
  sum_of s = sum_at a (products_of s)

  set_sum : (s : List Entry) (i : ℕ) (v d : Entry) → i < length s → sum_of (set s i v) ≡ (sum_of s +ℚ neg_ℚ (term (get_or s i d))) +ℚ term v
  set_sum [] i v d h = absurd (omega (arith, h))
  set_sum (m ∷ s) zero v d h = ring (term v ∷ sum_of s ∷ term m ∷ []) (var 0 ⊕ var 1) (((var 2 ⊕ var 1) ⊕ minus (var 2)) ⊕ var 0) refl
  set_sum (m ∷ s) (suc i) v d h =
      ap (λ r. term m +ℚ r) (set_sum s i v d (omega (arith, h)))
      ∙ ring (term m ∷ sum_of s ∷ term (get_or s i d) ∷ term v ∷ []) (var 0 ⊕ ((var 1 ⊕ minus (var 2)) ⊕ var 3)) (((var 0 ⊕ var 1) ⊕ minus (var 2)) ⊕ var 3) refl

  swap_sum : (s : List Entry) (i j : ℕ) → i < length s → j < length s → sum_of (swap s i j) ≡ sum_of s
  swap_sum [] i j h k = refl
  swap_sum (d ∷ t) i j h k =
      let s : List Entry = d ∷ t in
      let x : Entry = get_or s i d in
      let y : Entry = get_or s j d in
      let first : List Entry = set s i y in
      let there : get_or first j d ≡ y = at_second s i j d h (nat_dec j i) in
      set_sum first j x d (omega (arith, k, length-set s i y))
      ∙ ap (λ r. (sum_of first +ℚ neg_ℚ (term r)) +ℚ term x) there
      ∙ ap (λ r. (r +ℚ neg_ℚ (term y)) +ℚ term x) (set_sum s i y d h)
      ∙ ring (sum_of s ∷ term x ∷ term y ∷ []) ((((var 0 ⊕ minus (var 1)) ⊕ var 2) ⊕ minus (var 2)) ⊕ var 1) (var 0) refl
    where
      at_second : (s : List Entry) (i j : ℕ) (d : Entry) → i < length s → (j ≡ i) ⊎ (j ≡ i → ⊥) → get_or (set s i (get_or s j d)) j d ≡ get_or s j d
      at_second s i j d h (inl e) = ap (λ n. get_or (set s i (get_or s j d)) n d) e ∙ get_or-set_same s i (get_or s j d) d h
      at_second s i j d h (inr n) = get_or-set_other s i j (get_or s j d) d n

  pub permuted_sum : (s t : List Entry) → IsPermutation s t → sum_of t ≡ sum_of s
  permuted_sum s t p = IsPermutation-keeps s (λ l. sum_of l ≡ sum_of s) refl (λ l i j h k e. swap_sum l i j h k ∙ e) t p

-- ---- how often a quantity stands there
abbrev one : Bool → ℕ
one true = 1
one false = 0

abbrev how_many : ℕ → List Entry → ℕ
how_many q s = sum_by (λ (m : Entry). one (nat_eq m.quantity q)) s

none_stands : (q : ℕ) (s : List Entry) → (Has q (variables (products_of s)) → ⊥) → how_many q s ≡ 0
none_stands q [] n = refl
none_stands q (m ∷ s) n =
    sum_by-cons (λ (m : Entry). one (nat_eq m.quantity q)) m s ∙ ap₂ (λ a b. a + b) (by (nat_eq m.quantity q) refl) (none_stands q s (λ h. n (inr h)))
  where
    by : (b : Bool) → nat_eq m.quantity q ≡ b → one b ≡ 0
    by true e = absurd (n (inl (sym (nat_eq-same m.quantity q e))))
    by false e = refl

at_most_once : (q : ℕ) (s : List Entry) → AreDistinct (variables (products_of s)) → how_many q s ≤ 1
at_most_once q [] d = omega arith
at_most_once q (m ∷ s) d = subst (λ n. n ≤ 1) (sym (sum_by-cons (λ (m : Entry). one (nat_eq m.quantity q)) m s)) (by (nat_eq m.quantity q) refl (at_most_once q s d.1))
  where
    by : (b : Bool) → nat_eq m.quantity q ≡ b → how_many q s ≤ 1 → one b + how_many q s ≤ 1
    by true e h = let z = none_stands q s (λ k. d.0 (subst (λ x. Has x (variables (products_of s))) (sym (nat_eq-same m.quantity q e)) k)) in omega (arith, z)
    by false e h = omega (arith, h)

-- ---- in ascending order
abbrev AreNonzero : List Entry → Type 0
AreNonzero s = (i : ℕ) (d : Entry) → i < length s → (get_or s i d).factor ≡ 0ℚ → ⊥

ascending : (s : List Entry) → IsNonDecreasingBy (λ (m : Entry). m.quantity) s → ((q : ℕ) → how_many q s ≤ 1) → AreNonzero s
    → (low : ℕ) → ((m : Entry) → 0 < length s → low ≤ (get_or s 0 m).quantity) → IsSumFrom low (products_of s)
ascending [] up once n low h = tt
ascending (m ∷ []) up once n low h = (h m (omega arith), n 0 m (omega arith), tt)
ascending (m ∷ k ∷ s) up once n low h = (
  h m (omega arith),
  n 0 m (omega arith),
  ascending (k ∷ s) (λ i j d a b. up (suc i) (suc j) d (omega (arith, a)) (omega (arith, b))) rest_once (λ i d b. n (suc i) d (omega (arith, b))) (suc m.quantity) (λ d b. above),
)
  where
    split : (q : ℕ) → one (nat_eq m.quantity q) + how_many q (k ∷ s) ≤ 1
    split q = subst (λ c. c ≤ 1) (sum_by-cons (λ (e : Entry). one (nat_eq e.quantity q)) m (k ∷ s)) (once q)

    rest_once : (q : ℕ) → how_many q (k ∷ s) ≤ 1
    rest_once q = let w = split q in omega (arith, w)

    apart : k.quantity ≡ m.quantity → ⊥
    apart e =
        let first : one (nat_eq m.quantity m.quantity) ≡ 1 = ap one (nat_eq-self m.quantity) in
        let second : one (nat_eq k.quantity m.quantity) ≡ 1 = ap (λ x. one (nat_eq x m.quantity)) e ∙ first in
        let both = split m.quantity in
        let more = sum_by-cons (λ (x : Entry). one (nat_eq x.quantity m.quantity)) k s in
        omega (arith, first, second, both, more)

    above : m.quantity < k.quantity
    above = let u = up 0 1 m (omega arith) (omega arith) in let w = apart in omega (arith, u, w)

nonzero_at : (s : List Entry) → AllByRecursion (λ m. m.factor ≡ 0ℚ → ⊥) (products_of s) → AreNonzero s
nonzero_at [] h i d b = absurd (omega (arith, b))
nonzero_at (m ∷ s) h zero d b = h.0
nonzero_at (m ∷ s) h (suc i) d b = nonzero_at s h.1 i d (omega (arith, b))

in_front_nonzero : (m : Entry) (s : List Entry) → (m.factor ≡ 0ℚ → ⊥) → AreNonzero s → AreNonzero (m ∷ s)
in_front_nonzero m s f y zero d b = f
in_front_nonzero m s f y (suc n) d b = y n d (omega (arith, b))

set_nonzero : (s : List Entry) (i : ℕ) (v : Entry) → (v.factor ≡ 0ℚ → ⊥) → AreNonzero s → AreNonzero (set s i v)
set_nonzero [] i v f y = y
set_nonzero (m ∷ s) zero v f y = in_front_nonzero v s f (λ n d b. y (suc n) d (omega (arith, b)))
set_nonzero (m ∷ s) (suc i) v f y = in_front_nonzero m (set s i v) (y 0 m (omega arith)) (set_nonzero s i v f (λ n d b. y (suc n) d (omega (arith, b))))

swap_nonzero : (s : List Entry) (i j : ℕ) → i < length s → j < length s → AreNonzero s → AreNonzero (swap s i j)
swap_nonzero [] i j h k z = z
swap_nonzero (e ∷ s) i j h k z = set_nonzero (set (e ∷ s) i (get_or (e ∷ s) j e)) j (get_or (e ∷ s) i e) (z i e h) (set_nonzero (e ∷ s) i (get_or (e ∷ s) j e) (z j e k) z)

-- so sorted products are those of a form
pub sorted_form : (s t : List Entry) → IsPermutation s t → IsNonDecreasingBy (λ (m : Entry). m.quantity) t → AreDistinct (variables (products_of s))
    → AllByRecursion (λ m. m.factor ≡ 0ℚ → ⊥) (products_of s) → IsSumFrom 0 (products_of t)
sorted_form s t p up d n =
    ascending t up (λ q. subst (λ c. c ≤ 1) (sym (sum_by-IsPermutation (λ (m : Entry). one (nat_eq m.quantity q)) s t p)) (at_most_once q s d))
    (IsPermutation-keeps s AreNonzero (nonzero_at s n) swap_nonzero t p) 0 (λ m h. omega arith)
