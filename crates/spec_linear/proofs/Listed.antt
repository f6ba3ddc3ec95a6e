-- A form that depends on some variables alone, with its products listed in their order.
use Rattle.std.proofs.Common.{◌≡◌, ◌≢◌, ℕ, List, [], ◌∷◌, Bool, true, false, cond, pos, refl, ap, ap₂, sym, subst, ◌∙◌, inl, inr}
use Rattle.std.specs.List.{AllByRecursion}
use Rattle.spec_numbers.specs.Rational.{ℚ, 0ℚ, ◌+ℚ◌, ◌*ℚ◌}
use Rattle.spec_numbers.specs.Sums.{Monomial, Mentions, sum_at, unit, factor_of}
use Rattle.spec_numbers.proofs.Ring.{var, int, ◌⊕◌, ◌⊗◌}
use Rattle.spec_numbers.proofs.RationalLemmas.{ring}
use Rattle.spec_numbers.proofs.Sums.{sum_at-plus, sum_at-times, sum_at-nowhere, factor_of-is, unit-self, unit-other}
use Rattle.spec_linear.specs.Form.{Linear, value_at, is_zero, in_front}
use Rattle.spec_linear.specs.Solution.{Has}
use Rattle.spec_linear.proofs.Values.{is_zero-false, sum_at-in_front}
use Rattle.spec_linear.specs.Echelon.{AreDistinct, InOrder, variables}
use Rattle.spec_linear.proofs.Orders.{in_order-more}

-- the form's value depends on these variables alone
abbrev pub DependsOn : List ℕ → Linear → Type 0
DependsOn order f = (a b : ℕ → ℚ) → ((x : ℕ) → Has x order → a x ≡ b x) → value_at a f ≡ value_at b f

-- the products of the variables of the order, where the factor is not zero
abbrev pub listed : (ℕ → ℚ) → List ℕ → List Monomial
listed factor [] = []
listed factor (x ∷ order) = in_front (record { variable = x; factor = factor x }) (listed factor order)

abbrev pub listed_form : List ℕ → Linear → Linear
listed_form order f = record { products = listed (λ x. factor_of x f.products) order; constant = f.constant }

-- ---- what is listed

pub listed-ordered : (factor : ℕ → ℚ) (order : List ℕ) → InOrder order (variables (listed factor order))
listed-ordered factor [] = tt
listed-ordered factor (x ∷ order) = go (is_zero (factor x)) (listed-ordered factor order)
  where
    go : (b : Bool) → InOrder order (variables (listed factor order)) → InOrder (x ∷ order) (variables (cond b (listed factor order) (record { variable = x; factor = factor x } ∷ listed factor order)))
    go true h = in_order-more x order (variables (listed factor order)) h
    go false h = inl (refl, h)

pub listed-nonzero : (factor : ℕ → ℚ) (order : List ℕ) → AllByRecursion (λ m. m.factor ≢ 0ℚ) (listed factor order)
listed-nonzero factor [] = tt
listed-nonzero factor (x ∷ order) = go (is_zero (factor x)) refl (listed-nonzero factor order)
  where
    go : (b : Bool) → is_zero (factor x) ≡ b → AllByRecursion (λ m. m.factor ≢ 0ℚ) (listed factor order)
        → AllByRecursion (λ m. m.factor ≢ 0ℚ) (cond b (listed factor order) (record { variable = x; factor = factor x } ∷ listed factor order))
    go true e h = h
    go false e h = (is_zero-false (factor x) e, h)

pub listed-mentions : (factor : ℕ → ℚ) (order : List ℕ) (y : ℕ) → Mentions y (listed factor order) → Has y order × (factor y ≢ 0ℚ)
listed-mentions factor [] y m = absurd m
listed-mentions factor (x ∷ order) y m = go (is_zero (factor x)) refl m (listed-mentions factor order y)
  where
    go : (b : Bool) → is_zero (factor x) ≡ b → Mentions y (cond b (listed factor order) (record { variable = x; factor = factor x } ∷ listed factor order))
        → (Mentions y (listed factor order) → Has y order × (factor y ≢ 0ℚ)) → Has y (x ∷ order) × (factor y ≢ 0ℚ)
    go true e k rest = let h = rest k in (inr h.0, h.1)
    go false e (inl w) rest = let same : x ≡ y = sym w in (inl w, subst (λ z. factor z ≢ 0ℚ) same (is_zero-false (factor x) e))
    go false e (inr k) rest = let h = rest k in (inr h.0, h.1)

-- ---- its value

-- the values of a on the order, and 0 elsewhere
abbrev only_on : List ℕ → (ℕ → ℚ) → ℕ → ℚ
only_on [] a y = 0ℚ
only_on (x ∷ order) a y = a x *ℚ unit x y +ℚ only_on order a y

only_on-elsewhere : (order : List ℕ) (a : ℕ → ℚ) (y : ℕ) → (Has y order → ⊥) → only_on order a y ≡ 0ℚ
only_on-elsewhere [] a y n = refl
only_on-elsewhere (x ∷ order) a y n =
    ap₂ (λ u r. a x *ℚ u +ℚ r) (unit-other x y (λ e. n (inl (sym e)))) (only_on-elsewhere order a y (λ k. n (inr k)))
    ∙ ring (a x ∷ []) (var 0 ⊗ int (pos 0) ⊕ int (pos 0)) (int (pos 0)) refl

only_on-there : (order : List ℕ) (a : ℕ → ℚ) (y : ℕ) → AreDistinct order → Has y order → a y ≡ only_on order a y
only_on-there [] a y d k = absurd k
only_on-there (x ∷ order) a y d (inl e) =
    let same : y ≡ x = e in
    subst (λ z. a z ≡ only_on (x ∷ order) a z) (sym same)
    (ring (a x ∷ []) (var 0) (var 0 ⊗ int (pos 1) ⊕ int (pos 0)) refl
    ∙ ap₂ (λ u r. a x *ℚ u +ℚ r) (sym (unit-self x)) (sym (only_on-elsewhere order a x d.0)))
only_on-there (x ∷ order) a y d (inr k) =
    only_on-there order a y d.1 k
    ∙ ring (a x ∷ only_on order a y ∷ []) (var 1) (var 0 ⊗ int (pos 0) ⊕ var 1) refl
    ∙ ap (λ u. a x *ℚ u +ℚ only_on order a y) (sym (unit-other x y (λ e. d.0 (subst (λ z. Has z order) (sym e) k))))

sum_at-only_on : (order : List ℕ) (a : ℕ → ℚ) (s : List Monomial) → sum_at (only_on order a) s ≡ sum_at a (listed (λ x. factor_of x s) order)
sum_at-only_on [] a s = sum_at-nowhere s
sum_at-only_on (x ∷ order) a s =
    sum_at-plus (λ y. a x *ℚ unit x y) (only_on order a) s
    ∙ ap₂ (λ v w. v +ℚ w) (sum_at-times (a x) (unit x) s ∙ ap (λ w. a x *ℚ w) (sym (factor_of-is x s))) (sum_at-only_on order a s)
    ∙ ring (a x ∷ factor_of x s ∷ sum_at a (listed (λ y. factor_of y s) order) ∷ []) (var 0 ⊗ var 1 ⊕ var 2) (var 1 ⊗ var 0 ⊕ var 2) refl
    ∙ sym (sum_at-in_front a (record { variable = x; factor = factor_of x s }) (listed (λ y. factor_of y s) order))

pub value_at-listed_form : (a : ℕ → ℚ) (order : List ℕ) (f : Linear) → AreDistinct order → DependsOn order f → value_at a (listed_form order f) ≡ value_at a f
value_at-listed_form a order f d h =
    ap (λ r. f.constant +ℚ r) (sym (sum_at-only_on order a f.products))
    ∙ sym (h a (only_on order a) (λ x k. only_on-there order a x d k))
