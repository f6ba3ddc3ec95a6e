-- Rationals for finitely many variables have one denominator, so rationals that satisfy a list extend to a solution.
use Rattle.std.proofs.Common.{◌≡◌, ◌↔◌, ◌⊎◌, inl, inr, ℕ, ◌*◌, List, [], ◌∷◌, ◌++◌, Bool, true, false, cond, ℤ, pos, ◌*ℤ◌, arith, refl, ap, sym, subst, ◌∙◌, mul-pos, zero-lt-suc}
use Rattle.std.specs.Prelude.{◌==◌}
use Rattle.spec_numbers.specs.Rational.{ℚ, denominator, ratio, ◌+ℚ◌}
use Rattle.spec_numbers.specs.Sums.{Monomial, Mentions}
use Rattle.spec_numbers.proofs.Ring.{var, ◌⊗◌}
use Rattle.spec_numbers.proofs.IntRing.{ring_ℤ}
use Rattle.spec_numbers.proofs.RationalLemmas.{ratio_same, ratio_back}
use Rattle.spec_numbers.proofs.Sums.{sum_at-agrees}
use Rattle.spec_linear.specs.Form.{variables}
use Rattle.spec_linear.specs.Solution.{Constraint, Meets, Point, number, Solvable, HoldsAt, Satisfies, AgreesOn, Extends, Has, SomeMentions}
use Rattle.spec_numbers.proofs.Tests.{nat_eq-same}
use Rattle.spec_linear.proofs.Points.{solves_same}

-- ---- lists that have what another has

pub has_left : {A : Type 0} (x : A) (s t : List A) → Has x s → Has x (s ++ t)
has_left x [] t h = absurd h
has_left x (y ∷ s) t (inl e) = inl e
has_left x (y ∷ s) t (inr h) = inr (has_left x s t h)

pub has_right : {A : Type 0} (x : A) (s t : List A) → Has x t → Has x (s ++ t)
has_right x [] t h = h
has_right x (y ∷ s) t h = inr (has_right x s t h)

-- the variables of a list of constraints, as often as they stand there
abbrev all_variables : List Constraint → List ℕ
all_variables [] = []
all_variables (c ∷ l) = variables c.form.products ++ all_variables l

pub has_mentioned : (x : ℕ) (s : List Monomial) → Mentions x s → Has x (variables s)
has_mentioned x [] h = absurd h
has_mentioned x (m ∷ s) (inl e) = inl e
has_mentioned x (m ∷ s) (inr h) = inr (has_mentioned x s h)

has_variable : (x : ℕ) (l : List Constraint) → SomeMentions x l → Has x (all_variables l)
has_variable x [] h = absurd h
has_variable x (c ∷ l) (inl h) = has_left x (variables c.form.products) (all_variables l) (has_mentioned x c.form.products h)
has_variable x (c ∷ l) (inr h) = has_right x (variables c.form.products) (all_variables l) (has_variable x l h)

-- ---- a list looks at the variables that it mentions alone

pub holds_agrees : (a b : ℕ → ℚ) (c : Constraint) → ((x : ℕ) → Mentions x c.form.products → a x ≡ b x) → HoldsAt a c → HoldsAt b c
holds_agrees a b c e h = subst (Meets c.relation) (ap (λ q. c.form.constant +ℚ q) (sum_at-agrees a b c.form.products e)) h

pub satisfies_agrees : (a b : ℕ → ℚ) (l : List Constraint) → ((x : ℕ) → SomeMentions x l → a x ≡ b x) → Satisfies a l → Satisfies b l
satisfies_agrees a b [] e h = tt
satisfies_agrees a b (c ∷ l) e h = (holds_agrees a b c (λ x k. e x (inl k)) h.0, satisfies_agrees a b l (λ x k. e x (inr k)) h.1)

-- ---- one denominator

-- the point with q at one more variable, over a greater denominator
abbrev widened : Point → ℕ → ℚ → Point
widened p x q = record {
  denominator = p.denominator * denominator q;
  positive = mul-pos p.positive (zero-lt-suc q.below);
  numerator = λ y. cond (x == y) (q.numerator *ℤ pos p.denominator) (p.numerator y *ℤ pos (denominator q));
}

same_ratio : (p : Point) (q : ℚ) (n : ℤ) → ratio (n *ℤ pos (denominator q)) (p.denominator * denominator q) ≡ ratio n p.denominator
same_ratio p q n =
    ratio_same _ n _ p.denominator (mul-pos p.positive (zero-lt-suc q.below)) p.positive
    (ring_ℤ (n ∷ pos (denominator q) ∷ pos p.denominator ∷ []) ((var 0 ⊗ var 1) ⊗ var 2) (var 0 ⊗ (var 2 ⊗ var 1)) refl)

own_ratio : (p : Point) (q : ℚ) → ratio (q.numerator *ℤ pos p.denominator) (p.denominator * denominator q) ≡ q
own_ratio p q =
    ratio_same _ q.numerator _ (denominator q) (mul-pos p.positive (zero-lt-suc q.below)) (zero-lt-suc q.below)
    (ring_ℤ (q.numerator ∷ pos p.denominator ∷ pos (denominator q) ∷ []) ((var 0 ⊗ var 1) ⊗ var 2) (var 0 ⊗ (var 1 ⊗ var 2)) refl)
    ∙ ratio_back q

widened_is : (p : Point) (x y : ℕ) (q : ℚ) → number (widened p x q) y ≡ cond (x == y) q (number p y)
widened_is p x y q = go (x == y)
  where
    go : (b : Bool) → ratio (cond b (q.numerator *ℤ pos p.denominator) (p.numerator y *ℤ pos (denominator q))) (p.denominator * denominator q) ≡ cond b q (ratio (p.numerator y) p.denominator)
    go true = own_ratio p q
    go false = same_ratio p q (p.numerator y)

-- the point with the values of a at some variables
abbrev point_of : (ℕ → ℚ) → List ℕ → Point
point_of a [] = record { denominator = 1; positive = omega arith; numerator = λ y. pos 0 }
point_of a (x ∷ xs) = widened (point_of a xs) x (a x)

point_of-is : (a : ℕ → ℚ) (xs : List ℕ) (y : ℕ) → Has y xs → number (point_of a xs) y ≡ a y
point_of-is a [] y h = absurd h
point_of-is a (x ∷ xs) y h = widened_is (point_of a xs) x y (a x) ∙ go (x == y) refl h (point_of-is a xs y)
  where
    go : (b : Bool) → (x == y) ≡ b → (y ≡ x) ⊎ Has y xs → (Has y xs → number (point_of a xs) y ≡ a y) → cond b (a x) (number (point_of a xs) y) ≡ a y
    go true e k r = ap a (nat_eq-same x y e)
    go false e (inl k) r = absurd (grind arith)
    go false e (inr k) r = r k

pub agrees_on : (targets : List ℕ) (a : ℕ → ℚ) (p : Point) → ((x : ℕ) → Has x targets → number p x ≡ a x) → AgreesOn targets a p
agrees_on [] a p h = tt
agrees_on (x ∷ targets) a p h = (h x (inl refl), agrees_on targets a p (λ y k. h y (inr k)))

pub agrees_at : (targets : List ℕ) (a : ℕ → ℚ) (p : Point) → AgreesOn targets a p → (x : ℕ) → Has x targets → number p x ≡ a x
agrees_at [] a p h x k = absurd k
agrees_at (y ∷ targets) a p h x (inl e) = ap (number p) e ∙ h.0 ∙ ap a (sym e)
agrees_at (y ∷ targets) a p h x (inr k) = agrees_at targets a p h.1 x k

-- rationals that satisfy a list extend to a solution, whatever the targets are
pub extends : (targets : List ℕ) (a : ℕ → ℚ) (l : List Constraint) → Satisfies a l → Extends targets a l
extends targets a l h =
    let xs : List ℕ = targets ++ all_variables l in
    let p : Point = point_of a xs in
    let at : (x : ℕ) → Has x xs → number p x ≡ a x = point_of-is a xs in (
      p,
      agrees_on targets a p (λ x k. at x (has_left x targets (all_variables l) k)),
      (solves_same p l).1 (satisfies_agrees a (number p) l (λ x k. sym (at x (has_right x targets (all_variables l) (has_variable x l k)))) h),
    )

pub solvable_same : (l : List Constraint) → Solvable l ↔ ((a : ℕ → ℚ) × Satisfies a l)
solvable_same l = (
  (λ h. (number h.0, (solves_same h.0 l).0 h.1)),
  (λ h. let e = extends [] h.0 l h.1 in (e.0, e.2)),
)
