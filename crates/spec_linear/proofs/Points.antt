-- A form multiplied through is the denominator times its value at the rationals, so a point and its rationals solve the same lists.
use Rattle.std.proofs.Common.{◌≡◌, ◌≢◌, ◌↔◌, ℕ, List, [], ◌∷◌, ℤ, pos, arith, refl, ap, ap₂, sym, subst, ◌∙◌}
use Rattle.spec_numbers.specs.Rational.{ℚ, 0ℚ, int_ℚ, ◌+ℚ◌, ◌*ℚ◌, inv_ℚ, IsPositive}
use Rattle.spec_numbers.specs.Sums.{Monomial, sum_at}
use Rattle.spec_numbers.proofs.Ring.{var, int, ◌⊕◌, ◌⊗◌}
use Rattle.spec_numbers.proofs.IntRing.{ring_ℤ}
use Rattle.spec_numbers.proofs.RationalLemmas.{ring, ratio-mul, ratio_same}
use Rattle.spec_numbers.proofs.Sign.{pos_mul, nonneg_mul, pos_nonneg, ratio_pos, product_zero, inv_mul, inv_pos, not_pos_zero}
use Rattle.spec_linear.specs.declared.Relation.{Relation}
use Rattle.spec_linear.specs.declared.Relation.TheVariants.{Eq, Gt, Ge, Ne}
use Rattle.spec_linear.specs.Form.{Linear, value_at, scaled_form}
use Rattle.spec_linear.specs.Solution.{Constraint, Meets, Point, number, through, Holds, Solves, HoldsAt, Satisfies}
use Rattle.spec_linear.proofs.Values.{value_at-scaled_form}

-- the point that gives each variable the same number
unfoldable pub all_at : ℤ → Point
all_at n = record { denominator = 1; positive = omega arith; numerator = λ x. n }

-- the denominator as a rational
abbrev size : Point → ℚ
size p = int_ℚ (pos p.denominator)

size_pos : (p : Point) → IsPositive (size p)
unfolding int_ℚ
size_pos p = ratio_pos (pos p.denominator) 1 (omega arith) (search arith)

numerator_is : (p : Point) (x : ℕ) → int_ℚ (p.numerator x) ≡ size p *ℚ number p x
unfolding int_ℚ
numerator_is p x =
    sym (ratio-mul (pos p.denominator) (p.numerator x) 1 p.denominator (omega arith) p.positive
    ∙ ratio_same _ (p.numerator x) _ 1 (omega (arith, p.positive)) (omega arith)
    (ring_ℤ (pos p.denominator ∷ p.numerator x ∷ []) ((var 0 ⊗ var 1) ⊗ int (pos 1)) (var 1 ⊗ (int (pos 1) ⊗ var 0)) refl))

sum_through : (p : Point) (s : List Monomial) → sum_at (λ x. int_ℚ (p.numerator x)) s ≡ size p *ℚ sum_at (number p) s
sum_through p [] = ring (size p ∷ []) (int (pos 0)) (var 0 ⊗ int (pos 0)) refl
sum_through p (m ∷ s) =
    ap₂ (λ a b. m.factor *ℚ a +ℚ b) (numerator_is p m.variable) (sum_through p s)
    ∙ ring (m.factor ∷ size p ∷ number p m.variable ∷ sum_at (number p) s ∷ [])
    (var 0 ⊗ (var 1 ⊗ var 2) ⊕ var 1 ⊗ var 3) (var 1 ⊗ (var 0 ⊗ var 2 ⊕ var 3)) refl

through_is : (p : Point) (f : Linear) → through p f ≡ size p *ℚ value_at (number p) f
through_is p f =
    ap (λ a. f.constant *ℚ size p +ℚ a) (sum_through p f.products)
    ∙ ring (f.constant ∷ size p ∷ sum_at (number p) f.products ∷ []) (var 0 ⊗ var 1 ⊕ var 1 ⊗ var 2) (var 1 ⊗ (var 0 ⊕ var 2)) refl

-- ---- a positive factor changes no relation to zero

pub times_zero : (s q : ℚ) → q ≡ 0ℚ → s *ℚ q ≡ 0ℚ
times_zero s q e = ap (λ r. s *ℚ r) e ∙ ring (s ∷ []) (var 0 ⊗ int (pos 0)) (int (pos 0)) refl

pos_not_zero : (s : ℚ) → IsPositive s → s ≢ 0ℚ
pos_not_zero s h e = not_pos_zero (subst IsPositive e h)

undone : (s q : ℚ) → IsPositive s → q ≡ inv_ℚ s *ℚ (s *ℚ q)
undone s q h =
    ring (q ∷ []) (var 0) (int (pos 1) ⊗ var 0) refl ∙ ap (λ r. r *ℚ q) (sym (inv_mul h))
    ∙ ring (s ∷ inv_ℚ s ∷ q ∷ []) ((var 0 ⊗ var 1) ⊗ var 2) (var 1 ⊗ (var 0 ⊗ var 2)) refl

meets_scaled : (r : Relation) (s q : ℚ) → IsPositive s → Meets r q → Meets r (s *ℚ q)
meets_scaled Eq s q h e = times_zero s q e
meets_scaled Gt s q h e = pos_mul h e
meets_scaled Ge s q h e = nonneg_mul (pos_nonneg h) e
meets_scaled Ne s q h e = λ z. e (product_zero s q (pos_not_zero s h) z)

pub meets_same : (r : Relation) (s q : ℚ) → IsPositive s → Meets r (s *ℚ q) ↔ Meets r q
meets_same r s q h =
    ((λ e. subst (Meets r) (sym (undone s q h)) (meets_scaled r (inv_ℚ s) (s *ℚ q) (inv_pos h) e)), (λ e. meets_scaled r s q h e))

-- a constraint with its form multiplied by a positive number
pub multiplied_same : (a : ℕ → ℚ) (k : ℚ) (c : Constraint) → IsPositive k
    → HoldsAt a (record { relation = c.relation; form = scaled_form k c.form }) ↔ HoldsAt a c
multiplied_same a k c h =
    let e = value_at-scaled_form a k c.form in
    let m = meets_same c.relation k (value_at a c.form) h in
    ((λ j. m.0 (subst (Meets c.relation) e j)), (λ j. subst (Meets c.relation) (sym e) (m.1 j)))

-- an equation with its form multiplied by a number that is not zero
pub equation_multiplied_same : (a : ℕ → ℚ) (k : ℚ) (f : Linear) → k ≢ 0ℚ → (value_at a (scaled_form k f) ≡ 0ℚ) ↔ (value_at a f ≡ 0ℚ)
equation_multiplied_same a k f n =
    let e = value_at-scaled_form a k f in
    ((λ j. product_zero k (value_at a f) n (sym e ∙ j)), (λ j. e ∙ times_zero k (value_at a f) j))

-- ---- the point solves what its rationals satisfy

pub holds_same : (p : Point) (c : Constraint) → Holds p c ↔ HoldsAt (number p) c
holds_same p c =
    let e = through_is p c.form in
    let m = meets_same c.relation (size p) (value_at (number p) c.form) (size_pos p) in
    ((λ h. m.0 (subst (Meets c.relation) e h)), (λ h. subst (Meets c.relation) (sym e) (m.1 h)))

pub solves_same : (p : Point) (l : List Constraint) → Solves p l ↔ Satisfies (number p) l
solves_same p [] = ((λ h. tt), (λ h. tt))
solves_same p (c ∷ l) = (
  (λ h. ((holds_same p c).0 h.0, (solves_same p l).0 h.1)),
  (λ h. ((holds_same p c).1 h.0, (solves_same p l).1 h.1)),
)
