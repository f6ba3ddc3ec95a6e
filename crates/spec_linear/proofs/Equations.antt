-- The solutions of equations: with two of them, all points of their line.
use Rattle.std.proofs.Common.{◌≡◌, ◌≢◌, ℕ, List, [], ◌∷◌, pos, refl, ap, ap₂, sym, subst, ◌∙◌}
use Rattle.spec_numbers.specs.Rational.{ℚ, 0ℚ, 1ℚ, ◌+ℚ◌, ◌-ℚ◌, ◌*ℚ◌, ◌/ℚ◌, inv_ℚ}
use Rattle.spec_numbers.specs.Sums.{sum_at}
use Rattle.spec_numbers.proofs.Ring.{var, int, ◌⊕◌, ◌⊗◌, minus}
use Rattle.spec_numbers.proofs.RationalLemmas.{ring}
use Rattle.spec_numbers.proofs.Sign.{times_inverse}
use Rattle.spec_numbers.proofs.Sums.{sum_at-plus, sum_at-times}
use Rattle.spec_linear.specs.declared.Relation.{Relation}
use Rattle.spec_linear.specs.declared.Relation.TheVariants.{Eq}
use Rattle.spec_linear.specs.Form.{Linear, value_at}
use Rattle.spec_linear.specs.Solution.{Constraint, Meets, Point, number, Solves, Satisfies, AreEquations}
use Rattle.spec_linear.proofs.Points.{solves_same}
use Rattle.spec_linear.proofs.Denominators.{extends}

-- a point of the line through a and b: a where t is 0, b where t is 1
abbrev pub between : ℚ → (ℕ → ℚ) → (ℕ → ℚ) → ℕ → ℚ
between t a b x = (1ℚ -ℚ t) *ℚ a x +ℚ t *ℚ b x

value_at-between : (t : ℚ) (a b : ℕ → ℚ) (f : Linear) → value_at (between t a b) f ≡ (1ℚ -ℚ t) *ℚ value_at a f +ℚ t *ℚ value_at b f
value_at-between t a b f =
    ap (λ r. f.constant +ℚ r) (
    sum_at-plus (λ x. (1ℚ -ℚ t) *ℚ a x) (λ x. t *ℚ b x) f.products
    ∙ ap₂ (λ p q. p +ℚ q) (sum_at-times (1ℚ -ℚ t) a f.products) (sum_at-times t b f.products))
    ∙ ring (f.constant ∷ t ∷ sum_at a f.products ∷ sum_at b f.products ∷ [])
    (var 0 ⊕ ((int (pos 1) ⊕ minus (var 1)) ⊗ var 2 ⊕ var 1 ⊗ var 3))
    ((int (pos 1) ⊕ minus (var 1)) ⊗ (var 0 ⊕ var 2) ⊕ var 1 ⊗ (var 0 ⊕ var 3)) refl

zeros_between : (t p q : ℚ) → p ≡ 0ℚ → q ≡ 0ℚ → (1ℚ -ℚ t) *ℚ p +ℚ t *ℚ q ≡ 0ℚ
zeros_between t p q e h =
    ap₂ (λ r s. (1ℚ -ℚ t) *ℚ r +ℚ t *ℚ s) e h
    ∙ ring (t ∷ []) ((int (pos 1) ⊕ minus (var 0)) ⊗ int (pos 0) ⊕ var 0 ⊗ int (pos 0)) (int (pos 0)) refl

holds_between : (t : ℚ) (a b : ℕ → ℚ) (r : Relation) (f : Linear) → r ≡ Eq → Meets r (value_at a f) → Meets r (value_at b f) → Meets r (value_at (between t a b) f)
holds_between t a b r f e h k =
    subst (λ o. Meets o (value_at (between t a b) f)) (sym e)
    (value_at-between t a b f
    ∙ zeros_between t (value_at a f) (value_at b f) (subst (λ o. Meets o (value_at a f)) e h) (subst (λ o. Meets o (value_at b f)) e k))

pub satisfies_between : (t : ℚ) (a b : ℕ → ℚ) (l : List Constraint) → AreEquations l → Satisfies a l → Satisfies b l → Satisfies (between t a b) l
satisfies_between t a b [] e h k = tt
satisfies_between t a b (c ∷ l) e h k = (holds_between t a b c.relation c.form e.0 h.0 k.0, satisfies_between t a b l e.1 h.1 k.1)

-- where the line has the value r, if its ends differ
abbrev share : ℚ → ℚ → ℚ → ℚ
share p q r = (r -ℚ p) /ℚ (q -ℚ p)

differ : (p q : ℚ) → p ≢ q → q -ℚ p ≢ 0ℚ
differ p q n e = n (ring (p ∷ []) (var 0) (int (pos 0) ⊕ var 0) refl ∙ ap (λ r. r +ℚ p) (sym e) ∙ ring (p ∷ q ∷ []) ((var 1 ⊕ minus (var 0)) ⊕ var 0) (var 1) refl)

share_is : (p q r : ℚ) → p ≢ q → (1ℚ -ℚ share p q r) *ℚ p +ℚ share p q r *ℚ q ≡ r
share_is p q r n =
    ring (p ∷ q ∷ r ∷ inv_ℚ (q -ℚ p) ∷ [])
    ((int (pos 1) ⊕ minus ((var 2 ⊕ minus (var 0)) ⊗ var 3)) ⊗ var 0 ⊕ ((var 2 ⊕ minus (var 0)) ⊗ var 3) ⊗ var 1)
    (var 0 ⊕ (var 2 ⊕ minus (var 0)) ⊗ ((var 1 ⊕ minus (var 0)) ⊗ var 3)) refl
    ∙ ap (λ w. p +ℚ (r -ℚ p) *ℚ w) (times_inverse (q -ℚ p) (differ p q n))
    ∙ ring (p ∷ r ∷ []) (var 0 ⊕ (var 1 ⊕ minus (var 0)) ⊗ int (pos 1)) (var 1) refl

-- a variable with two values has every value
pub every_value : (l : List Constraint) → AreEquations l → (p q : Point) → Solves p l → Solves q l → (x : ℕ) → number p x ≢ number q x
    → (r : ℚ) → (s : Point) × Solves s l × (number s x ≡ r)
every_value l e p q h k x n r =
    let t : ℚ = share (number p x) (number q x) r in
    let w = extends (x ∷ []) (between t (number p) (number q)) l (satisfies_between t (number p) (number q) l e ((solves_same p l).0 h) ((solves_same q l).0 k)) in
    (w.0, w.2, w.1.0 ∙ share_is (number p x) (number q x) r n)
