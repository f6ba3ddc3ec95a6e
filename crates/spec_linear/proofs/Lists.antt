-- What joins a list, what a list entails and fixes, and lists with the same solutions.
use Rattle.std.proofs.Common.{◌≡◌, ◌↔◌, inl, inr, ℕ, List, [], ◌∷◌, ◌++◌, Option, Some, pos, refl, ap, sym, subst, ◌∙◌}
use Rattle.spec_numbers.specs.Rational.{ℚ, 0ℚ, 1ℚ, ◌+ℚ◌, ◌-ℚ◌}
use Rattle.spec_numbers.proofs.Ring.{var, int, ◌⊕◌, minus}
use Rattle.spec_numbers.proofs.RationalLemmas.{ring}
use Rattle.spec_numbers.proofs.Sign.{one_not_zero}
use Rattle.spec_linear.specs.Form.{variables, value_at, constant_form, variable_form, difference_form}
use Rattle.spec_linear.specs.Solution.{Constraint, false_constraint, equal_to, Point, number, Holds, Solves, Solvable, Unsolvable, Fixed, Fixes, Entails, Equivalent, HoldsAt, Satisfies, Has}
use Rattle.spec_linear.proofs.Values.{value_at-constant_form, value_at-variable_form, value_at-difference_form}
use Rattle.spec_linear.proofs.Points.{holds_same, solves_same}
use Rattle.spec_linear.proofs.Denominators.{extends, agrees_at, has_mentioned, holds_agrees}

-- ---- lists together

pub solves_append : (p : Point) (l m : List Constraint) → Solves p (l ++ m) ↔ (Solves p l × Solves p m)
solves_append p [] m = ((λ h. (tt, h)), (λ h. h.1))
solves_append p (c ∷ l) m = (
  (λ h. let k = (solves_append p l m).0 h.1 in ((h.0, k.0), k.1)),
  (λ h. (h.0.0, (solves_append p l m).1 (h.0.1, h.1))),
)

-- a solution of a list satisfies each member
pub member_holds : (p : Point) (l : List Constraint) (c : Constraint) → Has c l → Solves p l → Holds p c
member_holds p [] c k h = absurd k
member_holds p (d ∷ l) c (inl e) h = subst (Holds p) (sym e) h.0
member_holds p (d ∷ l) c (inr k) h = member_holds p l c k h.1

pub unsolvable_more : (l m : List Constraint) → Unsolvable l → Unsolvable (l ++ m)
unsolvable_more l m n p h = n p ((solves_append p l m).0 h).0

pub entails_more : (l m : List Constraint) (c : Constraint) → Entails l c → Entails (l ++ m) c
entails_more l m c e p h = e p ((solves_append p l m).0 h).0

pub fixed_more : (l m : List Constraint) (x : ℕ) (q : ℚ) → Fixed l x q → Solvable (l ++ m) → Fixed (l ++ m) x q
fixed_more l m x q f s = record { solvable = s; always = λ p h. f.always p ((solves_append p l m).0 h).0 }

-- an entailed member may stand anywhere, or not at all
pub entailed_member : (l m : List Constraint) (c : Constraint) → Entails (l ++ m) c → Equivalent (l ++ c ∷ m) (l ++ m)
entailed_member l m c e p = (
  (λ h. let k = (solves_append p l (c ∷ m)).0 h in (solves_append p l m).1 (k.0, k.1.1)),
  (λ h. let k = (solves_append p l m).0 h in (solves_append p l (c ∷ m)).1 (k.0, (e p h, k.1))),
)

-- ---- false

false_fails : (p : Point) → Holds p false_constraint → ⊥
false_fails p h = let e : value_at (number p) (constant_form 1ℚ) ≡ 0ℚ = (holds_same p false_constraint).0 h in
    one_not_zero (sym (value_at-constant_form (number p) 1ℚ) ∙ e)

pub false_unsolvable : (l : List Constraint) → Has false_constraint l → Unsolvable l
false_unsolvable l k p h = false_fails p (member_holds p l false_constraint k h)

-- ---- what is fixed

pub fixed_once : (l : List Constraint) (x : ℕ) (q r : ℚ) → Fixed l x q → Fixed l x r → q ≡ r
fixed_once l x q r f g = sym (f.always f.solvable.0 f.solvable.1) ∙ g.always f.solvable.0 f.solvable.1

difference_is : (a : ℕ → ℚ) (x : ℕ) (q : ℚ) → value_at a (difference_form (variable_form x) (constant_form q)) ≡ a x -ℚ q
difference_is a x q = value_at-difference_form a (variable_form x) (constant_form q) ∙ ap (λ r. r -ℚ (q +ℚ 0ℚ)) (value_at-variable_form a x) ∙ ap (λ r. a x -ℚ r) (value_at-constant_form a q)

equal_if_no_difference : (p q : ℚ) → p -ℚ q ≡ 0ℚ → p ≡ q
equal_if_no_difference p q e = ring (p ∷ q ∷ []) (var 0) ((var 0 ⊕ minus (var 1)) ⊕ var 1) refl ∙ ap (λ r. r +ℚ q) e ∙ ring (q ∷ []) (int (pos 0) ⊕ var 0) (var 0) refl

no_difference : (p q : ℚ) → p ≡ q → p -ℚ q ≡ 0ℚ
no_difference p q e = ap (λ r. r -ℚ q) e ∙ ring (q ∷ []) (var 0 ⊕ minus (var 0)) (int (pos 0)) refl

pub equal_to-holds : (p : Point) (x : ℕ) (q : ℚ) → Holds p (equal_to x q) ↔ (number p x ≡ q)
equal_to-holds p x q =
    let h = holds_same p (equal_to x q) in
    let e = difference_is (number p) x q in
    ((λ k. equal_if_no_difference (number p x) q (sym e ∙ h.0 k)), (λ k. h.1 (e ∙ no_difference (number p x) q k)))

pub told_once : (l : List Constraint) (f g : ℕ → Option ℚ) → Fixes l f → Fixes l g → (x : ℕ) (q : ℚ) → f x ≡ Some q → g x ≡ Some q
told_once l f g h k x q e = k.complete x q (h.sound x q e)

pub fixed_is_entailed : (l : List Constraint) (x : ℕ) (q : ℚ) → Solvable l → Entails l (equal_to x q) ↔ Fixed l x q
fixed_is_entailed l x q s = (
  (λ e. record { solvable = s; always = λ p h. (equal_to-holds p x q).0 (e p h) }),
  (λ f p h. (equal_to-holds p x q).1 (f.always p h)),
)

-- ---- by assignments of rationals

pub entails_same : (l : List Constraint) (c : Constraint) → Entails l c ↔ ((a : ℕ → ℚ) → Satisfies a l → HoldsAt a c)
entails_same l c = (
  (λ e a h.
      let w = extends (variables c.form.products) a l h in
      holds_agrees (number w.0) a c (λ x k. agrees_at (variables c.form.products) a w.0 w.1 x (has_mentioned x c.form.products k)) ((holds_same w.0 c).0 (e w.0 w.2))),
  (λ e p h. (holds_same p c).1 (e (number p) ((solves_same p l).0 h))),
)

pub fixed_same : (l : List Constraint) (x : ℕ) (q : ℚ) → Fixed l x q ↔ (Solvable l × ((a : ℕ → ℚ) → Satisfies a l → a x ≡ q))
fixed_same l x q = (
  (λ f. (f.solvable, λ a h. let w = extends (x ∷ []) a l h in sym w.1.0 ∙ f.always w.0 w.2)),
  (λ f. record { solvable = f.0; always = λ p h. f.1 (number p) ((solves_same p l).0 h) }),
)

-- ---- lists with the same solutions

pub alike_sym : (k l : List Constraint) → Equivalent k l → Equivalent l k
alike_sym k l h p = ((h p).1, (h p).0)

pub alike_trans : (k l m : List Constraint) → Equivalent k l → Equivalent l m → Equivalent k m
alike_trans k l m h i p = ((λ s. (i p).0 ((h p).0 s)), (λ s. (h p).1 ((i p).1 s)))

pub alike_solvable : (l m : List Constraint) → Equivalent l m → Solvable l → Solvable m
alike_solvable l m e s = (s.0, (e s.0).0 s.1)

pub alike_entails : (l m : List Constraint) (c : Constraint) → Equivalent l m → Entails l c → Entails m c
alike_entails l m c e k p h = k p ((e p).1 h)

pub alike_fixed : (l m : List Constraint) (x : ℕ) (q : ℚ) → Equivalent l m → Fixed l x q → Fixed m x q
alike_fixed l m x q e f = record { solvable = alike_solvable l m e f.solvable; always = λ p h. f.always p ((e p).1 h) }
