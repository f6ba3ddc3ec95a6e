-- A value strictly between those of two solutions works, unless a disequation excludes it; and a disequation excludes one value at most.
use Rattle.std.proofs.Common.{◌≡◌, ◌⊎◌, inl, inr, ℕ, suc, ◌≤◌, ◌<◌, List, [], ◌∷◌, pos, refl, sym, ap, ap₂, subst, ◌∙◌, arith}
use Rattle.spec_numbers.specs.Rational.{ℚ, 0ℚ, 1ℚ, ◌+ℚ◌, ◌-ℚ◌, ◌*ℚ◌, inv_ℚ, neg_ℚ, IsPositive, ◌<ℚ◌}
use Rattle.spec_numbers.proofs.Ring.{var, int, ◌⊕◌, ◌⊗◌, minus}
use Rattle.spec_numbers.proofs.RationalLemmas.{ring}
use Rattle.spec_numbers.proofs.Sign.{pos_add, pos_mul, pos_nonneg, inv_mul, inv_pos, Sign, is_zero, is_pos, is_neg, sign}
use Rattle.spec_numbers.proofs.Order.{lt_trans, lt_irrefl}
use Rattle.spec_linear.specs.declared.Relation.{Relation}
use Rattle.spec_linear.specs.declared.Relation.TheVariants.{Eq, Gt, Ne}
use Rattle.spec_linear.specs.Form.{Linear, value_at, variable_form, constant_form, difference_form}
use Rattle.spec_linear.specs.Solution.{Constraint, Has, Solvable, Unsolvable, Satisfies, HoldsAt, equal_to}
use Rattle.spec_linear.proofs.Values.{value_at-difference_form, value_at-variable_form, value_at-constant_form}
use Rattle.spec_linear.proofs.Denominators.{solvable_same}
use Rattle.spec_linear.specs.Weak.{weak, above_zero, not_zero}
use Rattle.spec_linear.proofs.Far.{far, meets_far, weak_far, weak_satisfied, member_satisfied}
use Rattle.spec_linear.proofs.Together.{met_together}
use Rattle.spec_points.specs.Between.{Inside, Excludes}

pub away : (a : ℕ → ℚ) (x : ℕ) (q : ℚ) → value_at a (difference_form (variable_form x) (constant_form q)) ≡ a x -ℚ q
away a x q =
    value_at-difference_form a (variable_form x) (constant_form q)
    ∙ ap₂ (λ (y z : ℚ). y -ℚ z) (value_at-variable_form a x) (value_at-constant_form a q)

-- ---- the point of the segment

module _ (l : List Constraint) (x : ℕ) (low high : ℕ → ℚ) (low_solves : Satisfies low l) (high_solves : Satisfies high l) (q : ℚ)
    (less : low x <ℚ q) (more : q <ℚ high x) where
  abbrev t : ℚ
  t = (q -ℚ low x) *ℚ inv_ℚ (high x -ℚ q)

  t_pos : IsPositive t
  t_pos = pos_mul less.gap (inv_pos more.gap)

  abbrev between : ℕ → ℚ
  between = far t high low

  on_the_line : t *ℚ (high x -ℚ q) +ℚ (low x -ℚ q) ≡ 0ℚ
  on_the_line =
      ring (q ∷ low x ∷ high x ∷ inv_ℚ (high x -ℚ q) ∷ [])
      (((var 0 ⊕ minus (var 1)) ⊗ var 3) ⊗ (var 2 ⊕ minus (var 0)) ⊕ (var 1 ⊕ minus (var 0)))
      ((var 0 ⊕ minus (var 1)) ⊗ ((var 2 ⊕ minus (var 0)) ⊗ var 3) ⊕ (var 1 ⊕ minus (var 0))) refl
      ∙ ap (λ (w : ℚ). (q -ℚ low x) *ℚ w +ℚ (low x -ℚ q)) (inv_mul more.gap)
      ∙ ring (q ∷ low x ∷ []) ((var 0 ⊕ minus (var 1)) ⊗ int (pos 1) ⊕ (var 1 ⊕ minus (var 0))) (int (pos 0)) refl

  has_value : HoldsAt between (equal_to x q)
  has_value =
      meets_far t high low Eq (difference_form (variable_form x) (constant_form q)) (pos_nonneg t_pos)
      (ap₂ (λ (y z : ℚ). t *ℚ y +ℚ z) (away high x q) (away low x q) ∙ on_the_line)

  weakly : Satisfies between (weak l)
  weakly = weak_far t high low l (pos_nonneg t_pos) (weak_satisfied high l high_solves) (weak_satisfied low l low_solves)

  -- the value of a form there, but for a positive factor
  abbrev sum : Linear → ℚ
  sum f = t *ℚ value_at high f +ℚ value_at low f

  strict : (f : Linear) → Has (above_zero f) l → HoldsAt between (above_zero f)
  strict f h =
      let a : IsPositive (value_at high f) = member_satisfied high l (above_zero f) h high_solves in
      let b : IsPositive (value_at low f) = member_satisfied low l (above_zero f) h low_solves in
      meets_far t high low Gt f (pos_nonneg t_pos) (pos_add (pos_mul t_pos a) (pos_nonneg b))

  pub weak_there : Solvable (equal_to x q ∷ weak l)
  weak_there = (solvable_same (equal_to x q ∷ weak l)).1 (between, (has_value, weakly))

  pub strict_there : (f : Linear) → Has (above_zero f) l → Solvable (above_zero f ∷ equal_to x q ∷ weak l)
  strict_there f h = (solvable_same (above_zero f ∷ equal_to x q ∷ weak l)).1 (between, (strict f h, (has_value, weakly)))

  -- a form that is excluded is zero there
  pub zero_there : (f : Linear) → Excludes l x f q → (q -ℚ low x) *ℚ value_at high f +ℚ (high x -ℚ q) *ℚ value_at low f ≡ 0ℚ
  zero_there f e =
      sym (ring (q ∷ low x ∷ high x ∷ inv_ℚ (high x -ℚ q) ∷ value_at high f ∷ value_at low f ∷ [])
      ((var 2 ⊕ minus (var 0)) ⊗ ((((var 0 ⊕ minus (var 1)) ⊗ var 3) ⊗ var 4) ⊕ var 5))
      (((var 0 ⊕ minus (var 1)) ⊗ ((var 2 ⊕ minus (var 0)) ⊗ var 3)) ⊗ var 4 ⊕ (var 2 ⊕ minus (var 0)) ⊗ var 5) refl
      ∙ ap (λ (w : ℚ). ((q -ℚ low x) *ℚ w) *ℚ value_at high f +ℚ (high x -ℚ q) *ℚ value_at low f) (inv_mul more.gap)
      ∙ ring (q ∷ low x ∷ high x ∷ value_at high f ∷ value_at low f ∷ [])
      (((var 0 ⊕ minus (var 1)) ⊗ int (pos 1)) ⊗ var 3 ⊕ (var 2 ⊕ minus (var 0)) ⊗ var 4)
      ((var 0 ⊕ minus (var 1)) ⊗ var 3 ⊕ (var 2 ⊕ minus (var 0)) ⊗ var 4) refl)
      ∙ ap (λ (w : ℚ). (high x -ℚ q) *ℚ w) sum_zero
      ∙ ring (q ∷ high x ∷ []) ((var 1 ⊕ minus (var 0)) ⊗ int (pos 0)) (int (pos 0)) refl
    where
      not_off : (sum f ≡ 0ℚ → ⊥) → ⊥
      not_off n =
          let s = (solvable_same (not_zero f ∷ equal_to x q ∷ weak l)).1 (between, (meets_far t high low Ne f (pos_nonneg t_pos) n, (has_value, weakly))) in
          e.none s.0 s.1

      positive_off : (p : ℚ) → IsPositive p → p ≡ 0ℚ → ⊥
      positive_off p h d = lt_irrefl (record { gap = subst IsPositive (ring (p ∷ []) (var 0) (var 0 ⊕ minus (int (pos 0))) refl ∙ ap (λ (w : ℚ). w -ℚ 0ℚ) d) h })

      by : Sign (sum f) → sum f ≡ 0ℚ
      by (is_zero z) = z
      by (is_pos h) = absurd (not_off (positive_off (sum f) h))
      by (is_neg h) = absurd (not_off (λ d. positive_off (neg_ℚ (sum f)) h (ap neg_ℚ d ∙ ring ([]) (minus (int (pos 0))) (int (pos 0)) refl)))

      sum_zero : sum f ≡ 0ℚ
      sum_zero = by (sign (sum f))

-- ---- the value works

pub works_inside : (l : List Constraint) (x : ℕ) (q : ℚ) → Inside l x q
    → ((f : Linear) → Has (not_zero f) l → Solvable (not_zero f ∷ equal_to x q ∷ weak l)) → Solvable (equal_to x q ∷ l)
works_inside l x q i unequal =
    met_together (equal_to x q ∷ l) (weak_there l x i.low i.high i.low_solves i.high_solves q i.less i.more)
    (λ f h. elim h [ inl e ↦ no_strict f e | inr k ↦ strict_there l x i.low i.high i.low_solves i.high_solves q i.less i.more f k ])
    (λ f h. elim h [ inl e ↦ no_unequal f e | inr k ↦ unequal f k ])
  where
    no_strict : (f : Linear) → above_zero f ≡ equal_to x q → Solvable (above_zero f ∷ equal_to x q ∷ weak l)
    no_strict f e = let d : Gt ≡ Eq = ap (λ (c : Constraint). c.relation) e in cc

    no_unequal : (f : Linear) → not_zero f ≡ equal_to x q → Solvable (not_zero f ∷ equal_to x q ∷ weak l)
    no_unequal f e = let d : Ne ≡ Eq = ap (λ (c : Constraint). c.relation) e in cc

-- ---- one value at most is excluded

vanishes : (k p : ℚ) → IsPositive p → k *ℚ p ≡ 0ℚ → k ≡ 0ℚ
vanishes k p h e =
    ring (k ∷ []) (var 0) (var 0 ⊗ int (pos 1)) refl ∙ ap (λ (w : ℚ). k *ℚ w) (sym (inv_mul h))
    ∙ ring (k ∷ p ∷ inv_ℚ p ∷ []) (var 0 ⊗ (var 1 ⊗ var 2)) ((var 0 ⊗ var 1) ⊗ var 2) refl
    ∙ ap (λ (w : ℚ). w *ℚ inv_ℚ p) e ∙ ring (inv_ℚ p ∷ []) (int (pos 0) ⊗ var 0) (int (pos 0)) refl

module _ (l : List Constraint) (x : ℕ) (f : Linear) (among : Has (not_zero f) l) where
  -- the greater value is not excluded where the lesser one is
  pub never_two : (q r : ℚ) → q <ℚ r → Inside l x q → Inside l x r → Excludes l x f q → Excludes l x f r → ⊥
  never_two q r less i j e g = member_satisfied j.high l (not_zero f) among j.high_solves high_zero
    where
      a : ℚ
      a = i.low x

      at_first : (q -ℚ i.low x) *ℚ value_at j.high f +ℚ (j.high x -ℚ q) *ℚ value_at i.low f ≡ 0ℚ
      at_first = zero_there l x i.low j.high i.low_solves j.high_solves q i.less (lt_trans less j.more) f e

      at_second : (r -ℚ i.low x) *ℚ value_at j.high f +ℚ (j.high x -ℚ r) *ℚ value_at i.low f ≡ 0ℚ
      at_second = zero_there l x i.low j.high i.low_solves j.high_solves r (lt_trans i.less less) j.more f g

      width : IsPositive ((r -ℚ q) *ℚ (j.high x -ℚ i.low x))
      width = pos_mul less.gap (lt_trans i.less (lt_trans less j.more)).gap

      product : value_at j.high f *ℚ ((r -ℚ q) *ℚ (j.high x -ℚ i.low x)) ≡ 0ℚ
      product =
          ring (q ∷ r ∷ i.low x ∷ j.high x ∷ value_at j.high f ∷ value_at i.low f ∷ [])
          (var 4 ⊗ ((var 1 ⊕ minus (var 0)) ⊗ (var 3 ⊕ minus (var 2))))
          ((var 3 ⊕ minus (var 0)) ⊗ ((var 1 ⊕ minus (var 2)) ⊗ var 4 ⊕ (var 3 ⊕ minus (var 1)) ⊗ var 5)
          ⊕ minus ((var 3 ⊕ minus (var 1)) ⊗ ((var 0 ⊕ minus (var 2)) ⊗ var 4 ⊕ (var 3 ⊕ minus (var 0)) ⊗ var 5))) refl
          ∙ ap₂ (λ (y z : ℚ). (j.high x -ℚ q) *ℚ y -ℚ (j.high x -ℚ r) *ℚ z) at_second at_first
          ∙ ring (q ∷ r ∷ j.high x ∷ []) ((var 2 ⊕ minus (var 0)) ⊗ int (pos 0) ⊕ minus ((var 2 ⊕ minus (var 1)) ⊗ int (pos 0))) (int (pos 0)) refl

      high_zero : value_at j.high f ≡ 0ℚ
      high_zero = vanishes (value_at j.high f) ((r -ℚ q) *ℚ (j.high x -ℚ i.low x)) width product
