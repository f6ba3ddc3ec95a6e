-- The least upper bound over a solvable list is that over its weak list; what a list entails.
use Rattle.std.proofs.Common.{◌≡◌, ℕ, List, [], ◌∷◌, pos, refl, ap, sym, subst, ◌∙◌}
use Rattle.spec_numbers.specs.Rational.{ℚ, 0ℚ, neg_ℚ, IsPositive, IsNotNegative, ◌<ℚ◌}
use Rattle.spec_numbers.proofs.Ring.{int, minus}
use Rattle.spec_numbers.proofs.RationalLemmas.{ring}
use Rattle.spec_numbers.proofs.Sign.{pos_nonneg, nonneg_zero, Sign, is_pos, is_neg, sign, not_both}
use Rattle.spec_numbers.proofs.Sign as sign_of
use Rattle.spec_linear.specs.declared.Relation.{Relation}
use Rattle.spec_linear.specs.declared.Relation.TheVariants.{Eq, Gt, Ge, Ne}
use Rattle.spec_linear.specs.Form.{Linear, value_at, constant_form, difference_form}
use Rattle.spec_linear.specs.Solution.{Constraint, number, Meets, Satisfies, Solvable, Unsolvable, Entails, Satisfiable}
use Rattle.spec_linear.proofs.Values.{value_at-negated_form}
use Rattle.spec_linear.proofs.Points.{solves_same}
use Rattle.spec_linear.proofs.Denominators.{solvable_same}
use Rattle.spec_linear.proofs.Lists.{entails_same}
use Rattle.spec_linear.specs.Weak.{above_zero, weak}
use Rattle.spec_linear.proofs.Far.{weak_satisfied}
use Rattle.spec_linear.proofs.Together.{less_is, reached_above}
use Rattle.spec_linear.specs.Extremes.{Exceeds, IsSupremum, IsUnbounded}
use Rattle.spec_linear.specs.Opposite.{opposite_of, opposite}
use Rattle.spec_simplex.specs.Reach.{IsGreatest}
use Rattle.spec_simplex.proofs.Standing.{x0, pos_not_zero}

-- what an assignment exceeds, a point exceeds
exceeds_at : (l : List Constraint) (f : Linear) (r : ℚ) (v : ℕ → ℚ) → Satisfies v l → r <ℚ value_at v f → Exceeds l f r
exceeds_at l f r v s lt =
    let more : Constraint = above_zero (difference_form f (constant_form r)) in
    let p = (solvable_same (more ∷ l)).1 (v, (subst IsPositive (sym (less_is v f r)) lt.gap, s)) in
    (p.0, p.1.1, record { gap = subst IsPositive (less_is (number p.0) f r) ((solves_same p.0 (more ∷ l)).0 p.1).0 })

-- what the weak list exceeds, the list exceeds
exceeds_over : (l : List Constraint) (f : Linear) (r : ℚ) → Solvable l → (v : ℕ → ℚ) → Satisfies v (weak l) → r <ℚ value_at v f → Exceeds l f r
exceeds_over l f r h v s lt = let o = reached_above l f r h v s lt in exceeds_at l f r o.0 o.1 o.2

-- the greatest value over the weak list is the least upper bound over the list
pub greatest_is_supremum : (l : List Constraint) (f : Linear) (q : ℚ) → Solvable l → IsGreatest l f q → IsSupremum l f q
greatest_is_supremum l f q s t = record {
  solvable = s;
  bound = λ p h. t.bound (number p) (weak_satisfied (number p) l ((solves_same p l).0 h));
  least = λ r lt. exceeds_over l f r s t.at t.solves (subst (λ w. r <ℚ w) (sym t.value) lt);
}

-- the weak list's solutions give the form more than any number
abbrev pub Grows : List Constraint → Linear → Type 0
Grows l f = (r : ℚ) → (v : ℕ → ℚ) × Satisfies v (weak l) × (r <ℚ value_at v f)

pub unbounded_over : (l : List Constraint) (f : Linear) → Solvable l → Grows l f → IsUnbounded l f
unbounded_over l f s u = record { solvable = s; more = λ r. let o = u r in exceeds_over l f r s o.0 o.1 o.2 }

-- ---- entailment by the opposite
refused_one : (l : List Constraint) (r : Relation) (f : Linear) → (Satisfiable (opposite_of r f ∷ l) → ⊥) → (v : ℕ → ℚ) → Satisfies v l → Meets r (value_at v f)
refused_one l Eq f h v s = go (sign (value_at v f))
  where
    go : Sign (value_at v f) → value_at v f ≡ 0ℚ
    go (sign_of.is_zero z) = z
    go (is_pos p) = absurd (h (v, ((λ z. pos_not_zero p z), s)))
    go (is_neg p) = absurd (h (v, ((λ z. pos_not_zero p (ap neg_ℚ z ∙ ring [] (minus (int (pos 0))) (int (pos 0)) refl)), s)))
refused_one l Gt f h v s = go (sign (value_at v f))
  where
    low : IsNotNegative (neg_ℚ (value_at v f)) → ⊥
    low k = h (v, (subst IsNotNegative (sym (value_at-negated_form v f)) k, s))

    go : Sign (value_at v f) → IsPositive (value_at v f)
    go (sign_of.is_zero z) = absurd (low (subst IsNotNegative (sym (ap neg_ℚ z ∙ ring [] (minus (int (pos 0))) (int (pos 0)) refl)) nonneg_zero))
    go (is_pos p) = p
    go (is_neg p) = absurd (low (pos_nonneg p))
refused_one l Ge f h v s = go (sign (value_at v f))
  where
    go : Sign (value_at v f) → IsNotNegative (value_at v f)
    go (sign_of.is_zero z) = subst IsNotNegative (sym z) nonneg_zero
    go (is_pos p) = pos_nonneg p
    go (is_neg p) = absurd (h (v, (subst IsPositive (sym (value_at-negated_form v f)) p, s)))
refused_one l Ne f h v s = λ z. h (v, (z, s))

pub entails_if_refused : (l : List Constraint) (c : Constraint) → Unsolvable (opposite c ∷ l) → Entails l c
entails_if_refused l c h = (entails_same l c).1 (λ v s. refused_one l c.relation c.form (λ o. let p = (solvable_same (opposite c ∷ l)).1 o in h p.0 p.1) v s)

taken_one : (l : List Constraint) (r : Relation) (f : Linear) (v : ℕ → ℚ) → Satisfies v (opposite_of r f ∷ l) → Meets r (value_at v f) → ⊥
taken_one l Eq f v s m = s.0 m
taken_one l Gt f v s m = not_both m (subst IsNotNegative (value_at-negated_form v f) s.0)
taken_one l Ge f v s m =
    not_both (subst IsPositive (value_at-negated_form v f) s.0) (subst IsNotNegative (ring (value_at v f ∷ []) x0 (minus (minus x0)) refl) m)
taken_one l Ne f v s m = m s.0

pub not_entailed : (l : List Constraint) (c : Constraint) → Solvable (opposite c ∷ l) → Entails l c → ⊥
not_entailed l c s e = let v = (solvable_same (opposite c ∷ l)).0 s in taken_one l c.relation c.form v.0 v.1 ((entails_same l c).0 e v.0 v.1.1)
