-- A row that bounds a variable from a side from which none of the others does follows from none of them: its opposite
-- bounds the variable from the other side alone.
use Rattle.std.proofs.Common.{◌≡◌, inl, inr, ℕ, List, [], ◌∷◌, pos, refl, ap, sym, subst, ◌∙◌}
use Rattle.spec_numbers.specs.Rational.{ℚ, 0ℚ, neg_ℚ, IsPositive}
use Rattle.spec_numbers.specs.Sums.{unit, factor_of}
use Rattle.spec_numbers.proofs.Ring.{var, int, minus}
use Rattle.spec_numbers.proofs.RationalLemmas.{ring}
use Rattle.spec_numbers.proofs.Sign.{not_pos_zero, not_both, pos_nonneg}
use Rattle.spec_numbers.proofs.Sums.{factor_of-is, sum_at-negated_products}
use Rattle.spec_linear.specs.declared.Relation.{Relation}
use Rattle.spec_linear.specs.declared.Relation.TheVariants.{Eq, Gt, Ge, Ne}
use Rattle.spec_linear.specs.Form.{Linear, negated_form}
use Rattle.spec_linear.specs.Solution.{Constraint, HoldsAt, Satisfies, Solvable, Entails, Has}
use Rattle.spec_linear.proofs.Denominators.{solvable_same}
use Rattle.spec_linear.specs.Opposite.{opposite, opposite_of}
use Rattle.spec_linear.proofs.Far.{member_satisfied}
use Rattle.spec_projection.specs.Elimination.{IsInequality, coefficient, lower_rows, upper_rows, other_rows, combinations, eliminated}
use Rattle.spec_projection.specs.Partial.{AreInequalities}
use Rattle.spec_projection.proofs.Members.{satisfies_all, has_either}
use Rattle.spec_projection.proofs.Step.{Pair, has_pair, lower_is, upper_is, other_is, to_value}
use Rattle.spec_projection.proofs.Follows.{follows_by_opposite}
use Rattle.cq_elimination.specs.declared.apart.Side.{Side}
use Rattle.cq_elimination.specs.declared.apart.Side.TheVariants.{Below, Above}
use Rattle.cq_elimination.specs.ApartSides.{IsOn, NoneBounds, StandsApart}

-- ---- numbers

neg_zero : neg_ℚ 0ℚ ≡ 0ℚ
neg_zero = ring [] (minus (int (pos 0))) (int (pos 0)) refl

neg_neg : (q : ℚ) → neg_ℚ (neg_ℚ q) ≡ q
neg_neg q = ring (q ∷ []) (minus (minus (var 0))) (var 0) refl

pub no_side_of_zero : (side : Side) (q : ℚ) → q ≡ 0ℚ → IsOn side q → ⊥
no_side_of_zero Below q e h = not_pos_zero (subst IsPositive e h)
no_side_of_zero Above q e h = not_pos_zero (subst IsPositive (ap neg_ℚ e ∙ neg_zero) h)

-- the sides of a number and of its negative
not_below_too : (q : ℚ) → IsPositive q → IsPositive (neg_ℚ q) → ⊥
not_below_too q h k = not_both h (pos_nonneg k)

-- ---- the opposite of a row

opposite_coefficient : (x : ℕ) (r : Relation) (f : Linear) → IsInequality r → coefficient x (opposite_of r f) ≡ neg_ℚ (factor_of x f.products)
opposite_coefficient x r f i = by r i
  where
    negated : factor_of x (negated_form f).products ≡ neg_ℚ (factor_of x f.products)
    negated = factor_of-is x (negated_form f).products ∙ sum_at-negated_products (unit x) f.products ∙ ap neg_ℚ (sym (factor_of-is x f.products))

    by : (r : Relation) → IsInequality r → coefficient x (opposite_of r f) ≡ neg_ℚ (factor_of x f.products)
    by Eq i = absurd i
    by Gt i = negated
    by Ge i = negated
    by Ne i = absurd i

opposite_inequality : (r : Relation) (f : Linear) → IsInequality r → IsInequality (opposite_of r f).relation
opposite_inequality Eq f i = absurd i
opposite_inequality Gt f i = tt
opposite_inequality Ge f i = tt
opposite_inequality Ne f i = absurd i

-- ---- the variable eliminated from the others and the opposite leaves others alone

module _ (c : Constraint) (l : List Constraint) (s : StandsApart c l) (i : IsInequality c.relation) (all : AreInequalities l) where
  abbrev x : ℕ
  x = s.variable

  abbrev m : List Constraint
  m = opposite c ∷ l

  turned : coefficient x (opposite c) ≡ neg_ℚ (coefficient x c)
  turned = opposite_coefficient x c.relation c.form i

  not_other : coefficient x (opposite c) ≡ 0ℚ → ⊥
  not_other e = no_side_of_zero s.side (coefficient x c) (sym (neg_neg (coefficient x c)) ∙ ap neg_ℚ (sym turned ∙ e) ∙ neg_zero) s.bounds

  member : (d : Constraint) → Has d m → (coefficient x d ≡ coefficient x (opposite c) → ⊥) → Has d l
  member d (inl e) n = absurd (n (ap (coefficient x) e))
  member d (inr h) n = h

  no_pair : (side : Side) → IsOn side (coefficient x c) → NoneBounds side x l → (lower upper : Constraint) → Has lower m → Has upper m
      → IsPositive (coefficient x lower) → IsPositive (neg_ℚ (coefficient x upper)) → ⊥
  no_pair Below b none lower upper h k p n =
      none lower (member lower h (λ e. not_below_too (coefficient x c) b (subst IsPositive (e ∙ turned) p))) p
  no_pair Above b none lower upper h k p n =
      none upper (member upper k (λ e. not_below_too (coefficient x c) (subst IsPositive (ap neg_ℚ (e ∙ turned) ∙ neg_neg (coefficient x c)) n) b)) n

  left_over : (a : ℕ → ℚ) → Satisfies a l → Satisfies a (eliminated x m)
  left_over a h = satisfies_all a (eliminated x m) each
    where
      of_pair : (e : Constraint) → Pair x e (lower_rows x m) (upper_rows x m) → HoldsAt a e
      of_pair e p =
          let lower = lower_is x m p.lower p.of_lowers in
          let upper = upper_is x m p.upper p.of_uppers in
          absurd (no_pair s.side s.bounds s.alone p.lower p.upper lower.0 upper.0 lower.1 upper.1)

      each : (e : Constraint) → Has e (eliminated x m) → HoldsAt a e
      each e k = elim (has_either e (other_rows x m) (combinations x (lower_rows x m) (upper_rows x m)) k) [
        | inl o ↦
            let other = other_is x m e o in
            member_satisfied a l e (member e other.0 (λ w. not_other (sym w ∙ other.1))) h
        | inr p ↦ of_pair e (has_pair x e (lower_rows x m) (upper_rows x m) p)
      ]

  inequalities : AreInequalities m
  inequalities d (inl e) = subst (λ (w : Constraint). IsInequality w.relation) (sym e) (opposite_inequality c.relation c.form i)
  inequalities d (inr h) = all d h

  pub follows_not : Solvable l → Entails l c → ⊥
  follows_not w e =
      let a = (solvable_same l).0 w in
      let b = to_value x m (λ d h. inl (inequalities d h)) a.0 (left_over a.0 a.1) in
      let p = (solvable_same m).1 (_, b.1) in
      (follows_by_opposite l c).0 e p.0 p.1
