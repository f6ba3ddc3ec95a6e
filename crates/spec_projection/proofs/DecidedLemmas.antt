-- Whether a list of constraints has a solution is decided by eliminating its variables one after the other.
use Rattle.std.proofs.Common.{◌≡◌, ◌⊎◌, inl, inr, ℕ, List, [], ◌∷◌, ◌++◌, Bool, true, false, arith, pos, refl, ap, sym, subst, ◌∙◌}
use Rattle.std.specs.Prelude.{map, nat_eq}
use Rattle.spec_numbers.specs.Rational.{ℚ, 0ℚ, IsNotNegative, neg_ℚ}
use Rattle.spec_numbers.specs.Sums.{Monomial, Mentions}
use Rattle.spec_numbers.proofs.Ring.{var, int, minus}
use Rattle.spec_numbers.proofs.RationalLemmas.{ring}
use Rattle.spec_numbers.proofs.Sign.{Sign, is_zero, is_pos, is_neg, sign, nonneg_zero, not_both}
use Rattle.spec_linear.specs.declared.Relation.{Relation}
use Rattle.spec_linear.specs.declared.Relation.TheVariants.{Eq, Gt, Ge, Ne}
use Rattle.spec_linear.specs.Form.{Linear, value_at, negated_form, changed_at}
use Rattle.spec_linear.specs.Solution.{Constraint, Meets, HoldsAt, Satisfies, Satisfiable, Has}
use Rattle.spec_linear.proofs.Values.{value_at-negated_form}
use Rattle.spec_numbers.proofs.Tests.{nat_eq-same}
use Rattle.spec_linear.proofs.Denominators.{satisfies_agrees, has_left, has_right}
use Rattle.spec_linear.specs.Weak.{above_zero, at_least_zero}
use Rattle.spec_linear.proofs.Far.{member_satisfied}
use Rattle.spec_linear.proofs.NoVariable.{number_everywhere}
use Rattle.spec_projection.specs.Elimination.{IsInequality, coefficient, lower_rows, upper_rows, other_rows, combinations, eliminated}
use Rattle.spec_projection.specs.Partial.{AreInequalities}
use Rattle.spec_projection.proofs.Members.{satisfies_all, has_either}
use Rattle.spec_projection.proofs.Step.{lower_is, upper_is, other_is, has_pair, from_value, to_value}
use Rattle.spec_projection.proofs.Projected.{changed_to_itself}
use Rattle.spec_projection.proofs.Mentions.{coefficient-eliminated, neither, unmentioned_factor}
use Rattle.spec_projection.proofs.Eliminating.{AreInequalities-eliminated}
use Rattle.spec_projection.proofs.Follows.{one_holds, not_both_hold}

-- some values satisfy the list, or none do
abbrev pub IsDecided : List Constraint → Type 0
IsDecided l = Satisfiable l ⊎ ((a : ℕ → ℚ) → Satisfies a l → ⊥)

-- ---- at given values

pub holds_or_not : (a : ℕ → ℚ) (c : Constraint) → HoldsAt a c ⊎ (HoldsAt a c → ⊥)
holds_or_not a c = elim (one_holds c.relation a c.form) [
  | inl h ↦ inl h
  | inr k ↦ inr (λ h. not_both_hold c.relation a c.form h k)
]

satisfied_or_not : (a : ℕ → ℚ) (l : List Constraint) → Satisfies a l ⊎ (Satisfies a l → ⊥)
satisfied_or_not a [] = inl tt
satisfied_or_not a (c ∷ l) = go (holds_or_not a c) (satisfied_or_not a l)
  where
    go : HoldsAt a c ⊎ (HoldsAt a c → ⊥) → Satisfies a l ⊎ (Satisfies a l → ⊥) → Satisfies a (c ∷ l) ⊎ (Satisfies a (c ∷ l) → ⊥)
    go (inl h) (inl s) = inl (h, s)
    go (inl h) (inr n) = inr (λ s. n s.1)
    go (inr n) s = inr (λ t. n t.0)

-- ---- inequalities

pub nat_dec : (x y : ℕ) → (x ≡ y) ⊎ (x ≡ y → ⊥)
nat_dec x y = go (nat_eq x y) refl
  where
    go : (b : Bool) → nat_eq x y ≡ b → (x ≡ y) ⊎ (x ≡ y → ⊥)
    go true e = inl (nat_eq-same x y e)
    go false e = inr (λ h. grind arith)

-- the coefficients of all other variables are zero
abbrev Covers : List ℕ → List Constraint → Type 0
Covers xs l = (y : ℕ) → (Has y xs → ⊥) → (c : Constraint) → Has c l → coefficient y c ≡ 0ℚ

covers_eliminated : (x : ℕ) (xs : List ℕ) (l : List Constraint) → Covers (x ∷ xs) l → Covers xs (eliminated x l)
covers_eliminated x xs l h y n c k = go (has_either c (other_rows x l) (combinations x (lower_rows x l) (upper_rows x l)) k)
  where
    same : y ≡ x → coefficient y c ≡ 0ℚ
    same e = subst (λ z. coefficient z c ≡ 0ℚ) (sym e) (coefficient-eliminated x l c k)

    other : (d : Constraint) → Has d l → (y ≡ x → ⊥) → coefficient y d ≡ 0ℚ
    other d i m = h y (λ j. elim j [ inl e ↦ m e | inr t ↦ n t ]) d i

    by : (y ≡ x) ⊎ (y ≡ x → ⊥) → ((y ≡ x → ⊥) → coefficient y c ≡ 0ℚ) → coefficient y c ≡ 0ℚ
    by (inl e) f = same e
    by (inr m) f = f m

    go : Has c (other_rows x l) ⊎ Has c (combinations x (lower_rows x l) (upper_rows x l)) → coefficient y c ≡ 0ℚ
    go (inl i) = by (nat_dec y x) (other c (other_is x l c i).0)
    go (inr i) = by (nat_dec y x) (λ m.
        let p = has_pair x c (lower_rows x l) (upper_rows x l) i in
        ap (coefficient y) p.is ∙ neither x y p.lower p.upper (other p.lower (lower_is x l p.lower p.of_lowers).0 m) (other p.upper (upper_is x l p.upper p.of_uppers).0 m))

no_variables : (l : List Constraint) → Covers [] l → (a b : ℕ → ℚ) → Satisfies a l → Satisfies b l
no_variables l h a b s = satisfies_all b l (λ c i.
    let number : (v : ℕ → ℚ) → value_at v c.form ≡ c.form.constant = number_everywhere c.form (λ y. h y (λ k. k) c i) in
    subst (Meets c.relation) (number a ∙ sym (number b)) (member_satisfied a l c i s))

decided_inequalities : (xs : List ℕ) (l : List Constraint) → AreInequalities l → Covers xs l → IsDecided l
decided_inequalities [] l i h = elim (satisfied_or_not (λ x. 0ℚ) l) [
  | inl s ↦ inl ((λ x. 0ℚ), s)
  | inr n ↦ inr (λ a s. n (no_variables l h a (λ x. 0ℚ) s))
]
decided_inequalities (x ∷ xs) l i h = elim (decided_inequalities xs (eliminated x l) (AreInequalities-eliminated x l i) (covers_eliminated x xs l h)) [
  | inl s ↦ (let q = to_value x l (λ c k. inl (i c k)) s.0 s.1 in inl (changed_at x q.0 s.0, q.1))
  | inr n ↦ inr (λ a s. n a (from_value x l (λ c k. inl (i c k)) a (a x) (satisfies_agrees a (changed_at x (a x) a) l (λ y m. sym (changed_to_itself a x y)) s)))
]

-- ---- with equations, each as two weak inequalities

abbrev as_inequalities_of : Relation → Linear → List Constraint → List Constraint
as_inequalities_of Eq f l = at_least_zero f ∷ at_least_zero (negated_form f) ∷ l
as_inequalities_of Gt f l = above_zero f ∷ l
as_inequalities_of Ge f l = at_least_zero f ∷ l
as_inequalities_of Ne f l = l

abbrev as_inequalities : List Constraint → List Constraint
as_inequalities [] = []
as_inequalities (c ∷ l) = as_inequalities_of c.relation c.form (as_inequalities l)

are_inequalities : (l : List Constraint) → AreInequalities (as_inequalities l)
are_inequalities [] c h = absurd h
are_inequalities (d ∷ l) c h = by d.relation (are_inequalities l) c h
  where
    by : (r : Relation) → AreInequalities (as_inequalities l) → AreInequalities (as_inequalities_of r d.form (as_inequalities l))
    by Eq i c (inl e) = subst (λ z. IsInequality z.relation) (sym e) tt
    by Eq i c (inr (inl e)) = subst (λ z. IsInequality z.relation) (sym e) tt
    by Eq i c (inr (inr h)) = i c h
    by Gt i c (inl e) = subst (λ z. IsInequality z.relation) (sym e) tt
    by Gt i c (inr h) = i c h
    by Ge i c (inl e) = subst (λ z. IsInequality z.relation) (sym e) tt
    by Ge i c (inr h) = i c h
    by Ne i c h = i c h

zero_nonneg : (q : ℚ) → q ≡ 0ℚ → IsNotNegative q
zero_nonneg q e = subst IsNotNegative (sym e) nonneg_zero

both_nonneg : (q : ℚ) → IsNotNegative q → IsNotNegative (neg_ℚ q) → q ≡ 0ℚ
both_nonneg q h k = go (sign q)
  where
    go : Sign q → q ≡ 0ℚ
    go (is_zero e) = e
    go (is_pos p) = absurd (not_both p k)
    go (is_neg p) = absurd (not_both p (subst IsNotNegative (ring (q ∷ []) (var 0) (minus (minus (var 0))) refl) h))

module _ (a : ℕ → ℚ) where
  to_inequalities : (l : List Constraint) → Satisfies a l → Satisfies a (as_inequalities l)
  to_inequalities [] s = tt
  to_inequalities (c ∷ l) s = by c.relation s.0 (to_inequalities l s.1)
    where
      by : (r : Relation) → Meets r (value_at a c.form) → Satisfies a (as_inequalities l) → Satisfies a (as_inequalities_of r c.form (as_inequalities l))
      by Eq h t = (
        zero_nonneg (value_at a c.form) h,
        (subst IsNotNegative (sym (value_at-negated_form a c.form)) (zero_nonneg (neg_ℚ (value_at a c.form)) (ap neg_ℚ h ∙ ring [] (minus (int (pos 0))) (int (pos 0)) refl)), t),
      )
      by Gt h t = (h, t)
      by Ge h t = (h, t)
      by Ne h t = t

  from_inequalities : (l : List Constraint) → ((c : Constraint) → Has c l → c.relation ≡ Ne → ⊥) → Satisfies a (as_inequalities l) → Satisfies a l
  from_inequalities [] n s = tt
  from_inequalities (c ∷ l) n s = by c.relation (n c (inl refl)) s (from_inequalities l (λ d h. n d (inr h)))
    where
      by : (r : Relation) → (r ≡ Ne → ⊥) → Satisfies a (as_inequalities_of r c.form (as_inequalities l)) → (Satisfies a (as_inequalities l) → Satisfies a l) → Meets r (value_at a c.form) × Satisfies a l
      by Eq m t f = (both_nonneg (value_at a c.form) t.0 (subst IsNotNegative (value_at-negated_form a c.form) t.1.0), f t.1.1)
      by Gt m t f = (t.0, f t.1)
      by Ge m t f = (t.0, f t.1)
      by Ne m t f = absurd (m refl)

-- the variables of a list
all_variables : List Constraint → List ℕ
all_variables [] = []
all_variables (c ∷ l) = map (λ m. m.variable) c.form.products ++ all_variables l

covers_all : (l : List Constraint) → Covers (all_variables l) l
unfolding all_variables
covers_all [] y n c h = absurd h
covers_all (d ∷ l) y n c (inl e) =
    ap (coefficient y) e ∙ unmentioned_factor y d.form.products (λ m. n (has_left y (map (λ z. z.variable) d.form.products) (all_variables l) (mentioned y d.form.products m)))
  where
    mentioned : (x : ℕ) (s : List Monomial) → Mentions x s → Has x (map (λ z. z.variable) s)
    mentioned x [] h = h
    mentioned x (m ∷ s) (inl e) = inl e
    mentioned x (m ∷ s) (inr h) = inr (mentioned x s h)
covers_all (d ∷ l) y n c (inr h) = covers_all l y (λ k. n (has_right y (map (λ z. z.variable) d.form.products) (all_variables l) k)) c h

pub decided_ordered : (l : List Constraint) → ((c : Constraint) → Has c l → c.relation ≡ Ne → ⊥) → IsDecided l
decided_ordered l n = elim (decided_inequalities (all_variables (as_inequalities l)) (as_inequalities l) (are_inequalities l) (covers_all (as_inequalities l))) [
  | inl s ↦ inl (s.0, from_inequalities s.0 l n s.1)
  | inr m ↦ inr (λ a s. m a (to_inequalities a l s))
]
