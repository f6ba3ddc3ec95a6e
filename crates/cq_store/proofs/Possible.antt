-- Whether a constraint can join, by what its form is at the weak solutions.
use Rattle.std.proofs.Common.{◌≡◌, ℕ, List, [], ◌∷◌, ◌++◌, Bool, true, false, inl, inr, pos, refl, ap, subst, ◌∙◌}
use Rattle.std.proofs.Math.Bool.{not}
use Rattle.std.specs.Prelude.{MatchBool}
use Rattle.spec_numbers.specs.Rational.{ℚ, 0ℚ, neg_ℚ, ◌≤ℚ◌, ◌<ℚ◌}
use Rattle.spec_numbers.proofs.Order.{lt_irrefl, lt_trans, lt_le_trans, lt_le_false, le_trans, pos_to_lt, nonneg_to_le}
use Rattle.spec_numbers.proofs.Ring.{int, minus}
use Rattle.spec_numbers.proofs.RationalLemmas.{ring}
use Rattle.spec_linear.specs.declared.Relation.{Relation}
use Rattle.spec_linear.specs.declared.Relation.TheVariants.{Eq, Gt, Ge, Ne}
use Rattle.spec_linear.specs.Form.{value_at, negated_form}
use Rattle.spec_linear.specs.Solution.{Constraint, Meets, Satisfies, Unsolvable, number}
use Rattle.spec_linear.proofs.Lists.{solves_append}
use Rattle.spec_linear.proofs.Points.{holds_same, solves_same}
use Rattle.spec_linear.proofs.Values.{value_at-negated_form}
use Rattle.spec_linear.specs.Weak.{weak}
use Rattle.spec_linear.proofs.Far.{weak_satisfied}
use Rattle.spec_projection.specs.Elimination.{IsInequality}
use Rattle.spec_simplex.specs.Reach.{IsGreatest}
use Rattle.cq_tableau.specs.Refuted.{IsTooSmall}
use Rattle.cq_store.specs.Equated.{StaysBelow}

-- where no solution of the weak list meets the constraint it can't join
none_joins : (told : List Constraint) (c : Constraint) → ((v : ℕ → ℚ) → Satisfies v (weak told) → Meets c.relation (value_at v c.form) → ⊥) → Unsolvable (told ++ c ∷ [])
none_joins told c h p s =
    let t = (solves_append p told (c ∷ [])).0 s in
    h (number p) (weak_satisfied (number p) told ((solves_same p told).0 t.0)) ((holds_same p c).0 t.1.0)

-- ---- an inequality whose greatest value is too small
too_small : (r : Relation) → IsInequality r → (x v : ℚ) → x ≤ℚ v → IsTooSmall r v → Meets r x → ⊥
too_small Eq i x v l s m = absurd i
too_small Ne i x v l s m = absurd i
too_small Gt i x v l (inl b) m = lt_irrefl (lt_trans (lt_le_trans (pos_to_lt m) l) b)
too_small Gt i x v l (inr e) m = lt_irrefl (subst (λ y. 0ℚ <ℚ y) e.0 (lt_le_trans (pos_to_lt m) l))
too_small Ge i x v l (inl b) m = lt_le_false b (le_trans (nonneg_to_le m) l)
too_small Ge i x v l (inr e) m = let g : Ge ≡ Gt = e.1 in cc

pub too_small_never : (told : List Constraint) (c : Constraint) → IsInequality c.relation → (v : ℚ) → IsGreatest told c.form v → IsTooSmall c.relation v
    → Unsolvable (told ++ c ∷ [])
too_small_never told c i v g small = none_joins told c (λ x w m. too_small c.relation i (value_at x c.form) v (g.bound x w) small m)

-- ---- a disequation whose form is zero
pub zero_never : (told : List Constraint) (c : Constraint) → c.relation ≡ Ne → ((v : ℕ → ℚ) → Satisfies v (weak (told ++ c ∷ [])) → value_at v c.form ≡ 0ℚ)
    → Unsolvable (told ++ c ∷ [])
zero_never told c i z p s =
    let t = (solves_append p told (c ∷ [])).0 s in
    subst (λ r. Meets r (value_at (number p) c.form)) i ((holds_same p c).0 t.1.0)
    (z (number p) (weak_satisfied (number p) (told ++ c ∷ []) ((solves_same p (told ++ c ∷ [])).0 s)))

-- ---- an equation whose form is below zero, or above
pub below_never : (told : List Constraint) (c : Constraint) → c.relation ≡ Eq → StaysBelow told c.form → Unsolvable (told ++ c ∷ [])
below_never told c i h = none_joins told c (λ v w m.
    lt_le_false h.below (subst (λ x. x ≤ℚ h.value) (subst (λ r. Meets r (value_at v c.form)) i m) (h.greatest.bound v w)))

pub above_never : (told : List Constraint) (c : Constraint) → c.relation ≡ Eq → StaysBelow told (negated_form c.form) → Unsolvable (told ++ c ∷ [])
above_never told c i h = none_joins told c (λ v w m.
    let e : value_at v (negated_form c.form) ≡ 0ℚ =
    value_at-negated_form v c.form ∙ ap neg_ℚ (subst (λ r. Meets r (value_at v c.form)) i m) ∙ ring [] (minus (int (pos 0))) (int (pos 0)) refl in
    lt_le_false h.below (subst (λ x. x ≤ℚ h.value) e (h.greatest.bound v w)))

-- ---- a test turned over
pub turned_over : (b : Bool) {A B S U : Type 0} → MatchBool b A B → (A → U) → (B → S) → MatchBool (not b) S U
turned_over true m u s = u m
turned_over false m u s = s m
