-- Multiples of constraints hold where these do, and a weak row beside a disequation of its form holds strictly.
use Rattle.std.proofs.Common.{◌≡◌, ◌≢◌, ◌↔◌, inl, inr, ℕ, List, [], ◌∷◌, ◌++◌, refl, ap, sym, subst, ◌∙◌}
use Rattle.spec_numbers.specs.Rational.{ℚ, 0ℚ, ◌*ℚ◌, IsPositive}
use Rattle.spec_numbers.proofs.Sign.{product_zero, nonneg_cases, pos_nonneg, not_pos_zero}
use Rattle.spec_linear.specs.declared.Relation.{Relation}
use Rattle.spec_linear.specs.declared.Relation.TheVariants.{Eq, Gt, Ge, Ne}
use Rattle.spec_linear.specs.Form.{Linear, value_at}
use Rattle.spec_linear.specs.Solution.{Constraint, Meets, number, HoldsAt, Satisfies, Entails, Equivalent, Has}
use Rattle.spec_linear.proofs.Points.{meets_same, solves_same, times_zero}
use Rattle.spec_linear.proofs.Lists.{entails_same, solves_append}
use Rattle.spec_linear.specs.Weak.{above_zero, at_least_zero, not_zero}
use Rattle.spec_linear.proofs.Far.{member_satisfied}
use Rattle.spec_projection.specs.Elimination.{IsInequality}
use Rattle.spec_projection.specs.Irredundant.{IsIrredundant}
use Rattle.spec_projection.specs.Strict.{AreMultiples, IsMultiple, AreScaled, no_row, one_row, HasForm, Strengthened, no_more, made_strict, left_alone}
use Rattle.spec_projection.proofs.Members.{satisfies_parts, satisfies_both}

meets_multiple : (r : Relation) (k q : ℚ) → k ≢ 0ℚ → (IsInequality r → IsPositive k) → Meets r (k *ℚ q) ↔ Meets r q
meets_multiple Eq k q n h = ((λ e. product_zero k q n e), (λ e. times_zero k q e))
meets_multiple Gt k q n h = meets_same Gt k q (h tt)
meets_multiple Ge k q n h = meets_same Ge k q (h tt)
meets_multiple Ne k q n h = ((λ e z. e (times_zero k q z)), (λ e z. e (product_zero k q n z)))

pub multiple_holds : (a : ℕ → ℚ) (c d : Constraint) → IsMultiple c d → HoldsAt a d ↔ HoldsAt a c
multiple_holds a c d m =
    let k : ℚ = m.forms.factor in
    let r = meets_multiple c.relation k (value_at a c.form) m.forms.nonzero m.turned in (
      (λ h. r.0 (subst (Meets c.relation) (m.forms.same a) (subst (λ w. Meets w (value_at a d.form)) m.relation h))),
      (λ h. subst (λ w. Meets w (value_at a d.form)) (sym m.relation) (subst (Meets c.relation) (sym (m.forms.same a)) (r.1 h))),
    )

pub scaled_satisfied : (a : ℕ → ℚ) (k l : List Constraint) → AreScaled k l → Satisfies a l ↔ Satisfies a k
scaled_satisfied a _ _ no_row = ((λ s. s), (λ s. s))
scaled_satisfied a _ _ (one_row {c = c} {d = d} {k = k} {l = l} m s) =
    let h = multiple_holds a c d m in
    let r = scaled_satisfied a k l s in
    ((λ t. (h.0 t.0, r.0 t.1)), (λ t. (h.1 t.0, r.1 t.1)))

pub scaled_alike : (k l : List Constraint) → AreScaled k l → Equivalent l k
scaled_alike k l s p =
    let r = scaled_satisfied (number p) k l s in
    ((λ t. (solves_same p k).1 (r.0 ((solves_same p l).0 t))), (λ t. (solves_same p l).1 (r.1 ((solves_same p k).0 t))))

-- a member of the second list, and the others, come from the first
pub record FromScaled (k front behind : List Constraint) (d : Constraint) : Type 0 where
  pub first : List Constraint
  pub last : List Constraint
  pub row : Constraint
  pub parts : k ≡ first ++ row ∷ last
  pub of_first : AreScaled first front
  pub of_last : AreScaled last behind
  pub of_row : IsMultiple row d

pub from_scaled : (k l front behind : List Constraint) (d : Constraint) → AreScaled k l → l ≡ front ++ d ∷ behind → FromScaled k front behind d
from_scaled _ _ [] behind d no_row e = absurd nothing
  where
    nothing : ⊥
    nothing = cc
from_scaled _ _ (z ∷ front) behind d no_row e = absurd nothing
  where
    nothing : ⊥
    nothing = cc
from_scaled _ _ [] behind d (one_row {c = c} {d = b} {k = k} {l = l} m s) e =
    let h : b ≡ d = cc in
    let r : l ≡ behind = cc in
    record { first = []; last = k; row = c; parts = refl; of_first = no_row; of_last = subst (AreScaled k) r s; of_row = subst (IsMultiple c) h m }
from_scaled _ _ (z ∷ front) behind d (one_row {c = c} {d = b} {k = k} {l = l} m s) e =
    let h : b ≡ z = cc in
    let r : l ≡ front ++ d ∷ behind = cc in
    let f = from_scaled k l front behind d s r in
    record { first = c ∷ f.first; last = f.last; row = f.row; parts = ap (λ w. c ∷ w) {y = f.first ++ f.row ∷ f.last} f.parts; of_first = one_row (subst (IsMultiple c) h m) f.of_first; of_last = f.of_last; of_row = f.of_row }

pub scaled_both : (k l m n : List Constraint) → AreScaled k l → AreScaled m n → AreScaled (k ++ m) (l ++ n)
scaled_both _ _ m n no_row t = t
scaled_both _ _ m n (one_row {k = k} {l = l} c s) t = one_row c (scaled_both k l m n s t)

-- multiples of rows of which none follows
pub scaled_irredundant : (k l : List Constraint) → AreScaled k l → IsIrredundant k → IsIrredundant l
scaled_irredundant k l s n front behind d e h =
    let f = from_scaled k l front behind d s e in
    let same : Equivalent (front ++ behind) (f.first ++ f.last) = scaled_alike (f.first ++ f.last) (front ++ behind) (scaled_both f.first front f.last behind f.of_first f.of_last) in
    let row_alike : Equivalent (d ∷ []) (f.row ∷ []) = scaled_alike (f.row ∷ []) (d ∷ []) (one_row f.of_row no_row) in
    n f.first f.last f.row f.parts (λ p t. ((row_alike p).0 (h p ((same p).1 t), tt)).0)

-- ---- beside disequations

pub strong_holds : (a : ℕ → ℚ) (f : Linear) (l : List Constraint) → HasForm f l → Satisfies a l → HoldsAt a (at_least_zero f) → HoldsAt a (above_zero f)
strong_holds a f l h s w = elim (nonneg_cases (value_at a f) w) [
  | inl z ↦ absurd (unequal (h.multiples.same a ∙ times_zero h.multiples.factor (value_at a f) z))
  | inr p ↦ p
]
  where
    unequal : value_at a h.disequation.form ≡ 0ℚ → ⊥
    unequal = subst (λ r. Meets r (value_at a h.disequation.form)) h.relation (member_satisfied a l h.disequation h.among s)

pub strengthened_same : (a : ℕ → ℚ) (ds k l : List Constraint) → Strengthened ds k l → Satisfies a ds → Satisfies a l ↔ Satisfies a k
strengthened_same a ds _ _ no_more s = ((λ t. t), (λ t. t))
strengthened_same a ds _ _ (made_strict {f = f} {k = k} {l = l} h r) s =
    let i = strengthened_same a ds k l r s in
    ((λ t. (pos_nonneg t.0, i.0 t.1)), (λ t. (strong_holds a f ds h s t.0, i.1 t.1)))
strengthened_same a ds _ _ (left_alone {k = k} {l = l} n r) s =
    let i = strengthened_same a ds k l r s in
    ((λ t. (t.0, i.0 t.1)), (λ t. (t.0, i.1 t.1)))

pub strengthened_alike : (ds k l : List Constraint) → Strengthened ds k l → Equivalent (l ++ ds) (k ++ ds)
strengthened_alike ds k l r p =
    let a : ℕ → ℚ = number p in (
      (λ t.
          let q = satisfies_parts a l ds ((solves_same p (l ++ ds)).0 t) in
          (solves_same p (k ++ ds)).1 (satisfies_both a k ds ((strengthened_same a ds k l r q.1).0 q.0) q.1)),
      (λ t.
          let q = satisfies_parts a k ds ((solves_same p (k ++ ds)).0 t) in
          (solves_same p (l ++ ds)).1 (satisfies_both a l ds ((strengthened_same a ds k l r q.1).1 q.0) q.1)),
    )

-- what a row of the second list comes from
pub record Strong (ds k : List Constraint) (d : Constraint) : Type 0 where
  pub row : Constraint
  pub among : Has row k
  pub form : d.form ≡ row.form
  pub inequality : IsInequality row.relation → IsInequality d.relation
  pub strict : d.relation ≡ Ge → HasForm d.form ds → ⊥

pub strengthened_from : (ds k l : List Constraint) → Strengthened ds k l → (d : Constraint) → Has d l → Strong ds k d
strengthened_from ds _ _ no_more d h = absurd h
strengthened_from ds _ _ (made_strict {f = f} {k = k} {l = l} h r) d (inl e) = record {
  row = at_least_zero f;
  among = inl refl;
  form = ap (λ z. z.form) e;
  inequality = λ i. subst (λ z. IsInequality z.relation) (sym e) tt;
  strict = λ w g. differ (ap (λ z. z.relation) (sym e) ∙ w);
}
  where
    differ : Gt ≡ Ge → ⊥
    differ w = cc
strengthened_from ds _ _ (made_strict {k = k} {l = l} h r) d (inr i) =
    let s = strengthened_from ds k l r d i in record { row = s.row; among = inr s.among; form = s.form; inequality = s.inequality; strict = s.strict }
strengthened_from ds _ _ (left_alone {c = c} {k = k} {l = l} n r) d (inl e) = record {
  row = c;
  among = inl refl;
  form = ap (λ z. z.form) e;
  inequality = λ i. subst (λ z. IsInequality z.relation) (sym e) i;
  strict = λ w g. n (ap (λ z. z.relation) (sym e) ∙ w) (subst (λ z. HasForm z.form ds) e g);
}
strengthened_from ds _ _ (left_alone {k = k} {l = l} n r) d (inr i) =
    let s = strengthened_from ds k l r d i in record { row = s.row; among = inr s.among; form = s.form; inequality = s.inequality; strict = s.strict }

-- ---- single rows

pub strict_for_weak : (k l : List Constraint) (f : Linear) → Entails (k ++ at_least_zero f ∷ l) (above_zero f) → Equivalent (k ++ above_zero f ∷ l) (k ++ at_least_zero f ∷ l)
strict_for_weak k l f e p = (
  (λ s. let r = (solves_append p k (above_zero f ∷ l)).0 s in (solves_append p k (at_least_zero f ∷ l)).1 (r.0, (pos_nonneg r.1.0, r.1.1))),
  (λ s. let r = (solves_append p k (at_least_zero f ∷ l)).0 s in (solves_append p k (above_zero f ∷ l)).1 (r.0, (e p s, r.1.1))),
)

-- a strict row entails the disequations of its form
pub strict_is_unequal : (l : List Constraint) (f g : Linear) → AreMultiples f g → Has (above_zero f) l → Entails l (not_zero g)
strict_is_unequal l f g m h = (entails_same l (not_zero g)).1 (λ a s e.
    not_pos_zero (subst IsPositive (product_zero m.factor (value_at a f) m.nonzero (sym (m.same a) ∙ e)) (member_satisfied a l (above_zero f) h s)))
