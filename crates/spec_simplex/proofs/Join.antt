-- A list that grows by one constraint stays as it is kept.
use Rattle.std.proofs.Common.{◌≡◌, ℕ, List, [], ◌∷◌, inl, inr, pos, refl, ap, sym, subst, ◌∙◌}
use Rattle.spec_numbers.specs.Rational.{ℚ, 0ℚ, 1ℚ, ◌-ℚ◌, ◌*ℚ◌, neg_ℚ, inv_ℚ, IsPositive, IsNotNegative}
use Rattle.spec_numbers.proofs.Ring.{int, ◌⊕◌, ◌⊗◌, minus}
use Rattle.spec_numbers.proofs.RationalLemmas.{ring}
use Rattle.spec_numbers.proofs.Sign.{pos_add, pos_mul, pos_nonneg, Sign, is_pos, is_neg, sign, inv_mul, inv_pos}
use Rattle.spec_numbers.proofs.Sign as sign_of
use Rattle.spec_numbers.proofs.Order.{le_refl}
use Rattle.spec_linear.specs.declared.Relation.{Relation}
use Rattle.spec_linear.specs.declared.Relation.TheVariants.{Eq, Gt, Ge, Ne}
use Rattle.spec_linear.specs.Form.{Linear, value_at, negated_form}
use Rattle.spec_linear.specs.Solution.{Constraint, Satisfies, Has, equal_zero, Satisfiable}
use Rattle.spec_linear.proofs.Values.{value_at-negated_form}
use Rattle.spec_linear.specs.Weak.{above_zero, at_least_zero, not_zero, weak}
use Rattle.spec_linear.proofs.Eventually.{Eventually, both, from_zero, rises}
use Rattle.spec_linear.proofs.Far.{Weakly, weak_member, far, meets_far, weak_far}
use Rattle.spec_simplex.specs.Reach.{Rises, Moves, NeverNegative, Stands, Kept, Cut, Again}
use Rattle.spec_simplex.proofs.Standing.{x0, x1, x2, positive_far}

-- where the new row rises, whatever rose still rises
pub no_new_zero : (l : List Constraint) (f g : Linear) → NeverNegative l g → Rises l f → Rises l g → Rises (at_least_zero f ∷ l) g
no_new_zero l f g k rf rg =
    let z : Eventually (λ t. IsNotNegative t) = from_zero (λ t n. n) in
    let e = both z (rises (value_at rf.0 f) (value_at rg.0 f) rf.1.0) in
    let h = e.holds e.from (le_refl e.from) in (
      far e.from rf.0 rg.0,
      (
        positive_far e.from rf.0 rg.0 g h.0 (k rf.0 rf.1.1) rg.1.0,
        (meets_far e.from rf.0 rg.0 Ge f h.0 (pos_nonneg h.1), weak_far e.from rf.0 rg.0 l h.0 rf.1.1 rg.1.1),
      ),
    )

pub rises_itself : (l : List Constraint) (f : Linear) → Rises l f → Rises (at_least_zero f ∷ l) f
rises_itself l f r = (r.0, (r.1.0, (pos_nonneg r.1.0, r.1.1)))

-- ---- an inequality that rises
module _ (A : (ℕ → ℚ) → Type 0) (l : List Constraint) (f : Linear) where
  above_one : (r : Relation) (g : Linear) → ((v : ℕ → ℚ) → Satisfies v (weak l) → Weakly r (value_at v g)) → Rises l f → Stands A l r g →
      Stands A (at_least_zero f ∷ l) r g
  above_one Eq g k h s = s
  above_one Gt g k h s = no_new_zero l f g k h s
  above_one Ge g k h (inl s) = inl s
  above_one Ge g k h (inr s) = inr (no_new_zero l f g k h s)
  above_one Ne g k h s = s

  above_each : Kept A l → Rises l f → (c : Constraint) → Has c l → Stands A (at_least_zero f ∷ l) c.relation c.form
  above_each k h c m = above_one c.relation c.form (λ v s. weak_member v l c m s) h (k.stands c m)

  pub keep_weak : Kept A l → Rises l f → Kept A (at_least_zero f ∷ l)
  keep_weak k h = record {
    start = (h.0, (pos_nonneg h.1.0, h.1.1));
    inside = λ v s. k.inside v s.1;
    stands = go;
  }
    where
      go : (c : Constraint) → Has c (at_least_zero f ∷ l) → Stands A (at_least_zero f ∷ l) c.relation c.form
      go c (inl e) = subst (λ d. Stands A (at_least_zero f ∷ l) d.relation d.form) (sym e) (inr (rises_itself l f h))
      go c (inr m) = above_each k h c m

  pub keep_strict : Kept A l → Rises l f → Kept A (above_zero f ∷ l)
  keep_strict k h = record {
    start = (h.0, (pos_nonneg h.1.0, h.1.1));
    inside = λ v s. k.inside v s.1;
    stands = go;
  }
    where
      go : (c : Constraint) → Has c (above_zero f ∷ l) → Stands A (above_zero f ∷ l) c.relation c.form
      go c (inl e) = subst (λ d. Stands A (above_zero f ∷ l) d.relation d.form) (sym e) (rises_itself l f h)
      go c (inr m) = above_each k h c m

  -- ---- a disequation that moves
  ne_one : (r : Relation) (g : Linear) → Stands A l r g → Stands A (not_zero f ∷ l) r g
  ne_one Eq g s = s
  ne_one Gt g s = s
  ne_one Ge g s = s
  ne_one Ne g s = s

  pub keep_apart : Kept A l → Moves A f → Kept A (not_zero f ∷ l)
  keep_apart k h = record { start = k.start; inside = k.inside; stands = go }
    where
      go : (c : Constraint) → Has c (not_zero f ∷ l) → Stands A (not_zero f ∷ l) c.relation c.form
      go c (inl e) = subst (λ d. Stands A (not_zero f ∷ l) d.relation d.form) (sym e) h
      go c (inr m) = ne_one c.relation c.form (k.stands c m)

-- ---- an equation between a rise and a fall
-- the point between low and high where f is zero
module _ (l : List Constraint) (f : Linear) (low high : ℕ → ℚ) (below : IsPositive (neg_ℚ (value_at low f))) (over : IsPositive (value_at high f))
    (a : Satisfies low (weak l)) (b : Satisfies high (weak l)) where
  share : ℚ
  share = value_at high f *ℚ inv_ℚ (neg_ℚ (value_at low f))

  share_positive : IsPositive share
  unfolding share
  share_positive = pos_mul over (inv_pos below)

  meet : ℕ → ℚ
  meet = far share low high

  meet_zero : value_at meet f ≡ 0ℚ
  unfolding meet share
  meet_zero =
      meets_far share low high Eq f (pos_nonneg share_positive)
      (ring (value_at low f ∷ value_at high f ∷ inv_ℚ (neg_ℚ (value_at low f)) ∷ []) ((x1 ⊗ x2) ⊗ x0 ⊕ x1) (x1 ⊗ (int (pos 1) ⊕ minus (minus x0 ⊗ x2))) refl
      ∙ ap (λ x. value_at high f *ℚ (1ℚ -ℚ x)) (inv_mul below)
      ∙ ring (value_at high f ∷ []) (x0 ⊗ (int (pos 1) ⊕ minus (int (pos 1)))) (int (pos 0)) refl)

  meet_weak : Satisfies meet (weak l)
  unfolding meet
  meet_weak = weak_far share low high l (pos_nonneg share_positive) a b

  meet_high : (g : Linear) → IsNotNegative (value_at low g) → IsPositive (value_at high g) → IsPositive (value_at meet g)
  unfolding meet
  meet_high g h k = positive_far share low high g (pos_nonneg share_positive) h k

  meet_low : (g : Linear) → IsPositive (value_at low g) → IsNotNegative (value_at high g) → IsPositive (value_at meet g)
  unfolding meet
  meet_low g h k = meets_far share low high Gt g (pos_nonneg share_positive) (pos_add (pos_mul share_positive h) k)

fallen : (f : Linear) (v : ℕ → ℚ) → IsPositive (value_at v (negated_form f)) → IsPositive (neg_ℚ (value_at v f))
fallen f v h = subst IsPositive (value_at-negated_form v f) h

-- where f rises and falls, whatever rose still rises where f is zero
pub no_new_zero_between : (l : List Constraint) (f g : Linear) → NeverNegative l g → Rises l f → Rises l (negated_form f) → Rises l g →
    Rises (equal_zero f ∷ l) g
no_new_zero_between l f g k up down rg = go (sign (value_at rg.0 f))
  where
    go : Sign (value_at rg.0 f) → Rises (equal_zero f ∷ l) g
    go (sign_of.is_zero z) = (rg.0, (rg.1.0, (z, rg.1.1)))
    go (is_pos h) =
        let low = fallen f down.0 down.1.0 in (
          meet l f down.0 rg.0 low h down.1.1 rg.1.1,
          (
            meet_high l f down.0 rg.0 low h down.1.1 rg.1.1 g (k down.0 down.1.1) rg.1.0,
            (meet_zero l f down.0 rg.0 low h down.1.1 rg.1.1, meet_weak l f down.0 rg.0 low h down.1.1 rg.1.1),
          ),
        )
    go (is_neg h) = (
      meet l f rg.0 up.0 h up.1.0 rg.1.1 up.1.1,
      (
        meet_low l f rg.0 up.0 h up.1.0 rg.1.1 up.1.1 g rg.1.0 (k up.0 up.1.1),
        (meet_zero l f rg.0 up.0 h up.1.0 rg.1.1 up.1.1, meet_weak l f rg.0 up.0 h up.1.0 rg.1.1 up.1.1),
      ),
    )

pub start_between : (l : List Constraint) (f : Linear) → Rises l f → Rises l (negated_form f) → Satisfiable (equal_zero f ∷ weak l)
start_between l f up down =
    let low = fallen f down.0 down.1.0 in (
      meet l f down.0 up.0 low up.1.0 down.1.1 up.1.1,
      (meet_zero l f down.0 up.0 low up.1.0 down.1.1 up.1.1, meet_weak l f down.0 up.0 low up.1.0 down.1.1 up.1.1),
    )

module _ (A : (ℕ → ℚ) → Type 0) (l : List Constraint) (f : Linear) where
  between_one : (r : Relation) (g : Linear) → ((v : ℕ → ℚ) → Satisfies v (weak l) → Weakly r (value_at v g)) → Rises l f → Rises l (negated_form f) →
      (r ≡ Ne → Moves (Cut A f) g) → Stands A l r g → Stands (Cut A f) (equal_zero f ∷ l) r g
  between_one Eq g k up down n s = λ v a. s v a.0
  between_one Gt g k up down n s = no_new_zero_between l f g k up down s
  between_one Ge g k up down n (inl s) = inl (λ v a. s v a.0)
  between_one Ge g k up down n (inr s) = inr (no_new_zero_between l f g k up down s)
  between_one Ne g k up down n s = n refl

  pub keep_zero : Kept A l → Rises l f → Rises l (negated_form f) → ((c : Constraint) → Has c l → c.relation ≡ Ne → Moves (Cut A f) c.form) →
      Kept (Cut A f) (equal_zero f ∷ l)
  keep_zero k up down n = record {
    start = start_between l f up down;
    inside = λ v s. (k.inside v s.1, s.0);
    stands = go;
  }
    where
      go : (c : Constraint) → Has c (equal_zero f ∷ l) → Stands (Cut A f) (equal_zero f ∷ l) c.relation c.form
      go c (inl e) = subst (λ d. Stands (Cut A f) (equal_zero f ∷ l) d.relation d.form) (sym e) (λ v a. a.1)
      go c (inr m) = between_one c.relation c.form (λ v s. weak_member v l c m s) up down (n c m) (k.stands c m)

-- ---- fewer solutions, and a smaller set that holds them
module _ (A B : (ℕ → ℚ) → Type 0) (l : List Constraint) (c : Constraint) where
  again_one : (r : Relation) (g : Linear) → ((v : ℕ → ℚ) → B v → A v) → Stands A l r g → Again B (c ∷ l) r g → Stands B (c ∷ l) r g
  again_one Eq g h s a = λ v b. s v (h v b)
  again_one Gt g h s a = a
  again_one Ge g h s a = a
  again_one Ne g h s a = a

  pub again_each : ((v : ℕ → ℚ) → B v → A v) → ((d : Constraint) → Has d l → Stands A l d.relation d.form) → Stands B (c ∷ l) c.relation c.form →
      ((d : Constraint) → Has d l → Again B (c ∷ l) d.relation d.form) → (d : Constraint) → Has d (c ∷ l) → Stands B (c ∷ l) d.relation d.form
  again_each h k s a d (inl e) = subst (λ x. Stands B (c ∷ l) x.relation x.form) (sym e) s
  again_each h k s a d (inr m) = again_one d.relation d.form h (k d m) (a d m)
