-- Constraints that are met one by one with the weak list are met together, and what is reached on the weak list is reached.
use Rattle.std.proofs.Common.{◌≡◌, inl, inr, ℕ, List, [], ◌∷◌, refl, ap, sym, subst, ◌∙◌}
use Rattle.spec_numbers.specs.Rational.{ℚ, ◌-ℚ◌, IsPositive, ◌<ℚ◌}
use Rattle.spec_numbers.proofs.Order.{le_refl}
use Rattle.spec_linear.specs.declared.Relation.{Relation}
use Rattle.spec_linear.specs.declared.Relation.TheVariants.{Eq, Gt, Ge, Ne}
use Rattle.spec_linear.specs.Form.{Linear, value_at, constant_form, difference_form}
use Rattle.spec_linear.specs.Solution.{Constraint, Meets, Point, number, Solves, Solvable, Satisfies, Has}
use Rattle.spec_linear.proofs.Values.{value_at-constant_form, value_at-difference_form}
use Rattle.spec_linear.proofs.Points.{solves_same}
use Rattle.spec_linear.proofs.Denominators.{solvable_same}
use Rattle.spec_linear.specs.Weak.{above_zero, not_zero, weak}
use Rattle.spec_linear.proofs.Eventually.{both, rises}
use Rattle.spec_linear.proofs.Far.{weak_satisfied, weak_member, member_satisfied, Carries, far, meets_far, weak_far, all_far}

module _ (l : List Constraint) (start : (a : ℕ → ℚ) × Satisfies a (weak l))
    (strict : (f : Linear) → Has (above_zero f) l → (a : ℕ → ℚ) × Satisfies a (above_zero f ∷ weak l))
    (apart : (f : Linear) → Has (not_zero f) l → (a : ℕ → ℚ) × Satisfies a (not_zero f ∷ weak l)) where
  alone : (r : Relation) (f : Linear) → Has (record { relation = r; form = f }) l → (a : ℕ → ℚ) × Meets r (value_at a f) × Satisfies a (weak l)
  alone Eq f h = (start.0, weak_member start.0 l (record { relation = Eq; form = f }) h start.1, start.1)
  alone Gt f h = let s = strict f h in (s.0, s.1.0, s.1.1)
  alone Ge f h = (start.0, weak_member start.0 l (record { relation = Ge; form = f }) h start.1, start.1)
  alone Ne f h = let s = apart f h in (s.0, s.1.0, s.1.1)

  -- some members hold together with the weak list
  abbrev Together : List Constraint → Type 0
  Together m = (a : ℕ → ℚ) × Satisfies a (weak l) × Satisfies a m

  one_more : (c : Constraint) (m : List Constraint) → ((d : Constraint) → Has d (c ∷ m) → Has d l) → Together m → Together (c ∷ m)
  one_more c m i a =
      let e = all_far a.0 w.0 (c ∷ m) carries in
      let h = e.holds e.from (le_refl e.from) in
      (far e.from a.0 w.0, weak_far e.from a.0 w.0 l h.0 a.1 w.2, h.1)
    where
      w : (b : ℕ → ℚ) × Meets c.relation (value_at b c.form) × Satisfies b (weak l)
      w = alone c.relation c.form (i c (inl refl))

      carries : (d : Constraint) → Has d (c ∷ m) → Carries d.relation (value_at a.0 d.form) (value_at w.0 d.form)
      carries d (inl e) =
          subst (λ b. Carries b.relation (value_at a.0 b.form) (value_at w.0 b.form)) (sym e)
          (inl (weak_member a.0 l c (i c (inl refl)) a.1, w.1))
      carries d (inr k) = inr (member_satisfied a.0 m d k a.2, weak_member w.0 l d (i d (inr k)) w.2)

  together : (m : List Constraint) → ((d : Constraint) → Has d m → Has d l) → Together m
  together [] i = (start.0, start.1, tt)
  together (c ∷ m) i = one_more c m i (together m (λ d k. i d (inr k)))

pub met_together : (l : List Constraint) → Solvable (weak l) → ((f : Linear) → Has (above_zero f) l → Solvable (above_zero f ∷ weak l))
    → ((f : Linear) → Has (not_zero f) l → Solvable (not_zero f ∷ weak l)) → Solvable l
met_together l s h k =
    let a = together l ((solvable_same (weak l)).0 s) (λ f i. (solvable_same (above_zero f ∷ weak l)).0 (h f i)) (λ f i. (solvable_same (not_zero f ∷ weak l)).0 (k f i)) l (λ d i. i) in
    (solvable_same l).1 (a.0, a.2)

-- ---- from the weak list to the list

pub weak_solved : (p : Point) (l : List Constraint) → Solves p l → Solves p (weak l)
weak_solved p l s = (solves_same p (weak l)).1 (weak_satisfied (number p) l ((solves_same p l).0 s))

reached_at : (l : List Constraint) (f : Linear) → (w : ℕ → ℚ) → Satisfies w l → (a : ℕ → ℚ) → Satisfies a (above_zero f ∷ weak l)
    → (b : ℕ → ℚ) × Satisfies b (above_zero f ∷ l)
reached_at l f w s a h =
    let e = both (rises (value_at a f) (value_at w f) h.0) (all_far a w l (λ c k. inl (weak_member a l c k h.1, member_satisfied w l c k s))) in
    let k = e.holds e.from (le_refl e.from) in
    (far e.from a w, (meets_far e.from a w Gt f k.1.0 k.0, k.1.1))

pub reached : (l : List Constraint) (f : Linear) → Solvable l → Solvable (above_zero f ∷ weak l) → Solvable (above_zero f ∷ l)
reached l f s h =
    let w = (solvable_same l).0 s in
    let a = (solvable_same (above_zero f ∷ weak l)).0 h in
    (solvable_same (above_zero f ∷ l)).1 (reached_at l f w.0 w.1 a.0 a.1)

pub less_is : (a : ℕ → ℚ) (f : Linear) (r : ℚ) → value_at a (difference_form f (constant_form r)) ≡ value_at a f -ℚ r
less_is a f r = value_at-difference_form a f (constant_form r) ∙ ap (λ q. value_at a f -ℚ q) (value_at-constant_form a r)

pub reached_above : (l : List Constraint) (f : Linear) (r : ℚ) → Solvable l → (a : ℕ → ℚ) → Satisfies a (weak l) → r <ℚ value_at a f
    → (b : ℕ → ℚ) × Satisfies b l × (r <ℚ value_at b f)
reached_above l f r s a h k =
    let w = (solvable_same l).0 s in
    let b = reached_at l (difference_form f (constant_form r)) w.0 w.1 a (subst IsPositive (sym (less_is a f r)) k.gap, h) in
    (b.0, b.1.1, record { gap = subst IsPositive (less_is b.0 f r) b.1.0 })
