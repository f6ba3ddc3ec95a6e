-- Points between two solutions of a weak list: near one of them every constraint holds that either of them satisfies.
use Rattle.std.proofs.Common.{◌≡◌, ◌⊎◌, inl, inr, ℕ, List, [], ◌∷◌, pos, refl, ap, ap₂, sym, subst, ◌∙◌}
use Rattle.std.specs.Prelude.{⊤}
use Rattle.spec_numbers.specs.Rational.{ℚ, 0ℚ, 1ℚ, ◌+ℚ◌, ◌*ℚ◌, inv_ℚ, IsPositive, IsNotNegative}
use Rattle.spec_numbers.specs.Sums.{Monomial, sum_at}
use Rattle.spec_numbers.proofs.Ring.{var, int, ◌⊕◌, ◌⊗◌}
use Rattle.spec_numbers.proofs.RationalLemmas.{ring, add_comm}
use Rattle.spec_numbers.proofs.Sign.{pos_add, nonneg_add, nonneg_mul, pos_nonneg, pos_one, inv_mul, inv_pos}
use Rattle.spec_numbers.proofs.Sums.{sum_at-plus, sum_at-times}
use Rattle.spec_linear.specs.declared.Relation.{Relation}
use Rattle.spec_linear.specs.declared.Relation.TheVariants.{Eq, Gt, Ge, Ne}
use Rattle.spec_linear.specs.Form.{Linear, value_at}
use Rattle.spec_linear.specs.Solution.{Constraint, Meets, HoldsAt, Satisfies, Has}
use Rattle.spec_linear.proofs.Points.{meets_same}
use Rattle.spec_linear.specs.Weak.{with_weak, weak}
use Rattle.spec_linear.proofs.Eventually.{Eventually, both, from_zero, rises, stays_off_zero}

-- ---- what the weak list says of a member's form

abbrev pub Weakly : Relation → ℚ → Type 0
Weakly Eq q = q ≡ 0ℚ
Weakly Gt q = IsNotNegative q
Weakly Ge q = IsNotNegative q
Weakly Ne q = ⊤

weakly : (r : Relation) (q : ℚ) → Meets r q → Weakly r q
weakly Eq q h = h
weakly Gt q h = pos_nonneg h
weakly Ge q h = h
weakly Ne q h = tt

pub with_weak-made : (a : ℕ → ℚ) (r : Relation) (f : Linear) (m : List Constraint) → Weakly r (value_at a f) → Satisfies a m → Satisfies a (with_weak r f m)
with_weak-made a Eq f m h s = (h, s)
with_weak-made a Gt f m h s = (h, s)
with_weak-made a Ge f m h s = (h, s)
with_weak-made a Ne f m h s = s

with_weak-parts : (a : ℕ → ℚ) (r : Relation) (f : Linear) (m : List Constraint) → Satisfies a (with_weak r f m) → Weakly r (value_at a f) × Satisfies a m
with_weak-parts a Eq f m s = s
with_weak-parts a Gt f m s = s
with_weak-parts a Ge f m s = s
with_weak-parts a Ne f m s = (tt, s)

pub weak_satisfied : (a : ℕ → ℚ) (l : List Constraint) → Satisfies a l → Satisfies a (weak l)
weak_satisfied a [] s = tt
weak_satisfied a (c ∷ l) s = with_weak-made a c.relation c.form (weak l) (weakly c.relation (value_at a c.form) s.0) (weak_satisfied a l s.1)

pub weak_member : (a : ℕ → ℚ) (l : List Constraint) (c : Constraint) → Has c l → Satisfies a (weak l) → Weakly c.relation (value_at a c.form)
weak_member a [] c k s = absurd k
weak_member a (d ∷ l) c (inl e) s = subst (λ b. Weakly b.relation (value_at a b.form)) (sym e) (with_weak-parts a d.relation d.form (weak l) s).0
weak_member a (d ∷ l) c (inr k) s = weak_member a l c k (with_weak-parts a d.relation d.form (weak l) s).1

pub member_satisfied : (a : ℕ → ℚ) (l : List Constraint) (c : Constraint) → Has c l → Satisfies a l → HoldsAt a c
member_satisfied a [] c k s = absurd k
member_satisfied a (d ∷ l) c (inl e) s = subst (HoldsAt a) (sym e) s.0
member_satisfied a (d ∷ l) c (inr k) s = member_satisfied a l c k s.1

-- ---- a line t p + q of values

-- one end of the line meets the relation, the other weakly
abbrev pub Carries : Relation → ℚ → ℚ → Type 0
Carries r p q = (Weakly r p × Meets r q) ⊎ (Meets r p × Weakly r q)

pub zeros : (t p q : ℚ) → p ≡ 0ℚ → q ≡ 0ℚ → t *ℚ p +ℚ q ≡ 0ℚ
zeros t p q h k = ap₂ (λ x y. t *ℚ x +ℚ y) h k ∙ ring (t ∷ []) (var 0 ⊗ int (pos 0) ⊕ int (pos 0)) (int (pos 0)) refl

carried : (r : Relation) (p q : ℚ) → Carries r p q → Eventually (λ t. Meets r (t *ℚ p +ℚ q))
carried Eq p q (inl h) = from_zero (λ t n. zeros t p q h.0 h.1)
carried Eq p q (inr h) = from_zero (λ t n. zeros t p q h.0 h.1)
carried Gt p q (inl h) = from_zero (λ t n. subst IsPositive (add_comm q (t *ℚ p)) (pos_add h.1 (nonneg_mul n h.0)))
carried Gt p q (inr h) = rises p q h.0
carried Ge p q (inl h) = from_zero (λ t n. nonneg_add (nonneg_mul n h.0) h.1)
carried Ge p q (inr h) = from_zero (λ t n. nonneg_add (nonneg_mul n h.0) h.1)
carried Ne p q (inl h) = stays_off_zero p q (inr h.1)
carried Ne p q (inr h) = stays_off_zero p q (inl h.0)

-- ---- the points of the line from w to a: the greater t, the nearer to a

abbrev pub far : ℚ → (ℕ → ℚ) → (ℕ → ℚ) → ℕ → ℚ
far t a w x = inv_ℚ (t +ℚ 1ℚ) *ℚ (t *ℚ a x +ℚ w x)

more_than_zero : (t : ℚ) → IsNotNegative t → IsPositive (t +ℚ 1ℚ)
more_than_zero t n = subst IsPositive (add_comm 1ℚ t) (pos_add pos_one n)

sum_at-far : (t : ℚ) (a w : ℕ → ℚ) (s : List Monomial) → sum_at (far t a w) s ≡ inv_ℚ (t +ℚ 1ℚ) *ℚ (t *ℚ sum_at a s +ℚ sum_at w s)
sum_at-far t a w s =
    sum_at-times (inv_ℚ (t +ℚ 1ℚ)) (λ x. t *ℚ a x +ℚ w x) s
    ∙ ap (λ q. inv_ℚ (t +ℚ 1ℚ) *ℚ q) (sum_at-plus (λ x. t *ℚ a x) w s ∙ ap (λ q. q +ℚ sum_at w s) (sum_at-times t a s))

value_at-far : (t : ℚ) (a w : ℕ → ℚ) (f : Linear) → IsNotNegative t → value_at (far t a w) f ≡ inv_ℚ (t +ℚ 1ℚ) *ℚ (t *ℚ value_at a f +ℚ value_at w f)
value_at-far t a w f n =
    let k : ℚ = inv_ℚ (t +ℚ 1ℚ) in
    let p : ℚ = sum_at a f.products in
    let q : ℚ = sum_at w f.products in
    ap (λ r. f.constant +ℚ r) (sum_at-far t a w f.products)
    ∙ ring (t ∷ k ∷ f.constant ∷ p ∷ q ∷ []) (var 2 ⊕ var 1 ⊗ (var 0 ⊗ var 3 ⊕ var 4)) (int (pos 1) ⊗ var 2 ⊕ var 1 ⊗ (var 0 ⊗ var 3 ⊕ var 4)) refl
    ∙ ap (λ r. r *ℚ f.constant +ℚ k *ℚ (t *ℚ p +ℚ q)) (sym (inv_mul (more_than_zero t n)))
    ∙ ring (t ∷ k ∷ f.constant ∷ p ∷ q ∷ [])
    (((var 0 ⊕ int (pos 1)) ⊗ var 1) ⊗ var 2 ⊕ var 1 ⊗ (var 0 ⊗ var 3 ⊕ var 4)) (var 1 ⊗ (var 0 ⊗ (var 2 ⊕ var 3) ⊕ (var 2 ⊕ var 4))) refl

pub meets_far : (t : ℚ) (a w : ℕ → ℚ) (r : Relation) (f : Linear) → IsNotNegative t → Meets r (t *ℚ value_at a f +ℚ value_at w f) → Meets r (value_at (far t a w) f)
meets_far t a w r f n h =
    subst (Meets r) (sym (value_at-far t a w f n))
    ((meets_same r (inv_ℚ (t +ℚ 1ℚ)) (t *ℚ value_at a f +ℚ value_at w f) (inv_pos (more_than_zero t n))).1 h)

weakly_far : (t : ℚ) (a w : ℕ → ℚ) (r : Relation) (f : Linear) → IsNotNegative t → Weakly r (value_at a f) → Weakly r (value_at w f) → Weakly r (value_at (far t a w) f)
weakly_far t a w Eq f n h k = meets_far t a w Eq f n (zeros t (value_at a f) (value_at w f) h k)
weakly_far t a w Gt f n h k = meets_far t a w Ge f n (nonneg_add (nonneg_mul n h) k)
weakly_far t a w Ge f n h k = meets_far t a w Ge f n (nonneg_add (nonneg_mul n h) k)
weakly_far t a w Ne f n h k = tt

-- the weak list holds on the whole line
pub weak_far : (t : ℚ) (a w : ℕ → ℚ) (l : List Constraint) → IsNotNegative t → Satisfies a (weak l) → Satisfies w (weak l) → Satisfies (far t a w) (weak l)
weak_far t a w [] n h k = tt
weak_far t a w (c ∷ l) n h k =
    let x = with_weak-parts a c.relation c.form (weak l) h in
    let y = with_weak-parts w c.relation c.form (weak l) k in
    with_weak-made (far t a w) c.relation c.form (weak l) (weakly_far t a w c.relation c.form n x.0 y.0) (weak_far t a w l n x.1 y.1)

-- and constraints that an end satisfies, the other weakly, hold near a
pub all_far : (a w : ℕ → ℚ) (m : List Constraint) → ((c : Constraint) → Has c m → Carries c.relation (value_at a c.form) (value_at w c.form))
    → Eventually (λ t. IsNotNegative t × Satisfies (far t a w) m)
all_far a w [] h = from_zero (λ t n. (n, tt))
all_far a w (c ∷ m) h =
    let e = both (carried c.relation (value_at a c.form) (value_at w c.form) (h c (inl refl))) (all_far a w m (λ d k. h d (inr k))) in
    record { from = e.from; holds = λ t le. let k = e.holds t le in (k.1.0, (meets_far t a w c.relation c.form k.1.0 k.0, k.1.1)) }
