-- A list of which each member stands has a solution.
use Rattle.std.proofs.Common.{◌≡◌, ℕ, Bool, true, false, List, [], ◌∷◌, ◌⊎◌, inl, inr, pos, refl, ap, sym, subst, ◌∙◌}
use Rattle.std.specs.Prelude.{⊤}
use Rattle.spec_numbers.specs.Rational.{ℚ, 0ℚ, 1ℚ, ◌+ℚ◌, ◌*ℚ◌, IsPositive, IsNotNegative}
use Rattle.spec_numbers.proofs.Ring.{Poly, var, int, ◌⊕◌, ◌⊗◌}
use Rattle.spec_numbers.proofs.RationalLemmas.{ring, add_comm}
use Rattle.spec_numbers.proofs.Sign.{pos_add, nonneg_mul, pos_nonneg, pos_one, not_pos_zero, zero_or_not}
use Rattle.spec_numbers.proofs.Order.{le_refl}
use Rattle.spec_linear.specs.declared.Relation.{Relation}
use Rattle.spec_linear.specs.declared.Relation.TheVariants.{Eq, Gt, Ge, Ne}
use Rattle.spec_linear.specs.Form.{Linear, value_at}
use Rattle.spec_linear.specs.Solution.{Constraint, Satisfies, Has, Solvable, Satisfiable}
use Rattle.spec_linear.proofs.Denominators.{solvable_same}
use Rattle.spec_linear.specs.Weak.{above_zero, not_zero, weak}
use Rattle.spec_linear.proofs.Eventually.{Eventually, both, from_zero, rises}
use Rattle.spec_linear.proofs.Far.{Weakly, with_weak-made, weak_member, far, meets_far, weak_far}
use Rattle.spec_linear.proofs.Together.{met_together}
use Rattle.spec_simplex.specs.Reach.{IsFlat, Moves, Stands, Kept}

abbrev pub x0 : Poly
x0 = var 0

abbrev pub x1 : Poly
x1 = var 1

abbrev pub x2 : Poly
x2 = var 2

pub pos_not_zero : {q : ℚ} → IsPositive q → q ≡ 0ℚ → ⊥
pos_not_zero h e = not_pos_zero (subst IsPositive e h)

pub clash : (b : Bool) → b ≡ false → b ≡ true → ⊥
clash b e f = cc

-- ---- points between two solutions of the weak list
pub positive_far : (t : ℚ) (b w : ℕ → ℚ) (f : Linear) → IsNotNegative t → IsNotNegative (value_at b f) → IsPositive (value_at w f) →
    IsPositive (value_at (far t b w) f)
positive_far t b w f n h k = meets_far t b w Gt f n (subst IsPositive (add_comm (value_at w f) (t *ℚ value_at b f)) (pos_add k (nonneg_mul n h)))

positive_half : (b w : ℕ → ℚ) (f : Linear) → IsPositive (value_at b f) → IsNotNegative (value_at w f) → IsPositive (value_at (far 1ℚ b w) f)
positive_half b w f h k =
    meets_far 1ℚ b w Gt f (pos_nonneg pos_one)
    (subst IsPositive (ring (value_at b f ∷ value_at w f ∷ []) (x0 ⊕ x1) (int (pos 1) ⊗ x0 ⊕ x1) refl) (pos_add h k))

weakly_far : (t : ℚ) (b w : ℕ → ℚ) (r : Relation) (f : Linear) → IsNotNegative t → Weakly r (t *ℚ value_at b f +ℚ value_at w f) →
    Weakly r (value_at (far t b w) f)
weakly_far t b w Eq f n h = meets_far t b w Eq f n h
weakly_far t b w Gt f n h = meets_far t b w Ge f n h
weakly_far t b w Ge f n h = meets_far t b w Ge f n h
weakly_far t b w Ne f n h = tt

module _ (A : (ℕ → ℚ) → Type 0) (l : List Constraint) (k : Kept A l) where
  -- a member has room round b, within A
  abbrev Inner : (ℕ → ℚ) → Relation → Linear → Type 0
  Inner b Eq f = IsFlat A f
  Inner b Gt f = IsPositive (value_at b f)
  Inner b Ge f = IsFlat A f ⊎ IsPositive (value_at b f)
  Inner b Ne f = ⊤

  abbrev Interior : List Constraint → Type 0
  Interior m = (b : ℕ → ℚ) × Satisfies b (weak l) × ((c : Constraint) → Has c m → Inner b c.relation c.form)

  -- it has room everywhere, or halfway to some solution of the weak list
  abbrev Reached : Relation → Linear → Type 0
  Reached r f = ((b : ℕ → ℚ) → Inner b r f) ⊎ ((w : ℕ → ℚ) × Satisfies w (weak l) × ((b : ℕ → ℚ) → Satisfies b (weak l) → Inner (far 1ℚ b w) r f))

  reach : (r : Relation) (f : Linear) → ((v : ℕ → ℚ) → Satisfies v (weak l) → Weakly r (value_at v f)) → Stands A l r f → Reached r f
  reach Eq f n s = inl (λ b. s)
  reach Gt f n s = inr (s.0, s.1.1, λ b h. positive_far 1ℚ b s.0 f (pos_nonneg pos_one) (n b h) s.1.0)
  reach Ge f n (inl s) = inl (λ b. inl s)
  reach Ge f n (inr s) = inr (s.0, s.1.1, λ b h. inr (positive_far 1ℚ b s.0 f (pos_nonneg pos_one) (n b h) s.1.0))
  reach Ne f n s = inl (λ b. tt)

  still_inner : (b w : ℕ → ℚ) (r : Relation) (f : Linear) → Weakly r (value_at w f) → Inner b r f → Inner (far 1ℚ b w) r f
  still_inner b w Eq f n s = s
  still_inner b w Gt f n s = positive_half b w f s n
  still_inner b w Ge f n (inl s) = inl s
  still_inner b w Ge f n (inr s) = inr (positive_half b w f s n)
  still_inner b w Ne f n s = tt

  interior_more : (c : Constraint) (m : List Constraint) → ((d : Constraint) → Has d (c ∷ m) → Has d l) → Interior m → Interior (c ∷ m)
  interior_more c m i b = go (reach c.relation c.form (λ v s. weak_member v l c (i c (inl refl)) s) (k.stands c (i c (inl refl))))
    where
      go : Reached c.relation c.form → Interior (c ∷ m)
      go (inl e) = (b.0, b.1, each)
        where
          each : (d : Constraint) → Has d (c ∷ m) → Inner b.0 d.relation d.form
          each d (inl q) = subst (λ x. Inner b.0 x.relation x.form) (sym q) (e b.0)
          each d (inr h) = b.2 d h
      go (inr w) = (far 1ℚ b.0 w.0, weak_far 1ℚ b.0 w.0 l (pos_nonneg pos_one) b.1 w.1, each)
        where
          each : (d : Constraint) → Has d (c ∷ m) → Inner (far 1ℚ b.0 w.0) d.relation d.form
          each d (inl q) = subst (λ x. Inner (far 1ℚ b.0 w.0) x.relation x.form) (sym q) (w.2 b.0 b.1)
          each d (inr h) = still_inner b.0 w.0 d.relation d.form (weak_member w.0 l d (i d (inr h)) w.1) (b.2 d h)

  interior : (m : List Constraint) → ((d : Constraint) → Has d m → Has d l) → Interior m
  interior [] i = (k.start.0, k.start.1, λ c h. absurd h)
  interior (c ∷ m) i = interior_more c m i (interior m (λ d h. i d (inr h)))

  -- ---- near such a point, towards w in A, the weak list holds still
  module _ (b w : ℕ → ℚ) (inside : A w) where
    flat_weakly : (t p q : ℚ) → q ≡ 0ℚ → t *ℚ p +ℚ q ≡ t *ℚ p
    flat_weakly t p q e = ap (λ x. t *ℚ p +ℚ x) e ∙ ring (t ∷ p ∷ []) (x0 ⊗ x1 ⊕ int (pos 0)) (x0 ⊗ x1) refl

    positive_room : (p q : ℚ) → IsPositive p → Eventually (λ t. IsNotNegative (t *ℚ p +ℚ q))
    positive_room p q h = let e = rises p q h in record { from = e.from; holds = λ t le. pos_nonneg (e.holds t le) }

    room_one : (r : Relation) (f : Linear) → Inner b r f → Weakly r (value_at b f) → Eventually (λ t. Weakly r (t *ℚ value_at b f +ℚ value_at w f))
    room_one Eq f s n =
        from_zero (λ t h. flat_weakly t (value_at b f) (value_at w f) (s w inside) ∙ ap (λ x. t *ℚ x) n ∙ ring (t ∷ []) (x0 ⊗ int (pos 0)) (int (pos 0)) refl)
    room_one Gt f s n = positive_room (value_at b f) (value_at w f) s
    room_one Ge f (inl s) n = from_zero (λ t h. subst IsNotNegative (sym (flat_weakly t (value_at b f) (value_at w f) (s w inside))) (nonneg_mul h n))
    room_one Ge f (inr s) n = positive_room (value_at b f) (value_at w f) s
    room_one Ne f s n = from_zero (λ t h. tt)

    room : (m : List Constraint) → ((c : Constraint) → Has c m → Inner b c.relation c.form × Weakly c.relation (value_at b c.form)) →
        Eventually (λ t. IsNotNegative t × Satisfies (far t b w) (weak m))
    room [] h = from_zero (λ t n. (n, tt))
    room (c ∷ m) h =
        let s = h c (inl refl) in
        let e = both (room_one c.relation c.form s.0 s.1) (room m (λ d i. h d (inr i))) in
        record {
          from = e.from;
          holds =
              λ t le. let o = e.holds t le in (o.1.0, with_weak-made (far t b w) c.relation c.form (weak m) (weakly_far t b w c.relation c.form o.1.0 o.0) o.1.1);
        }

  -- what moves in A is not zero at some solution of the weak list
  missed : (f : Linear) → Moves A f → Satisfiable (not_zero f ∷ weak l)
  missed f m = go (zero_or_not (value_at b.0 f))
    where
      b : Interior l
      b = interior l (λ d h. h)

      go : (value_at b.0 f ≡ 0ℚ) ⊎ (value_at b.0 f ≡ 0ℚ → ⊥) → Satisfiable (not_zero f ∷ weak l)
      go (inr n) = (b.0, (n, b.1))
      go (inl z) =
          let e = room b.0 m.at m.inside l (λ c h. (b.2 c h, weak_member b.0 l c h b.1)) in
          let h = e.holds e.from (le_refl e.from) in (
            far e.from b.0 m.at,
            (
              meets_far e.from b.0 m.at Ne f h.0 (λ q. m.apart
                  (ring (e.from ∷ value_at m.at f ∷ []) x1 (x0 ⊗ int (pos 0) ⊕ x1) refl ∙ ap (λ x. e.from *ℚ x +ℚ value_at m.at f) (sym z) ∙ q)),
              h.1,
            ),
          )

  pub solvable : Solvable l
  solvable =
      met_together l ((solvable_same (weak l)).1 k.start) (λ f h. (solvable_same (above_zero f ∷ weak l)).1 (k.stands (above_zero f) h))
      (λ f h. (solvable_same (not_zero f ∷ weak l)).1 (missed f (k.stands (not_zero f) h)))

  pub satisfiable : Satisfiable l
  satisfiable = (solvable_same l).0 solvable
