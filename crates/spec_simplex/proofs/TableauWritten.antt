-- What the rows of a tableau say of the solutions.
use Rattle.std.proofs.Common.{◌≡◌, ℕ, ◌<◌, List, [], ◌∷◌, Bool, true, false, nat_eq, ◌⊎◌, inl, inr, pos, refl, ap, ap₂, sym, subst, ◌∙◌}
use Rattle.spec_numbers.specs.Rational.{ℚ, 0ℚ, 1ℚ, ◌+ℚ◌, ◌-ℚ◌, ◌*ℚ◌, neg_ℚ, inv_ℚ, IsPositive, IsNotNegative, ◌<ℚ◌}
use Rattle.spec_numbers.specs.Sums.{Monomial, sum_at, when, unit, factor_of}
use Rattle.spec_numbers.proofs.Ring.{var, int, ◌⊕◌, ◌⊗◌, minus}
use Rattle.spec_numbers.proofs.RationalLemmas.{ring}
use Rattle.spec_numbers.proofs.Sign.{pos_add, nonneg_add, nonneg_mul, pos_nonneg, pos_one, nonneg_zero, Sign, is_pos, is_neg, sign, nonneg_cases, inv_mul, inv_pos}
use Rattle.spec_numbers.proofs.Sign as sign_of
use Rattle.spec_numbers.proofs.Sums.{sum_at-times, sum_at-nowhere, factor_of-is}
use Rattle.spec_linear.specs.declared.Relation.{Relation}
use Rattle.spec_linear.specs.declared.Relation.TheVariants.{Eq, Gt, Ge, Ne}
use Rattle.spec_linear.specs.Form.{Linear, value_at, variable_form, negated_form, difference_form, constant_form}
use Rattle.spec_linear.specs.Solution.{Constraint, Satisfies, Has, Solvable, Fixed, equal_zero}
use Rattle.spec_numbers.proofs.Tests.{nat_eq-same}
use Rattle.spec_linear.proofs.Values.{value_at-negated_form}
use Rattle.spec_linear.proofs.Denominators.{solvable_same}
use Rattle.spec_linear.proofs.Lists.{fixed_same}
use Rattle.spec_linear.specs.Weak.{above_zero, at_least_zero, not_zero, with_weak, weak}
use Rattle.spec_linear.proofs.Far.{weak_satisfied, weak_member}
use Rattle.spec_linear.proofs.Together.{less_is}
use Rattle.spec_simplex.specs.Reach.{Rises, IsFlat, Moves, Stands, Kept, IsGreatest}
use Rattle.spec_simplex.specs.Tableau.{Tableau, numbers, Within, AllIn, Chosen, IsWritten, Place, IsNothing, IsSomething, by_constant, by_entry, Placed, Shown, Held, Owned, Sound, Invariant, EachTermZero, IsOptimal, IsUnlimited}
use Rattle.spec_simplex.proofs.Standing.{x0, x1, x2, solvable, satisfiable, pos_not_zero, clash}
use Rattle.spec_simplex.proofs.Extent.{Grows}
use Rattle.spec_simplex.proofs.Join.{keep_apart}

-- ---- sums over columns
pub same_sum : (p : ℕ → Bool) (x y : ℕ → ℚ) (s : List Monomial) → AllIn p s → ((c : ℕ) → p c ≡ true → x c ≡ y c) → sum_at x s ≡ sum_at y s
same_sum p x y [] a h = refl
same_sum p x y (m ∷ s) a h = ap₂ (λ b r. m.factor *ℚ b +ℚ r) (h m.variable a.0) (same_sum p x y s a.1 h)

no_sum : (p : ℕ → Bool) (x : ℕ → ℚ) (s : List Monomial) → AllIn p s → ((c : ℕ) → p c ≡ true → x c ≡ 0ℚ) → sum_at x s ≡ 0ℚ
no_sum p x s a h = same_sum p x (λ c. 0ℚ) s a h ∙ sum_at-nowhere s

pub not_in : (p : ℕ → Bool) (c : ℕ) (s : List Monomial) → AllIn p s → p c ≡ false → factor_of c s ≡ 0ℚ
not_in p c [] a h = refl
not_in p c (m ∷ s) a h = go (nat_eq c m.variable) refl (not_in p c s a.1 h)
  where
    go : (b : Bool) → nat_eq c m.variable ≡ b → factor_of c s ≡ 0ℚ → when b m.factor +ℚ factor_of c s ≡ 0ℚ
    go true e r = absurd (clash (p m.variable) (subst (λ z. p z ≡ false) (nat_eq-same c m.variable e) h) a.0)
    go false e r = ap (λ w. 0ℚ +ℚ w) r ∙ ring [] (int (pos 0) ⊕ int (pos 0)) (int (pos 0)) refl

module _ (d : Tableau) (w : IsWritten d) where
  -- within, a quantity is its constant and its live part
  pub within_is : (q : ℕ) → q < d.count → (v : ℕ → ℚ) → Within d v → numbers d v q ≡ (d.row q).constant +ℚ sum_at (numbers d v) (d.row q).live
  within_is q h v i =
      w.rows q h v
      ∙ ap (λ b. (d.row q).constant +ℚ (sum_at (numbers d v) (d.row q).live +ℚ b)) (no_sum d.is_dropped (numbers d v) (d.row q).dropped (w.over_dropped q h) i)
      ∙ ring ((d.row q).constant ∷ sum_at (numbers d v) (d.row q).live ∷ []) (x0 ⊕ (x1 ⊕ int (pos 0))) (x0 ⊕ x1) refl

  pub chosen_is : (q : ℕ) → q < d.count → (y : ℕ → ℚ) (s : Chosen d y) → numbers d s.at q ≡ (d.row q).constant +ℚ sum_at y (d.row q).live
  chosen_is q h y s =
      within_is q h s.at s.dropped ∙ ap (λ b. (d.row q).constant +ℚ b) (same_sum d.is_live (numbers d s.at) y (d.row q).live (w.over_live q h) s.live)

  -- where each live column is zero
  pub basic : Chosen d (λ c. 0ℚ)
  basic = w.choose (λ c. 0ℚ)

  pub basic_is : (q : ℕ) → q < d.count → numbers d basic.at q ≡ (d.row q).constant
  basic_is q h =
      chosen_is q h (λ c. 0ℚ) basic ∙ ap (λ b. (d.row q).constant +ℚ b) (sum_at-nowhere (d.row q).live)
      ∙ ring ((d.row q).constant ∷ []) (x0 ⊕ int (pos 0)) x0 refl

  -- where the live column c is t, and the other ones are zero
  pub ray : (t : ℚ) (c : ℕ) → Chosen d (λ z. t *ℚ unit c z)
  ray t c = w.choose (λ z. t *ℚ unit c z)

  pub ray_is : (q : ℕ) → q < d.count → (t : ℚ) (c : ℕ) → numbers d (ray t c).at q ≡ (d.row q).constant +ℚ t *ℚ factor_of c (d.row q).live
  ray_is q h t c =
      chosen_is q h (λ z. t *ℚ unit c z) (ray t c)
      ∙ ap (λ b. (d.row q).constant +ℚ b) (sum_at-times t (unit c) (d.row q).live ∙ ap (λ b. t *ℚ b) (sym (factor_of-is c (d.row q).live)))

  pub nothing_is : (q : ℕ) → q < d.count → IsNothing (d.row q) → (v : ℕ → ℚ) → Within d v → numbers d v q ≡ 0ℚ
  nothing_is q h n v i =
      within_is q h v i ∙ ap₂ (λ a s. a +ℚ sum_at (numbers d v) s) n.constant n.live ∙ ring [] (int (pos 0) ⊕ int (pos 0)) (int (pos 0)) refl

  pub moves : (q : ℕ) → q < d.count → IsSomething (d.row q) → Moves (Within d) (d.form q)
  moves q h (by_constant n) = record { at = basic.at; inside = basic.dropped; apart = λ e. n (sym (basic_is q h) ∙ e) }
  moves q h (by_entry c n) = go (sign (d.row q).constant)
    where
      here : ((d.row q).constant ≡ 0ℚ → ⊥) → Moves (Within d) (d.form q)
      here k = record { at = basic.at; inside = basic.dropped; apart = λ e. k (sym (basic_is q h) ∙ e) }

      go : Sign (d.row q).constant → Moves (Within d) (d.form q)
      go (is_pos p) = here (pos_not_zero p)
      go (is_neg p) = here (λ e. pos_not_zero p (ap neg_ℚ e ∙ ring [] (minus (int (pos 0))) (int (pos 0)) refl))
      go (sign_of.is_zero z) = record {
        at = (ray 1ℚ c).at;
        inside = (ray 1ℚ c).dropped;
        apart = λ e. n
            (ring (factor_of c (d.row q).live ∷ []) x0 (int (pos 0) ⊕ int (pos 1) ⊗ x0) refl
            ∙ ap (λ b. b +ℚ 1ℚ *ℚ factor_of c (d.row q).live) (sym z) ∙ sym (ray_is q h 1ℚ c) ∙ e);
      }

-- ---- a place's form
at_place : (d : Tableau) (f : Linear) (p : Place d f) (P : Linear → Type 0) → P (d.form p.quantity) → P f
at_place d f p P h = subst P p.form_is h

-- ---- points of the weak list
module _ (d : Tableau) (l : List Constraint) (solid : (c : Constraint) → Has c l → Held d c.relation c.form) (v : ℕ → ℚ) (inside : Within d v)
    (obeys : (q : ℕ) → q < d.count → d.is_restricted q ≡ true → IsNotNegative (numbers d v q)) where
  solves_one : (r : Relation) (f : Linear) (m : List Constraint) → Held d r f → Satisfies v (weak m) → Satisfies v (with_weak r f (weak m))
  solves_one Eq f m p s = (p v inside, s)
  solves_one Gt f m p s = (at_place d f p.0 (λ g. IsNotNegative (value_at v g)) (obeys p.0.quantity p.0.made p.1), s)
  solves_one Ge f m p s = (at_place d f p.0 (λ g. IsNotNegative (value_at v g)) (obeys p.0.quantity p.0.made p.1), s)
  solves_one Ne f m p s = s

  solves_all : (m : List Constraint) → ((c : Constraint) → Has c m → Has c l) → Satisfies v (weak m)
  solves_all [] h = tt
  solves_all (c ∷ m) h = solves_one c.relation c.form m (solid c (h c (inl refl))) (solves_all m (λ e k. h e (inr k)))

  solves_solid : Satisfies v (weak l)
  solves_solid = solves_all l (λ c m. m)

-- ---- what the rows show is kept
module _ (d : Tableau) (l : List Constraint) (i : Shown d l) where
  flat_place : (f : Linear) (p : Place d f) → IsNothing (d.row p.quantity) → IsFlat (Within d) f
  flat_place f p n = λ v w. at_place d f p (λ g. value_at v g ≡ 0ℚ) (nothing_is d i.written p.quantity p.made n v w)

  shown_solid : (r : Relation) (f : Linear) → Placed d l r f → Held d r f
  shown_solid Eq f p = flat_place f p.0 p.1
  shown_solid Gt f p = (p.0, p.1)
  shown_solid Ge f p = (p.0, p.1)
  shown_solid Ne f p = tt

  stand_one : (r : Relation) (f : Linear) → Placed d l r f → Stands (Within d) l r f
  stand_one Eq f p = flat_place f p.0 p.1
  stand_one Gt f p = p.2
  stand_one Ge f p = go p.2
    where
      go : IsNothing (d.row p.0.quantity) ⊎ Rises l f → IsFlat (Within d) f ⊎ Rises l f
      go (inl n) = inl (flat_place f p.0 n)
      go (inr r) = inr r
  stand_one Ne f p = at_place d f p.0 (Moves (Within d)) (moves d i.written p.0.quantity p.0.made p.1)

  pub shown_keeps : Invariant d l
  shown_keeps = record {
    sound = record {
      written = i.written;
      feasible = i.feasible;
      inside = i.dropped;
      held = λ c m. shown_solid c.relation c.form (i.placed c m);
      restricted = i.restricted;
    };
    stands = λ c m. stand_one c.relation c.form (i.placed c m);
  }

-- ---- another set with the same assignments
pub kept_same_one : (A B : (ℕ → ℚ) → Type 0) (l : List Constraint) → ((v : ℕ → ℚ) → A v → B v) → ((v : ℕ → ℚ) → B v → A v) → (r : Relation) (f : Linear) →
    Stands A l r f → Stands B l r f
kept_same_one A B l g h Eq f s = λ v b. s v (h v b)
kept_same_one A B l g h Gt f s = s
kept_same_one A B l g h Ge f (inl s) = inl (λ v b. s v (h v b))
kept_same_one A B l g h Ge f (inr s) = inr s
kept_same_one A B l g h Ne f s = record { at = s.at; inside = g s.at s.inside; apart = s.apart }

pub kept_same : (A B : (ℕ → ℚ) → Type 0) (l : List Constraint) → ((v : ℕ → ℚ) → A v → B v) → ((v : ℕ → ℚ) → B v → A v) → Kept A l → Kept B l
kept_same A B l g h k = record {
  start = k.start;
  inside = λ v s. g v (k.inside v s);
  stands = λ c m. kept_same_one A B l g h c.relation c.form (k.stands c m);
}

-- ---- what a sound tableau says of the weak list
module _ (d : Tableau) (l : List Constraint) (i : Sound d l) where
  -- an assignment within, where no restricted quantity is below zero, solves the weak list
  pub solves_weak : (v : ℕ → ℚ) → Within d v → ((q : ℕ) → q < d.count → d.is_restricted q ≡ true → IsNotNegative (numbers d v q)) → Satisfies v (weak l)
  solves_weak v w o = solves_solid d l i.held v w o

  pub basic_solves : Satisfies (basic d i.written).at (weak l)
  basic_solves =
      solves_weak (basic d i.written).at (basic d i.written).dropped
      (λ q h r. subst IsNotNegative (sym (basic_is d i.written q h)) (i.feasible.constants q h r))

  -- ---- the greatest value
  pub restricted_nonneg : (v : ℕ → ℚ) → Satisfies v (weak l) → (q : ℕ) → q < d.count → d.is_restricted q ≡ true → IsNotNegative (numbers d v q)
  restricted_nonneg v s q h r = go (i.restricted q h r)
    where
      go : Owned l (d.form q) → IsNotNegative (numbers d v q)
      go (inl m) = weak_member v l (at_least_zero (d.form q)) m s
      go (inr (inl m)) = weak_member v l (above_zero (d.form q)) m s
      go (inr (inr m)) = subst IsNotNegative (sym (weak_member v l (equal_zero (d.form q)) m s)) nonneg_zero

  -- a row whose constant is above zero
  pub rises_by_constant : (q : ℕ) → q < d.count → IsPositive (d.row q).constant → Rises l (d.form q)
  rises_by_constant q h p = ((basic d i.written).at, (subst IsPositive (sym (basic_is d i.written q h)) p, basic_solves))

  -- ---- an open column
  ray_solves : (c : ℕ) → IsUnlimited d c → (t : ℚ) → IsNotNegative t → Satisfies (ray d i.written t c).at (weak l)
  ray_solves c o t h =
      solves_weak (ray d i.written t c).at (ray d i.written t c).dropped
      (λ q m r. subst IsNotNegative (sym (ray_is d i.written q m t c)) (nonneg_add (i.feasible.constants q m r) (nonneg_mul h (o.rows q m r))))

  -- a row with an entry above zero at an open column has no greatest value
  pub open_unbounded : (q : ℕ) → q < d.count → (c : ℕ) → IsUnlimited d c → IsPositive (factor_of c (d.row q).live) → Grows l (d.form q)
  open_unbounded q h c o p r = go (sign (r -ℚ (d.row q).constant))
    where
      at : (t : ℚ) → IsNotNegative t → IsPositive ((d.row q).constant +ℚ t *ℚ factor_of c (d.row q).live -ℚ r) →
          (v : ℕ → ℚ) × Satisfies v (weak l) × (r <ℚ value_at v (d.form q))
      at t n g = ((ray d i.written t c).at, ray_solves c o t n, record { gap = subst (λ b. IsPositive (b -ℚ r)) (sym (ray_is d i.written q h t c)) g })

      -- t is (1 + gap) over the entry
      far : (gap : ℚ) → IsNotNegative gap → IsPositive ((d.row q).constant +ℚ gap -ℚ r +ℚ 1ℚ) →
          (v : ℕ → ℚ) × Satisfies v (weak l) × (r <ℚ value_at v (d.form q))
      far gap n g =
          at ((1ℚ +ℚ gap) *ℚ inv_ℚ (factor_of c (d.row q).live)) (nonneg_mul (nonneg_add (pos_nonneg pos_one) n) (pos_nonneg (inv_pos p)))
          (subst IsPositive
          (ring ((d.row q).constant ∷ gap ∷ r ∷ []) (x0 ⊕ x1 ⊕ minus x2 ⊕ int (pos 1)) (x0 ⊕ (int (pos 1) ⊕ x1) ⊗ int (pos 1) ⊕ minus x2) refl
          ∙ ap (λ w. (d.row q).constant +ℚ (1ℚ +ℚ gap) *ℚ w -ℚ r) (sym (inv_mul p))
          ∙ ring ((d.row q).constant ∷ factor_of c (d.row q).live ∷ inv_ℚ (factor_of c (d.row q).live) ∷ gap ∷ r ∷ [])
          (x0 ⊕ (int (pos 1) ⊕ var 3) ⊗ (x1 ⊗ x2) ⊕ minus (var 4)) (x0 ⊕ (int (pos 1) ⊕ var 3) ⊗ x2 ⊗ x1 ⊕ minus (var 4)) refl)
          g)

      go : Sign (r -ℚ (d.row q).constant) → (v : ℕ → ℚ) × Satisfies v (weak l) × (r <ℚ value_at v (d.form q))
      go (is_pos g) =
          far (r -ℚ (d.row q).constant) (pos_nonneg g)
          (subst IsPositive (ring ((d.row q).constant ∷ r ∷ []) (int (pos 1)) (x0 ⊕ (x1 ⊕ minus x0) ⊕ minus x1 ⊕ int (pos 1)) refl) pos_one)
      go (sign_of.is_zero e) =
          far 0ℚ nonneg_zero (subst IsPositive
          (ring [] (int (pos 1)) (minus (int (pos 0)) ⊕ int (pos 1)) refl ∙ ap (λ w. neg_ℚ w +ℚ 1ℚ) (sym e)
          ∙ ring ((d.row q).constant ∷ r ∷ []) (minus (x1 ⊕ minus x0) ⊕ int (pos 1)) (x0 ⊕ int (pos 0) ⊕ minus x1 ⊕ int (pos 1)) refl) pos_one)
      go (is_neg g) =
          far 0ℚ nonneg_zero (subst IsPositive
          (ring ((d.row q).constant ∷ r ∷ []) (minus (x1 ⊕ minus x0) ⊕ int (pos 1)) (x0 ⊕ int (pos 0) ⊕ minus x1 ⊕ int (pos 1)) refl)
          (pos_add g (pos_nonneg pos_one)))

  -- ---- a row with no entry that raises it
  falling : (v : ℕ → ℚ) → Satisfies v (weak l) → (s : List Monomial) → AllIn d.is_live s → IsOptimal d s →
      ((c : ℕ) → d.is_live c ≡ true → d.is_restricted c ≡ true → IsNotNegative (numbers d v c)) → IsNotNegative (neg_ℚ (sum_at (numbers d v) s))
  falling v h [] a f k = subst IsNotNegative (ring [] (int (pos 0)) (minus (int (pos 0))) refl) nonneg_zero
  falling v h (m ∷ s) a f k =
      subst IsNotNegative
      (ring (m.factor ∷ numbers d v m.variable ∷ sum_at (numbers d v) s ∷ []) (minus x0 ⊗ x1 ⊕ minus x2) (minus (x0 ⊗ x1 ⊕ x2)) refl)
      (nonneg_add (nonneg_mul f.0.1 (k m.variable a.0 f.0.0)) (falling v h s a.1 f.1 k))

  pub top : (q : ℕ) → q < d.count → IsOptimal d (d.row q).live → IsGreatest l (d.form q) (d.row q).constant
  top q h f = record {
    bound = λ v s. record {
      gap =
          subst IsNotNegative
          (ring ((d.row q).constant ∷ sum_at (numbers d v) (d.row q).live ∷ []) (minus x1) (x0 ⊕ minus (x0 ⊕ x1)) refl
          ∙ ap (λ b. (d.row q).constant -ℚ b) (sym (within_is d i.written q h v (i.inside v s))))
          (falling v s (d.row q).live (i.written.over_live q h) f (λ c e r. restricted_nonneg v s c (i.written.made c e) r));
    };
    at = (basic d i.written).at;
    solves = basic_solves;
    value = basic_is d i.written q h;
  }

  -- where the greatest value is zero, the form is not below zero just where each product of its row is zero
  both_zero : (a b : ℚ) → IsNotNegative a → IsNotNegative b → a +ℚ b ≡ 0ℚ → (a ≡ 0ℚ) × (b ≡ 0ℚ)
  both_zero a b h k e = go (nonneg_cases a h)
    where
      go : (a ≡ 0ℚ) ⊎ IsPositive a → (a ≡ 0ℚ) × (b ≡ 0ℚ)
      go (inl z) = (z, ring (b ∷ []) x0 (int (pos 0) ⊕ x0) refl ∙ ap (λ w. w +ℚ b) (sym z) ∙ e)
      go (inr p) = absurd (pos_not_zero (pos_add p k) e)

  terms_zero : (v : ℕ → ℚ) → Satisfies v (weak l) → (s : List Monomial) → AllIn d.is_live s → IsOptimal d s →
      ((c : ℕ) → d.is_live c ≡ true → d.is_restricted c ≡ true → IsNotNegative (numbers d v c)) → sum_at (numbers d v) s ≡ 0ℚ → EachTermZero (numbers d v) s
  terms_zero v h [] a f k e = tt
  terms_zero v h (m ∷ s) a f k e =
      let b = both_zero (neg_ℚ m.factor *ℚ numbers d v m.variable) (neg_ℚ (sum_at (numbers d v) s)) (nonneg_mul f.0.1 (k m.variable a.0 f.0.0))
      (falling v h s a.1 f.1 k)
      (ring (m.factor ∷ numbers d v m.variable ∷ sum_at (numbers d v) s ∷ []) (minus x0 ⊗ x1 ⊕ minus x2) (minus (x0 ⊗ x1 ⊕ x2)) refl ∙ ap neg_ℚ e
      ∙ ring [] (minus (int (pos 0))) (int (pos 0)) refl) in (
        ring (m.factor ∷ numbers d v m.variable ∷ []) (x0 ⊗ x1) (minus (minus x0 ⊗ x1)) refl ∙ ap neg_ℚ b.0 ∙ ring [] (minus (int (pos 0))) (int (pos 0)) refl,
        terms_zero v h s a.1 f.1 k (ring (sum_at (numbers d v) s ∷ []) x0 (minus (minus x0)) refl ∙ ap neg_ℚ b.1
            ∙ ring [] (minus (int (pos 0))) (int (pos 0)) refl),
      )

  pub row_face : (q : ℕ) → q < d.count → IsOptimal d (d.row q).live → (d.row q).constant ≡ 0ℚ → (v : ℕ → ℚ) → Satisfies v (weak l) →
      IsNotNegative (numbers d v q) → (numbers d v q ≡ 0ℚ) × EachTermZero (numbers d v) (d.row q).live
  row_face q h f z v s n =
      let e : numbers d v q ≡ sum_at (numbers d v) (d.row q).live =
      within_is d i.written q h v (i.inside v s) ∙ ap (λ b. b +ℚ sum_at (numbers d v) (d.row q).live) z
      ∙ ring (sum_at (numbers d v) (d.row q).live ∷ []) (int (pos 0) ⊕ x0) x0 refl in
      let b = both_zero (numbers d v q) (neg_ℚ (sum_at (numbers d v) (d.row q).live)) n
      (falling v s (d.row q).live (i.written.over_live q h) f (λ c e r. restricted_nonneg v s c (i.written.made c e) r))
      (ap (λ w. w -ℚ sum_at (numbers d v) (d.row q).live) e ∙ ring (sum_at (numbers d v) (d.row q).live ∷ []) (x0 ⊕ minus x0) (int (pos 0)) refl) in
      (b.0, terms_zero v s (d.row q).live (i.written.over_live q h) f (λ c e r. restricted_nonneg v s c (i.written.made c e) r) (sym e ∙ b.0))

  zero_terms : (x : ℕ → ℚ) (s : List Monomial) → EachTermZero x s → sum_at x s ≡ 0ℚ
  zero_terms x [] h = refl
  zero_terms x (m ∷ s) h = ap₂ (λ a b. a +ℚ b) h.0 (zero_terms x s h.1) ∙ ring [] (int (pos 0) ⊕ int (pos 0)) (int (pos 0)) refl

  pub row_face_back : (q : ℕ) → q < d.count → (d.row q).constant ≡ 0ℚ → (v : ℕ → ℚ) → Satisfies v (weak l) → EachTermZero (numbers d v) (d.row q).live →
      numbers d v q ≡ 0ℚ
  row_face_back q h z v s t =
      within_is d i.written q h v (i.inside v s) ∙ ap₂ (λ a b. a +ℚ b) z (zero_terms (numbers d v) (d.row q).live t)
      ∙ ring [] (int (pos 0) ⊕ int (pos 0)) (int (pos 0)) refl

  -- ---- an entry at an unrestricted live column: every value is taken
  free_ray : (c : ℕ) → d.is_live c ≡ true → d.is_restricted c ≡ false → (t : ℚ) → Satisfies (ray d i.written t c).at (weak l)
  free_ray c e r t =
      solves_weak (ray d i.written t c).at (ray d i.written t c).dropped
      (λ q m k. subst IsNotNegative
      (ring ((d.row q).constant ∷ t ∷ []) x0 (x0 ⊕ x1 ⊗ int (pos 0)) refl
      ∙ ap (λ b. (d.row q).constant +ℚ t *ℚ b) (sym (not_in d.is_restricted c (d.row q).live (i.feasible.columns q m k) r))
      ∙ sym (ray_is d i.written q m t c))
      (i.feasible.constants q m k))

  pub takes_every_value : (q : ℕ) → q < d.count → (c : ℕ) → d.is_live c ≡ true → d.is_restricted c ≡ false → (factor_of c (d.row q).live ≡ 0ℚ → ⊥) → (y : ℚ) →
      (v : ℕ → ℚ) × Satisfies v (weak l) × (numbers d v q ≡ y)
  takes_every_value q h c e r n y = go (sign (factor_of c (d.row q).live))
    where
      at : (t : ℚ) → (d.row q).constant +ℚ t *ℚ factor_of c (d.row q).live ≡ y → (v : ℕ → ℚ) × Satisfies v (weak l) × (numbers d v q ≡ y)
      at t g = ((ray d i.written t c).at, free_ray c e r t, ray_is d i.written q h t c ∙ g)

      go : Sign (factor_of c (d.row q).live) → (v : ℕ → ℚ) × Satisfies v (weak l) × (numbers d v q ≡ y)
      go (sign_of.is_zero z) = absurd (n z)
      go (is_pos p) =
          at ((y -ℚ (d.row q).constant) *ℚ inv_ℚ (factor_of c (d.row q).live))
          (ring ((d.row q).constant ∷ factor_of c (d.row q).live ∷ inv_ℚ (factor_of c (d.row q).live) ∷ y ∷ []) (x0 ⊕ (var 3 ⊕ minus x0) ⊗ x2 ⊗ x1)
          (x0 ⊕ (var 3 ⊕ minus x0) ⊗ (x1 ⊗ x2)) refl
          ∙ ap (λ w. (d.row q).constant +ℚ (y -ℚ (d.row q).constant) *ℚ w) (inv_mul p)
          ∙ ring ((d.row q).constant ∷ y ∷ []) (x0 ⊕ (x1 ⊕ minus x0) ⊗ int (pos 1)) x1 refl)
      go (is_neg p) =
          at (((d.row q).constant -ℚ y) *ℚ inv_ℚ (neg_ℚ (factor_of c (d.row q).live)))
          (ring ((d.row q).constant ∷ factor_of c (d.row q).live ∷ inv_ℚ (neg_ℚ (factor_of c (d.row q).live)) ∷ y ∷ []) (x0 ⊕ (x0 ⊕ minus (var 3)) ⊗ x2 ⊗ x1)
          (x0 ⊕ (var 3 ⊕ minus x0) ⊗ (minus x1 ⊗ x2)) refl
          ∙ ap (λ w. (d.row q).constant +ℚ (y -ℚ (d.row q).constant) *ℚ w) (inv_mul p)
          ∙ ring ((d.row q).constant ∷ y ∷ []) (x0 ⊕ (x1 ⊕ minus x0) ⊗ int (pos 1)) x1 refl)

  pub free_rises : (q : ℕ) → q < d.count → (c : ℕ) → d.is_live c ≡ true → d.is_restricted c ≡ false → (factor_of c (d.row q).live ≡ 0ℚ → ⊥) →
      Rises l (d.form q) × Rises l (negated_form (d.form q))
  free_rises q h c e r n =
      let up = takes_every_value q h c e r n 1ℚ in
      let down = takes_every_value q h c e r n (neg_ℚ 1ℚ) in (
        (up.0, (subst IsPositive (sym up.2) pos_one, up.1)),
        (
          down.0,
          (
            subst IsPositive (ring [] (int (pos 1)) (minus (minus (int (pos 1)))) refl ∙ ap neg_ℚ (sym down.2)
                ∙ sym (value_at-negated_form down.0 (d.form q))) pos_one,
            down.1,
          ),
        ),
      )

-- ---- what the invariant says of the list
module _ (d : Tableau) (l : List Constraint) (j : Invariant d l) where
  pub kept_of : Kept (Within d) l
  kept_of = record { start = ((basic d j.sound.written).at, basic_solves d l j.sound); inside = j.sound.inside; stands = j.stands }

  pub solvable_of : Solvable l
  solvable_of = solvable (Within d) l kept_of

  -- ---- a variable's row
  variable_is : (x : ℕ) (v : ℕ → ℚ) → value_at v (variable_form x) ≡ v x
  variable_is x v = ring (v x ∷ []) (int (pos 0) ⊕ (int (pos 1) ⊗ x0 ⊕ int (pos 0))) x0 refl

  pub fixed : (x : ℕ) (p : Place d (variable_form x)) → (d.row p.quantity).live ≡ [] → Fixed l x (d.row p.quantity).constant
  fixed x p e = (fixed_same l x (d.row p.quantity).constant).1 (solvable_of, go)
    where
      go : (v : ℕ → ℚ) → Satisfies v l → v x ≡ (d.row p.quantity).constant
      go v s =
          sym (variable_is x v) ∙ ap (value_at v) (sym p.form_is) ∙ within_is d j.sound.written p.quantity p.made v (j.sound.inside v (weak_satisfied v l s))
          ∙ ap (λ b. (d.row p.quantity).constant +ℚ sum_at (numbers d v) b) e
          ∙ ring ((d.row p.quantity).constant ∷ []) (x0 ⊕ int (pos 0)) x0 refl

  -- some solution gives the variable another number, whatever number it is
  pub free : (x : ℕ) (p : Place d (variable_form x)) (c : ℕ) → (factor_of c (d.row p.quantity).live ≡ 0ℚ → ⊥) → (r : ℚ) →
      (v : ℕ → ℚ) × Satisfies v l × (v x ≡ r → ⊥)
  free x p c n r = go (sign ((d.row p.quantity).constant -ℚ r))
    where
      other : Linear
      other = difference_form (variable_form x) (constant_form r)

      at : (v : ℕ → ℚ) → Within d v → (numbers d v p.quantity ≡ r → ⊥) → (v : ℕ → ℚ) × Satisfies v l × (v x ≡ r → ⊥)
      at v w a =
          let m : Moves (Within d) (difference_form (variable_form x) (constant_form r)) = record {
            at = v;
            inside = w;
            apart = λ e. a (ap (value_at v) p.form_is ∙ back (value_at v (variable_form x)) (sym (less_is v (variable_form x) r) ∙ e));
          } in
          let s = satisfiable (Within d) (not_zero (difference_form (variable_form x) (constant_form r)) ∷ l)
          (keep_apart (Within d) l (difference_form (variable_form x) (constant_form r)) kept_of m) in (
            s.0,
            s.1.1,
            λ e. s.1.0 (less_is s.0 (variable_form x) r ∙ ap (λ b. b -ℚ r) (variable_is x s.0 ∙ e)
                ∙ ring (r ∷ []) (x0 ⊕ minus x0) (int (pos 0)) refl),
          )
        where
          back : (a : ℚ) → a -ℚ r ≡ 0ℚ → a ≡ r
          back a e = ring (a ∷ r ∷ []) x0 (x0 ⊕ minus x1 ⊕ x1) refl ∙ ap (λ b. b +ℚ r) e ∙ ring (r ∷ []) (int (pos 0) ⊕ x0) x0 refl

      here : ((d.row p.quantity).constant -ℚ r ≡ 0ℚ → ⊥) → (v : ℕ → ℚ) × Satisfies v l × (v x ≡ r → ⊥)
      here h =
          at (basic d j.sound.written).at (basic d j.sound.written).dropped
          (λ e. h (ap (λ b. b -ℚ r) (sym (basic_is d j.sound.written p.quantity p.made) ∙ e) ∙ ring (r ∷ []) (x0 ⊕ minus x0) (int (pos 0)) refl))

      go : Sign ((d.row p.quantity).constant -ℚ r) → (v : ℕ → ℚ) × Satisfies v l × (v x ≡ r → ⊥)
      go (is_pos h) = here (pos_not_zero h)
      go (is_neg h) = here (λ e. pos_not_zero h (ap neg_ℚ e ∙ ring [] (minus (int (pos 0))) (int (pos 0)) refl))
      go (sign_of.is_zero z) = at (ray d j.sound.written 1ℚ c).at (ray d j.sound.written 1ℚ c).dropped (λ e. n
          (ring (factor_of c (d.row p.quantity).live ∷ (d.row p.quantity).constant ∷ r ∷ []) x0 (x1 ⊕ int (pos 1) ⊗ x0 ⊕ minus x2 ⊕ minus (x1 ⊕ minus x2)) refl
          ∙ ap₂ (λ a b. a -ℚ r -ℚ b) (sym (ray_is d j.sound.written p.quantity p.made 1ℚ c) ∙ e) z
          ∙ ring (r ∷ []) (x0 ⊕ minus x0 ⊕ minus (int (pos 0))) (int (pos 0)) refl))

  pub not_fixed : (x : ℕ) (p : Place d (variable_form x)) (c : ℕ) → (factor_of c (d.row p.quantity).live ≡ 0ℚ → ⊥) → (r : ℚ) → Fixed l x r → ⊥
  not_fixed x p c n r f = let o = free x p c n r in o.2 (((fixed_same l x r).0 f).1 o.0 o.1)

  pub two_differ : (x : ℕ) (p : Place d (variable_form x)) (c : ℕ) → (factor_of c (d.row p.quantity).live ≡ 0ℚ → ⊥) →
      (v w : ℕ → ℚ) × Satisfies v l × Satisfies w l × (v x ≡ w x → ⊥)
  two_differ x p c n =
      let s = (solvable_same l).0 solvable_of in
      let o = free x p c n (s.0 x) in
      (o.0, s.0, o.1, s.1, o.2)
