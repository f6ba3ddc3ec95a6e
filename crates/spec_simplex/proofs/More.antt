-- The empty store, rows in one way, constraints that change nothing, and greatest values that agree.
use Rattle.std.proofs.Common.{◌≡◌, ℕ, ◌<◌, arith, List, [], ◌∷◌, Bool, true, false, inl, inr, pos, refl, ap, sym, subst, ◌∙◌}
use Rattle.spec_numbers.specs.Rational.{ℚ, 0ℚ, 1ℚ, ◌+ℚ◌, ◌*ℚ◌, neg_ℚ, IsPositive, IsNotNegative, ◌≤ℚ◌}
use Rattle.spec_numbers.specs.Sums.{Monomial, sum_at, unit, factor_of}
use Rattle.spec_numbers.proofs.Ring.{int, ◌⊕◌, ◌⊗◌, minus}
use Rattle.spec_numbers.proofs.RationalLemmas.{ring}
use Rattle.spec_numbers.proofs.Sign.{nonneg_zero, not_both}
use Rattle.spec_numbers.proofs.Order.{le_antisym}
use Rattle.spec_numbers.proofs.Sums.{sum_at-times, sum_at-nowhere, factor_of-is}
use Rattle.spec_linear.specs.declared.Relation.{Relation}
use Rattle.spec_linear.specs.declared.Relation.TheVariants.{Eq, Gt, Ge, Ne}
use Rattle.spec_linear.specs.Form.{Linear, value_at}
use Rattle.spec_linear.specs.Solution.{Constraint, number, Satisfies, Has, equal_zero}
use Rattle.spec_linear.proofs.Points.{solves_same}
use Rattle.spec_linear.specs.Weak.{at_least_zero, weak}
use Rattle.spec_linear.specs.Extremes.{IsUnbounded}
use Rattle.spec_simplex.specs.Reach.{Rises, IsFlat, Stands, Again, IsGreatest}
use Rattle.spec_simplex.specs.Tableau.{WithinEquations, AreDropped, Restored, Place, Sound, Owned, Held, IsUnlimited, Tableau, Linked, empty, numbers, Within, AllIn, IsWritten, IsFeasible, IsNothing, Changed, Invariant}
use Rattle.spec_simplex.proofs.Standing.{x0, x1, clash}
use Rattle.spec_simplex.proofs.TableauWritten.{same_sum, not_in, basic, basic_is, ray, ray_is, nothing_is, open_unbounded}
use Rattle.spec_simplex.proofs.Steps.{within_back, within_there, sound_more, sound_weak, joined_again}

-- ---- the empty store
pub empty_kept : Invariant empty []
empty_kept = record {
  sound = record {
    written = record {
      rows = λ q h v. absurd (omega arith);
      over_live = λ q h. absurd (omega arith);
      over_dropped = λ q h. absurd (omega arith);
      choose = λ y. record { at = y; live = λ c e. absurd (clash false refl e); dropped = λ c e. absurd (clash false refl e) };
      made = λ c e. absurd (clash false refl e);
      made_dropped = λ c e. absurd (clash false refl e);
      made_restricted = λ c e. absurd (clash false refl e);
    };
    feasible = record { constants = λ q h r. absurd (omega arith); columns = λ q h r. absurd (omega arith) };
    inside = λ v s. λ c e. absurd (clash false refl e);
    held = λ c m. absurd m;
    restricted = λ q h r. absurd (omega arith);
  };
  stands = λ c m. absurd m;
}

pub empty_linked : Linked empty
empty_linked = record {
  shaped = record {
    over_live = λ q h. absurd (omega arith);
    over_dropped = λ q h. absurd (omega arith);
    live_row = λ c e. absurd (clash false refl e);
    dropped_row = λ c e. absurd (clash false refl e);
    not_live = λ c e. refl;
    made = λ c e. absurd (clash false refl e);
    made_dropped = λ c e. absurd (clash false refl e);
    made_restricted = λ c e. absurd (clash false refl e);
  };
  agrees = λ v q h. absurd (omega arith);
  defines = λ x o. (x, λ q h. absurd (omega arith));
}

-- ---- each quantity is written in one way
module _ (d : Tableau) (w : IsWritten d) (q : ℕ) (h : q < d.count) (k : ℚ) (s : List Monomial) (a : AllIn d.is_live s)
    (e : (v : ℕ → ℚ) → Within d v → numbers d v q ≡ k +ℚ sum_at (numbers d v) s) where
  pub one_constant : k ≡ (d.row q).constant
  one_constant =
      ring (k ∷ []) x0 (x0 ⊕ int (pos 0)) refl
      ∙ ap (λ b. k +ℚ b) (sym (same_sum d.is_live (numbers d (basic d w).at) (λ c. 0ℚ) s a (basic d w).live ∙ sum_at-nowhere s))
      ∙ sym (e (basic d w).at (basic d w).dropped) ∙ basic_is d w q h

  pub one_entry : (c : ℕ) → factor_of c s ≡ factor_of c (d.row q).live
  one_entry c = go (d.is_live c) refl
    where
      go : (b : Bool) → d.is_live c ≡ b → factor_of c s ≡ factor_of c (d.row q).live
      go false n = not_in d.is_live c s a n ∙ sym (not_in d.is_live c (d.row q).live (w.over_live q h) n)
      go true n =
          ring (k ∷ factor_of c s ∷ []) x1 (minus x0 ⊕ (x0 ⊕ int (pos 1) ⊗ x1)) refl
          ∙ ap (λ b. neg_ℚ k +ℚ (k +ℚ b))
          (ap (λ b. 1ℚ *ℚ b) (factor_of-is c s) ∙ sym (sum_at-times 1ℚ (unit c) s)
          ∙ sym (same_sum d.is_live (numbers d (ray d w 1ℚ c).at) (λ z. 1ℚ *ℚ unit c z) s a (ray d w 1ℚ c).live))
          ∙ ap (λ b. neg_ℚ k +ℚ b) (sym (e (ray d w 1ℚ c).at (ray d w 1ℚ c).dropped) ∙ ray_is d w q h 1ℚ c)
          ∙ ap (λ b. neg_ℚ b +ℚ ((d.row q).constant +ℚ 1ℚ *ℚ factor_of c (d.row q).live)) one_constant
          ∙ ring ((d.row q).constant ∷ factor_of c (d.row q).live ∷ []) (minus x0 ⊕ (x0 ⊕ int (pos 1) ⊗ x1)) x1 refl

-- ---- a constraint that the weak list has already
module _ (d e : Tableau) (l : List Constraint) (c : Constraint) (more : (v : ℕ → ℚ) → Satisfies v (weak l) → Satisfies v (weak (c ∷ l))) where
  rises_more : (f : Linear) → Rises l f → Rises (c ∷ l) f
  rises_more f r = (r.0, (r.1.0, more r.0 r.1.1))

  again_more : ((v : ℕ → ℚ) → Within e v → Within d v) → ((v : ℕ → ℚ) → Within d v → Within e v) → (r : Relation) (f : Linear) → Stands (Within d) l r f →
      Again (Within e) (c ∷ l) r f
  again_more b t Eq f s = tt
  again_more b t Gt f s = rises_more f s
  again_more b t Ge f (inl s) = inl (λ v w. s v (b v w))
  again_more b t Ge f (inr s) = inr (rises_more f s)
  again_more b t Ne f s = record { at = s.at; inside = t s.at s.inside; apart = s.apart }

-- a weak row, or an equation, whose row is nothing
pub nothing_joins : (d : Tableau) (l : List Constraint) → Invariant d l → (q : ℕ) → q < d.count → IsNothing (d.row q) → Invariant d (equal_zero (d.form q) ∷ l)
nothing_joins d l i q h n =
    joined_again d d l (equal_zero (d.form q)) i
    (sound_more d d [] [] same l i.sound i.sound.written i.sound.feasible (equal_zero (d.form q)) (λ z k. absurd k) (λ v s. s.1) flat (λ z k. absurd k))
    (λ v w. w) flat
    (λ k m. again_more d d l (equal_zero (d.form q)) more (λ v w. w) (λ v w. w) k.relation k.form (i.stands k m))
  where
    flat : (v : ℕ → ℚ) → Within d v → value_at v (d.form q) ≡ 0ℚ
    flat v w = nothing_is d i.sound.written q h n v w

    more : (v : ℕ → ℚ) → Satisfies v (weak l) → Satisfies v (weak (equal_zero (d.form q) ∷ l))
    more v s = (flat v (i.sound.inside v s), s)

    same : Changed d d [] []
    same = record {
      count = omega arith;
      form = λ z k. refl;
      drops_made = λ z k. absurd k;
      drops_each = λ z k. absurd k;
      dropped_still = λ z k. k;
      dropped_only = λ z k. inr k;
      restricts_made = λ z k. absurd k;
      restricts_each = λ z k. absurd k;
      restricted_still = λ z k. k;
      restricted_only = λ z k. inr k;
    }

pub nothing_joins_weak : (d e : Tableau) (l : List Constraint) → Invariant d l → (q : ℕ) → q < d.count → IsNothing (d.row q) → Changed d e [] (q ∷ []) →
    IsWritten e → IsFeasible e → Invariant e (at_least_zero (d.form q) ∷ l)
nothing_joins_weak d e l i q h n r w f =
    joined_again d e l (at_least_zero (d.form q)) i (sound_weak d e l i.sound q h r w f) back
    (inl (λ v g. flat v (back v g)))
    (λ k m. again_more d e l (at_least_zero (d.form q)) more back there k.relation k.form (i.stands k m))
  where
    flat : (v : ℕ → ℚ) → Within d v → value_at v (d.form q) ≡ 0ℚ
    flat v w = nothing_is d i.sound.written q h n v w

    back : (v : ℕ → ℚ) → Within e v → Within d v
    back v g = within_back d e i.sound.written [] (q ∷ []) r v g

    there : (v : ℕ → ℚ) → Within d v → Within e v
    there v g = within_there d e i.sound.written [] (q ∷ []) r v g (λ c k. absurd k)

    more : (v : ℕ → ℚ) → Satisfies v (weak l) → Satisfies v (weak (at_least_zero (d.form q) ∷ l))
    more v s = (subst IsNotNegative (sym (flat v (i.sound.inside v s))) nonneg_zero, s)

-- ---- greatest values
-- whatever basis, and whatever columns are dropped, the greatest value is the same
pub one_top : (l : List Constraint) (f : Linear) (q r : ℚ) → IsGreatest l f q → IsGreatest l f r → q ≡ r
one_top l f q r a b =
    le_antisym (subst (λ w. w ≤ℚ r) a.value (b.bound a.at a.solves)) (subst (λ w. w ≤ℚ q) b.value (a.bound b.at b.solves))

pub top_or_unbounded : (l : List Constraint) (f : Linear) (q : ℚ) → IsGreatest l f q → IsUnbounded (weak l) f → ⊥
top_or_unbounded l f q t u =
    let o = u.more q in
    let p : ℕ → ℚ = number o.0 in
    not_both o.2.gap (subst IsNotNegative (ring (q ∷ value_at p f ∷ []) (x0 ⊕ minus x1) (minus (x1 ⊕ minus x0)) refl)
    (t.bound p ((solves_same o.0 (weak l)).0 o.1)).gap)

-- ---- a weak row that is flat is an equation
module _ (e : Tableau) (l : List Constraint) (f : Linear) (flat : IsFlat (Within e) f) where
  zero_there : Sound e (at_least_zero f ∷ l) → (v : ℕ → ℚ) → Satisfies v (weak (at_least_zero f ∷ l)) → Satisfies v (weak (equal_zero f ∷ l))
  zero_there i v s = (flat v (i.inside v s), s.1)

  zero_back : (v : ℕ → ℚ) → Satisfies v (weak (equal_zero f ∷ l)) → Satisfies v (weak (at_least_zero f ∷ l))
  zero_back v s = (subst IsNotNegative (sym s.0) nonneg_zero, s.1)

  owned_zero : (g : Linear) → Owned (at_least_zero f ∷ l) g → Owned (equal_zero f ∷ l) g
  owned_zero g (inl (inl k)) = inr (inr (inl (ap (λ c. equal_zero c.form) k)))
  owned_zero g (inl (inr m)) = inl (inr m)
  owned_zero g (inr (inl (inl k))) = inr (inr (inl (ap (λ c. equal_zero c.form) k)))
  owned_zero g (inr (inl (inr m))) = inr (inl (inr m))
  owned_zero g (inr (inr (inl k))) = inr (inr (inl (ap (λ c. equal_zero c.form) k)))
  owned_zero g (inr (inr (inr m))) = inr (inr (inr m))

  pub sound_swapped : Sound e (at_least_zero f ∷ l) → Sound e (equal_zero f ∷ l)
  sound_swapped i = record {
    written = i.written;
    feasible = i.feasible;
    inside = λ v s. i.inside v (zero_back v s);
    held = held;
    restricted = λ q h r. owned_zero (e.form q) (i.restricted q h r);
  }
    where
      held : (c : Constraint) → Has c (equal_zero f ∷ l) → Held e c.relation c.form
      held c (inl k) = subst (λ x. Held e x.relation x.form) (sym k) flat
      held c (inr m) = i.held c (inr m)

  rises_zero : Sound e (at_least_zero f ∷ l) → (g : Linear) → Rises (at_least_zero f ∷ l) g → Rises (equal_zero f ∷ l) g
  rises_zero i g r = (r.0, (r.1.0, zero_there i r.0 r.1.1))

  stands_zero : Sound e (at_least_zero f ∷ l) → (r : Relation) (g : Linear) → Stands (Within e) (at_least_zero f ∷ l) r g →
      Stands (Within e) (equal_zero f ∷ l) r g
  stands_zero i Eq g s = s
  stands_zero i Gt g s = rises_zero i g s
  stands_zero i Ge g (inl s) = inl s
  stands_zero i Ge g (inr s) = inr (rises_zero i g s)
  stands_zero i Ne g s = s

  pub swapped : Invariant e (at_least_zero f ∷ l) → Invariant e (equal_zero f ∷ l)
  swapped i = record { sound = sound_swapped i.sound; stands = stands }
    where
      stands : (c : Constraint) → Has c (equal_zero f ∷ l) → Stands (Within e) (equal_zero f ∷ l) c.relation c.form
      stands c (inl k) = subst (λ x. Stands (Within e) (equal_zero f ∷ l) x.relation x.form) (sym k) flat
      stands c (inr m) = stands_zero i.sound c.relation c.form (i.stands c (inr m))

-- ---- what is unbounded rises
pub open_rises : (d : Tableau) (l : List Constraint) → Sound d l → (q : ℕ) → q < d.count → (c : ℕ) → IsUnlimited d c → IsPositive (factor_of c (d.row q).live) →
    Rises l (d.form q)
open_rises d l i q h c o p =
    let v = open_unbounded d l i q h c o p 0ℚ in
    (v.0, (subst IsPositive (ring (value_at v.0 (d.form q) ∷ []) (x0 ⊕ minus (int (pos 0))) x0 refl) v.2.gap, v.1))

-- ---- columns restored
module _ (d e : Tableau) (l : List Constraint) (i : Sound d l) (r : Restored d e) (w : IsWritten e) (f : IsFeasible e)
    (zero : (c : Constraint) → Has c l → c.relation ≡ Eq → IsFlat (Within e) c.form) where
  restored_place : (g : Linear) → (p : Place d g) × (d.is_restricted p.quantity ≡ true) → (p : Place e g) × (e.is_restricted p.quantity ≡ true)
  restored_place g p = (
    record { quantity = p.0.quantity; made = subst (λ n. p.0.quantity < n) (sym r.count) p.0.made; form_is = r.form p.0.quantity p.0.made ∙ p.0.form_is },
    r.is_restricted p.0.quantity ∙ p.1,
  )

  restored_held : (k : Relation) (g : Linear) → (k ≡ Eq → IsFlat (Within e) g) → Held d k g → Held e k g
  restored_held Eq g z h = z refl
  restored_held Gt g z h = restored_place g h
  restored_held Ge g z h = restored_place g h
  restored_held Ne g z h = tt

  -- the tableau speaks of the weak list still, where its dropped columns make the equations zero
  pub sound_restored : Sound e l
  sound_restored = record {
    written = w;
    feasible = f;
    inside = λ v s c k. let n = r.dropped_only c k in ap (value_at v) (r.form c (i.written.made_dropped c n)) ∙ i.inside v s c n;
    held = λ c m. restored_held c.relation c.form (zero c m) (i.held c m);
    restricted = λ q h k. let n = subst (λ y. q < y) r.count h in subst (Owned l) (sym (r.form q n)) (i.restricted q n (sym (r.is_restricted q) ∙ k));
  }

-- ---- equations stay dropped
module _ (d e : Tableau) (b : IsWritten d) (drops restricts : List ℕ) (r : Changed d e drops restricts)
    (apart : (z : ℕ) → Has z restricts → d.is_dropped z ≡ false) (l : List Constraint) (k : AreDropped d l) where
  unrestricted : (c : ℕ) → d.is_dropped c ≡ true → d.is_restricted c ≡ false → (x : Bool) → e.is_restricted c ≡ x → e.is_restricted c ≡ false
  unrestricted c m n false h = h
  unrestricted c m n true h = absurd (elim (r.restricted_only c h) [ inl s ↦ clash (d.is_dropped c) (apart c s) m | inr s ↦ clash (d.is_restricted c) n s ])

  narrower : (v : ℕ → ℚ) → WithinEquations e v → WithinEquations d v
  narrower v g c m n = ap (value_at v) (sym (r.form c (b.made_dropped c m))) ∙ g c (r.dropped_still c m) (unrestricted c m n (e.is_restricted c) refl)

  pub still_dropped : AreDropped e l
  still_dropped c m q v g = k c m q v (narrower v g)

  pub dropped_more : (c : Constraint) → (c.relation ≡ Eq → IsFlat (WithinEquations e) c.form) → AreDropped e (c ∷ l)
  dropped_more c own x (inl s) q = subst (λ y. IsFlat (WithinEquations e) y.form) (sym s) (own (ap (λ y. y.relation) (sym s) ∙ q))
  dropped_more c own x (inr m) q = λ v g. k x m q v (narrower v g)

-- an equation whose own quantity is dropped
pub own_dropped : (e : Tableau) (q : ℕ) → e.is_dropped q ≡ true → e.is_restricted q ≡ false → IsFlat (WithinEquations e) (e.form q)
own_dropped e q h n v g = g q h n

-- restored but for the equations' columns
pub restored_equations : (d e : Tableau) (l : List Constraint) → Sound d l → AreDropped d l → Restored d e → IsWritten e → IsFeasible e →
    ((z : ℕ) → d.is_dropped z ≡ true → d.is_restricted z ≡ false → e.is_dropped z ≡ true) → Sound e l
restored_equations d e l i k r w f stay =
    sound_restored d e l i r w f (λ c m q v g. k c m q v (λ z n o. ap (value_at v) (sym (r.form z (i.written.made_dropped z n))) ∙ g z (stay z n o)))
