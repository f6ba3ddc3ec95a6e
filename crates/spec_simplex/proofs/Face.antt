-- A second run by the laws alone: x >= 0, then -x >= 0, whose face fixes x.
use Rattle.std.proofs.Common.{◌≡◌, ℕ, zero, suc, ◌<◌, ◌⊎◌, arith, List, [], ◌∷◌, Bool, true, false, inl, inr, pos, refl, ap, sym, subst, ◌∙◌}
use Rattle.spec_numbers.specs.Rational.{ℚ, 0ℚ, 1ℚ, ◌+ℚ◌, ◌*ℚ◌, neg_ℚ, IsPositive, IsNotNegative}
use Rattle.spec_numbers.proofs.Ring.{int, ◌⊕◌, ◌⊗◌, minus}
use Rattle.spec_numbers.proofs.RationalLemmas.{ring}
use Rattle.spec_numbers.proofs.Sign.{pos_nonneg, pos_one, nonneg_zero}
use Rattle.spec_linear.specs.Form.{Linear, value_at, variable_form, negated_form}
use Rattle.spec_linear.specs.Solution.{Constraint, Satisfies, Has}
use Rattle.spec_linear.specs.Weak.{at_least_zero, weak}
use Rattle.spec_simplex.specs.Reach.{Again}
use Rattle.spec_simplex.specs.Tableau.{right_side, Chosen, Row, Tableau, numbers, Within, AllIn, unit_of, IsWritten, IsFeasible, Changed, Sound, Invariant}
use Rattle.spec_simplex.proofs.Standing.{x0, clash}
use Rattle.spec_simplex.proofs.TableauWritten.{row_face, nothing_is}
use Rattle.spec_simplex.proofs.Sample.{none, second}
use Rattle.spec_simplex.proofs.Steps.{one_of, joined_weak, sound_weak, sound_dropped, joined_again}

-- x, x again as a member's form, and -x
abbrev pub form : ℕ → Linear
form zero = variable_form 0
form (suc zero) = variable_form 0
form (suc (suc q)) = negated_form (variable_form 0)

-- the quantities 1 and 2
abbrev both : ℕ → Bool
both zero = false
both (suc zero) = true
both (suc (suc zero)) = true
both (suc (suc (suc q))) = false

abbrev up : ℕ → Row
up zero = record { constant = 0ℚ; live = unit_of 1; dropped = [] }
up (suc zero) = record { constant = 0ℚ; live = unit_of 1; dropped = [] }
up (suc (suc q)) = record { constant = 0ℚ; live = record { variable = 1; factor = neg_ℚ 1ℚ } ∷ []; dropped = [] }

abbrev down : ℕ → Row
down zero = record { constant = 0ℚ; live = []; dropped = unit_of 1 }
down (suc zero) = record { constant = 0ℚ; live = []; dropped = unit_of 1 }
down (suc (suc q)) = record { constant = 0ℚ; live = []; dropped = record { variable = 1; factor = neg_ℚ 1ℚ } ∷ [] }

-- x >= 0 told; -x asked; then -x restricted; then the column dropped
abbrev asked : Tableau
asked = record { count = 3; form = form; is_restricted = second; is_live = second; is_dropped = none; row = up }

abbrev joined : Tableau
joined = record { count = 3; form = form; is_restricted = both; is_live = second; is_dropped = none; row = up }

abbrev fallen : Tableau
fallen = record { count = 3; form = form; is_restricted = both; is_live = none; is_dropped = second; row = down }

abbrev before : List Constraint
before = at_least_zero (form 1) ∷ []

abbrev after : List Constraint
after = at_least_zero (form 2) ∷ before

module _ (i : Invariant asked before) (w : IsWritten joined) (x : IsWritten fallen) where
  feasible_joined : IsFeasible joined
  feasible_joined = record { constants = constants; columns = columns }
    where
      constants : (q : ℕ) → q < 3 → both q ≡ true → IsNotNegative (up q).constant
      constants zero h r = nonneg_zero
      constants (suc zero) h r = nonneg_zero
      constants (suc (suc q)) h r = nonneg_zero

      columns : (q : ℕ) → q < 3 → both q ≡ true → AllIn both (up q).live
      columns zero h r = (refl, tt)
      columns (suc zero) h r = (refl, tt)
      columns (suc (suc q)) h r = (refl, tt)

  feasible_fallen : IsFeasible fallen
  feasible_fallen = record { constants = constants; columns = columns }
    where
      constants : (q : ℕ) → q < 3 → both q ≡ true → IsNotNegative (down q).constant
      constants zero h r = nonneg_zero
      constants (suc zero) h r = nonneg_zero
      constants (suc (suc q)) h r = nonneg_zero

      columns : (q : ℕ) → q < 3 → both q ≡ true → AllIn both (down q).live
      columns zero h r = tt
      columns (suc zero) h r = tt
      columns (suc (suc q)) h r = tt

  restricts : Changed asked joined [] (2 ∷ [])
  restricts =
      record {
        count = omega arith;
        form = λ z h. refl;
        drops_made = λ z k. absurd k;
        drops_each = λ z k. absurd k;
        dropped_still = λ z k. k;
        dropped_only = λ z k. inr k;
        restricts_made = λ z k. subst (λ y. y < 3) (sym (one_of _ z k)) (omega arith);
        restricts_each = λ z k. ap both (one_of _ z k);
        restricted_still = still;
        restricted_only = only;
      }
    where
      still : (z : ℕ) → second z ≡ true → both z ≡ true
      still zero e = e
      still (suc zero) e = refl
      still (suc (suc z)) e = absurd (clash false refl e)

      only : (z : ℕ) → both z ≡ true → Has z (2 ∷ []) ⊎ (second z ≡ true)
      only zero e = absurd (clash false refl e)
      only (suc zero) e = inr refl
      only (suc (suc zero)) e = inl (inl refl)
      only (suc (suc (suc z))) e = absurd (clash false refl e)

  drops : Changed joined fallen (1 ∷ []) []
  drops =
      record {
        count = omega arith;
        form = λ z h. refl;
        drops_made = λ z k. subst (λ y. y < 3) (sym (one_of _ z k)) (omega arith);
        drops_each = λ z k. ap second (one_of _ z k);
        dropped_still = λ z k. absurd (clash false refl k);
        dropped_only = only;
        restricts_made = λ z k. absurd k;
        restricts_each = λ z k. absurd k;
        restricted_still = λ z k. k;
        restricted_only = λ z k. inr k;
      }
    where
      only : (z : ℕ) → second z ≡ true → Has z (1 ∷ []) ⊎ (none z ≡ true)
      only zero e = absurd (clash false refl e)
      only (suc zero) e = inl (inl refl)
      only (suc (suc z)) e = absurd (clash false refl e)

  -- the face of -x: the column 1 is zero
  column_zero : (v : ℕ → ℚ) → Satisfies v (weak after) → value_at v (form 1) ≡ 0ℚ
  column_zero v s =
      let f = row_face asked before i.sound 2 (omega arith)
      ((refl, subst IsNotNegative (ring [] (int (pos 1)) (minus (minus (int (pos 1)))) refl) (pos_nonneg pos_one)), tt) refl v s.1 s.0 in
      ring (value_at v (form 1) ∷ []) x0 (minus (minus (int (pos 1)) ⊗ x0)) refl ∙ ap neg_ℚ f.1.0 ∙ ring [] (minus (int (pos 0))) (int (pos 0)) refl

  sound_fallen : Sound fallen after
  sound_fallen =
      sound_dropped joined fallen (1 ∷ []) [] drops after (sound_weak asked joined before i.sound 2 (omega arith) restricts w feasible_joined) x feasible_fallen
      (λ c k v s. ap (numbers joined v) (one_of _ c k) ∙ column_zero v s) (λ z k. absurd k)

  flat : (q : ℕ) → q < 3 → (down q).constant ≡ 0ℚ → (down q).live ≡ [] → (v : ℕ → ℚ) → Within fallen v → value_at v (form q) ≡ 0ℚ
  flat q h c l v g = nothing_is fallen x q h (record { constant = c; live = l }) v g

  kept_after : Invariant fallen after
  kept_after =
      joined_again asked fallen before (at_least_zero (form 2)) i sound_fallen (λ v g c k. absurd (clash false refl k)) (inl (flat 2 (omega arith) refl refl))
      again
    where
      again : (k : Constraint) → Has k before → Again (Within fallen) after k.relation k.form
      again k (inl e) = subst (λ c. Again (Within fallen) after c.relation c.form) (sym e) (inl (flat 1 (omega arith) refl refl))
      again k (inr m) = absurd m

made_first : (c : ℕ) → second c ≡ true → c < 3
made_first zero e = omega arith
made_first (suc zero) e = omega arith
made_first (suc (suc c)) e = absurd (clash false refl e)

made_second : (c : ℕ) → both c ≡ true → c < 3
made_second zero e = omega arith
made_second (suc zero) e = omega arith
made_second (suc (suc zero)) e = omega arith
made_second (suc (suc (suc c))) e = absurd (clash false refl e)

-- ---- the premises are met
module _ (p : ℕ → Bool) (made : (c : ℕ) → p c ≡ true → c < 3) where
  abbrev with_flags : Tableau
  with_flags = record { count = 3; form = form; is_restricted = p; is_live = second; is_dropped = none; row = up }

  own : (v : ℕ → ℚ) → value_at v (variable_form 0) ≡ 0ℚ +ℚ ((1ℚ *ℚ value_at v (form 1) +ℚ 0ℚ) +ℚ 0ℚ)
  own v = ring (value_at v (form 1) ∷ []) x0 (int (pos 0) ⊕ ((int (pos 1) ⊗ x0 ⊕ int (pos 0)) ⊕ int (pos 0))) refl

  written : IsWritten with_flags
  written =
      record {
        rows = rows;
        over_live = over_live;
        over_dropped = over_dropped;
        choose = choose;
        made = made_first;
        made_dropped = λ c e. absurd (clash false refl e);
        made_restricted = made;
      }
    where
      rows : (q : ℕ) → q < 3 → (v : ℕ → ℚ) → numbers with_flags v q ≡ right_side (numbers with_flags v) (up q)
      rows zero h v = own v
      rows (suc zero) h v = own v
      rows (suc (suc q)) h v =
          ring (v 0 ∷ []) (minus (int (pos 0)) ⊕ (minus (int (pos 1)) ⊗ x0 ⊕ int (pos 0)))
          (int (pos 0) ⊕ ((minus (int (pos 1)) ⊗ (int (pos 0) ⊕ (int (pos 1) ⊗ x0 ⊕ int (pos 0))) ⊕ int (pos 0)) ⊕ int (pos 0))) refl

      over_live : (q : ℕ) → q < 3 → AllIn second (up q).live
      over_live zero h = (refl, tt)
      over_live (suc zero) h = (refl, tt)
      over_live (suc (suc q)) h = (refl, tt)

      over_dropped : (q : ℕ) → q < 3 → AllIn none (up q).dropped
      over_dropped zero h = tt
      over_dropped (suc zero) h = tt
      over_dropped (suc (suc q)) h = tt

      choose : (y : ℕ → ℚ) → Chosen with_flags y
      choose y = record { at = λ x. y 1; live = live; dropped = λ c e. absurd (clash false refl e) }
        where
          live : (c : ℕ) → second c ≡ true → numbers with_flags (λ x. y 1) c ≡ y c
          live zero e = absurd (clash false refl e)
          live (suc zero) e = ring (y 1 ∷ []) (int (pos 0) ⊕ (int (pos 1) ⊗ x0 ⊕ int (pos 0))) x0 refl
          live (suc (suc c)) e = absurd (clash false refl e)

written_fallen : IsWritten fallen
written_fallen =
    record {
      rows = rows;
      over_live = over_live;
      over_dropped = over_dropped;
      choose = choose;
      made = λ c e. absurd (clash false refl e);
      made_dropped = made_first;
      made_restricted = made_second;
    }
  where
    own_dropped : (v : ℕ → ℚ) → value_at v (variable_form 0) ≡ 0ℚ +ℚ (0ℚ +ℚ (1ℚ *ℚ value_at v (form 1) +ℚ 0ℚ))
    own_dropped v = ring (value_at v (form 1) ∷ []) x0 (int (pos 0) ⊕ (int (pos 0) ⊕ (int (pos 1) ⊗ x0 ⊕ int (pos 0)))) refl

    rows : (q : ℕ) → q < 3 → (v : ℕ → ℚ) → numbers fallen v q ≡ right_side (numbers fallen v) (down q)
    rows zero h v = own_dropped v
    rows (suc zero) h v = own_dropped v
    rows (suc (suc q)) h v =
        ring (v 0 ∷ []) (minus (int (pos 0)) ⊕ (minus (int (pos 1)) ⊗ x0 ⊕ int (pos 0)))
        (int (pos 0) ⊕ (int (pos 0) ⊕ (minus (int (pos 1)) ⊗ (int (pos 0) ⊕ (int (pos 1) ⊗ x0 ⊕ int (pos 0))) ⊕ int (pos 0)))) refl

    over_live : (q : ℕ) → q < 3 → AllIn none (down q).live
    over_live zero h = tt
    over_live (suc zero) h = tt
    over_live (suc (suc q)) h = tt

    over_dropped : (q : ℕ) → q < 3 → AllIn second (down q).dropped
    over_dropped zero h = (refl, tt)
    over_dropped (suc zero) h = (refl, tt)
    over_dropped (suc (suc q)) h = (refl, tt)

    choose : (y : ℕ → ℚ) → Chosen fallen y
    choose y = record { at = λ x. 0ℚ; live = λ c e. absurd (clash false refl e); dropped = gone }
      where
        gone : (c : ℕ) → second c ≡ true → numbers fallen (λ x. 0ℚ) c ≡ 0ℚ
        gone zero e = absurd (clash false refl e)
        gone (suc zero) e = ring [] (int (pos 0) ⊕ (int (pos 1) ⊗ int (pos 0) ⊕ int (pos 0))) (int (pos 0)) refl
        gone (suc (suc c)) e = absurd (clash false refl e)

begun : Invariant (with_flags none (λ c e. absurd (clash false refl e))) []
begun = record {
  sound = record {
    written = written none (λ c e. absurd (clash false refl e));
    feasible = record { constants = λ q h r. absurd (clash false refl r); columns = λ q h r. absurd (clash false refl r) };
    inside = λ v s. λ c e. absurd (clash false refl e);
    held = λ c m. absurd m;
    restricted = λ q h r. absurd (clash false refl r);
  };
  stands = λ c m. absurd m;
}

asked_kept : Invariant asked before
asked_kept = joined_weak (with_flags none (λ c e. absurd (clash false refl e))) asked [] begun 1 (omega arith) changed (written second made_first) feasible
    ((λ x. 1ℚ), (subst IsPositive (ring [] (int (pos 1)) (int (pos 0) ⊕ (int (pos 1) ⊗ int (pos 1) ⊕ int (pos 0))) refl) pos_one, tt))
  where
    only : (z : ℕ) → second z ≡ true → z ≡ 1
    only zero e = absurd (clash false refl e)
    only (suc zero) e = refl
    only (suc (suc z)) e = absurd (clash false refl e)

    changed : Changed (with_flags none (λ c e. absurd (clash false refl e))) asked [] (1 ∷ [])
    changed =
        record {
          count = omega arith;
          form = λ z h. refl;
          drops_made = λ z k. absurd k;
          drops_each = λ z k. absurd k;
          dropped_still = λ z k. k;
          dropped_only = λ z k. inr k;
          restricts_made = λ z k. subst (λ y. y < 3) (sym (one_of _ z k)) (omega arith);
          restricts_each = λ z k. ap second (one_of _ z k);
          restricted_still = λ z k. absurd (clash false refl k);
          restricted_only = λ z k. inl (inl (only z k));
        }

    feasible : IsFeasible asked
    feasible = record { constants = constants; columns = columns }
      where
        constants : (q : ℕ) → q < 3 → second q ≡ true → IsNotNegative (up q).constant
        constants zero h r = nonneg_zero
        constants (suc zero) h r = nonneg_zero
        constants (suc (suc q)) h r = nonneg_zero

        columns : (q : ℕ) → q < 3 → second q ≡ true → AllIn second (up q).live
        columns zero h r = (refl, tt)
        columns (suc zero) h r = (refl, tt)
        columns (suc (suc q)) h r = (refl, tt)

pub face : (d : Tableau) × Invariant d (at_least_zero (negated_form (variable_form 0)) ∷ at_least_zero (variable_form 0) ∷ [])
face = (fallen, kept_after asked_kept (written both made_second) written_fallen)
