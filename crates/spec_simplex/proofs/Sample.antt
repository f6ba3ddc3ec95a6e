-- A short run by the laws alone: x, then x - 1 >= 0, then x - 1 =\= 0.
use Rattle.std.proofs.Common.{◌≡◌, ℕ, zero, suc, ◌<◌, arith, [], ◌∷◌, Bool, true, false, inl, inr, pos, refl, ap, sym, subst, ◌∙◌}
use Rattle.spec_numbers.specs.Rational.{ℚ, 0ℚ, 1ℚ, ◌+ℚ◌, ◌*ℚ◌, neg_ℚ, IsNotNegative}
use Rattle.spec_numbers.specs.Sums.{sum_at}
use Rattle.spec_numbers.proofs.Ring.{int, ◌⊕◌, ◌⊗◌, minus}
use Rattle.spec_numbers.proofs.RationalLemmas.{ring}
use Rattle.spec_numbers.proofs.Sign.{pos_one, nonneg_zero}
use Rattle.spec_linear.specs.Form.{Linear, value_at, variable_form}
use Rattle.spec_linear.specs.Weak.{at_least_zero, not_zero}
use Rattle.spec_simplex.specs.Tableau.{Row, Tableau, empty, numbers, right_side, AllIn, unit_of, IsShaped, MeetsRows, Linked, IsFeasible, Changed, Invariant, by_entry}
use Rattle.spec_simplex.proofs.Standing.{x0, pos_not_zero, clash}
use Rattle.spec_simplex.proofs.TableauWritten.{free_rises}
use Rattle.spec_simplex.proofs.Linked.{linked_written, linked_changed, linked_row, linked_column}
use Rattle.spec_simplex.proofs.Steps.{one_of, exchanged, joined_weak, joined_apart}
use Rattle.spec_simplex.proofs.More.{empty_kept, empty_linked}

abbrev pub form : ℕ → Linear
form zero = variable_form 0
form (suc zero) = record { products = unit_of 0; constant = neg_ℚ 1ℚ }
form (suc (suc q)) = record { products = []; constant = 0ℚ }

abbrev pub none : ℕ → Bool
none q = false

abbrev first : ℕ → Bool
first zero = true
first (suc q) = false

-- the quantity 1
abbrev pub second : ℕ → Bool
second zero = false
second (suc zero) = true
second (suc (suc q)) = false

-- x is a column
abbrev before : ℕ → Row
before zero = record { constant = 0ℚ; live = unit_of 0; dropped = [] }
before (suc zero) = record { constant = neg_ℚ 1ℚ; live = unit_of 0; dropped = [] }
before (suc (suc q)) = record { constant = 0ℚ; live = []; dropped = [] }

-- x - 1 is a column
abbrev after : ℕ → Row
after zero = record { constant = 1ℚ; live = unit_of 1; dropped = [] }
after (suc zero) = record { constant = 0ℚ; live = unit_of 1; dropped = [] }
after (suc (suc q)) = record { constant = 0ℚ; live = []; dropped = [] }

abbrev begun : ℕ → Tableau
begun n = record { count = n; form = form; is_restricted = none; is_live = first; is_dropped = none; row = before }

abbrev turned : Tableau
turned = record { count = 2; form = form; is_restricted = second; is_live = second; is_dropped = none; row = after }

begun_shaped : (n : ℕ) → 0 < n → IsShaped (begun n)
begun_shaped n h =
    record {
      over_live = over;
      over_dropped = bare;
      live_row = own;
      dropped_row = λ c e. absurd (clash false refl e);
      not_live = λ c e. absurd (clash false refl e);
      made = made;
      made_dropped = λ c e. absurd (clash false refl e);
      made_restricted = λ c e. absurd (clash false refl e);
    }
  where
    over : (q : ℕ) → q < n → AllIn first (before q).live
    over zero k = (refl, tt)
    over (suc zero) k = (refl, tt)
    over (suc (suc q)) k = tt

    bare : (q : ℕ) → q < n → AllIn none (before q).dropped
    bare zero k = tt
    bare (suc zero) k = tt
    bare (suc (suc q)) k = tt

    own : (c : ℕ) → first c ≡ true → before c ≡ record { constant = 0ℚ; live = unit_of c; dropped = [] }
    own zero e = refl
    own (suc c) e = absurd (clash false refl e)

    made : (c : ℕ) → first c ≡ true → c < n
    made zero e = h
    made (suc c) e = absurd (clash false refl e)

turned_shaped : IsShaped turned
turned_shaped =
    record {
      over_live = over;
      over_dropped = bare;
      live_row = own;
      dropped_row = λ c e. absurd (clash false refl e);
      not_live = λ c e. absurd (clash false refl e);
      made = made;
      made_dropped = λ c e. absurd (clash false refl e);
      made_restricted = made;
    }
  where
    over : (q : ℕ) → q < 2 → AllIn second (after q).live
    over zero k = (refl, tt)
    over (suc zero) k = (refl, tt)
    over (suc (suc q)) k = tt

    bare : (q : ℕ) → q < 2 → AllIn none (after q).dropped
    bare zero k = tt
    bare (suc zero) k = tt
    bare (suc (suc q)) k = tt

    own : (c : ℕ) → second c ≡ true → after c ≡ record { constant = 0ℚ; live = unit_of c; dropped = [] }
    own zero e = absurd (clash false refl e)
    own (suc zero) e = refl
    own (suc (suc c)) e = absurd (clash false refl e)

    made : (c : ℕ) → second c ≡ true → c < 2
    made zero e = omega arith
    made (suc zero) e = omega arith
    made (suc (suc c)) e = absurd (clash false refl e)

column_obeys : (z : ℕ → ℚ) (c : ℕ) → z c ≡ right_side z (record { constant = 0ℚ; live = unit_of c; dropped = [] })
column_obeys z c = ring (z c ∷ []) x0 (int (pos 0) ⊕ ((int (pos 1) ⊗ x0 ⊕ int (pos 0)) ⊕ int (pos 0))) refl

one_linked : Linked (begun 1)
one_linked =
    linked_column empty (begun 1) 0 empty_linked (begun_shaped 1 (omega arith)) refl (λ q h. absurd (omega arith)) refl (λ q h. absurd (omega arith)) there
    (λ z o q h. absurd (omega arith))
  where
    there : (z : ℕ → ℚ) → MeetsRows empty z → MeetsRows (begun 1) z
    there z o zero h = column_obeys z 0
    there z o (suc q) h = absurd (omega arith)

two_linked : Linked (begun 2)
two_linked = linked_row (begun 1) (begun 2) (neg_ℚ 1ℚ) (unit_of 0) one_linked (begun_shaped 2 (omega arith)) refl (λ q h. refl) (omega arith, tt) is there back
  where
    is : (v : ℕ → ℚ) → value_at v (form 1) ≡ neg_ℚ 1ℚ +ℚ sum_at (numbers (begun 1) v) (unit_of 0)
    is v =
        ring (v 0 ∷ []) (minus (int (pos 1)) ⊕ (int (pos 1) ⊗ x0 ⊕ int (pos 0)))
        (minus (int (pos 1)) ⊕ (int (pos 1) ⊗ (int (pos 0) ⊕ (int (pos 1) ⊗ x0 ⊕ int (pos 0))) ⊕ int (pos 0))) refl

    wide : (x : ℕ → ℚ) → neg_ℚ 1ℚ +ℚ sum_at x (unit_of 0) ≡ right_side x (before 1)
    wide x =
        ring (x 0 ∷ []) (minus (int (pos 1)) ⊕ (int (pos 1) ⊗ x0 ⊕ int (pos 0))) (minus (int (pos 1)) ⊕ ((int (pos 1) ⊗ x0 ⊕ int (pos 0)) ⊕ int (pos 0))) refl

    there : (x : ℕ → ℚ) → MeetsRows (begun 1) x → x 1 ≡ neg_ℚ 1ℚ +ℚ sum_at x (unit_of 0) → MeetsRows (begun 2) x
    there x o e zero h = column_obeys x 0
    there x o e (suc zero) h = e ∙ wide x
    there x o e (suc (suc q)) h = absurd (omega arith)

    back : (x : ℕ → ℚ) → MeetsRows (begun 2) x → MeetsRows (begun 1) x × (x 1 ≡ neg_ℚ 1ℚ +ℚ sum_at x (unit_of 0))
    back x o = (rest, o 1 (omega arith) ∙ sym (wide x))
      where
        rest : MeetsRows (begun 1) x
        rest zero h = column_obeys x 0
        rest (suc q) h = absurd (omega arith)

turned_linked : Linked turned
turned_linked = linked_changed (begun 2) turned two_linked turned_shaped refl (λ q h. refl) there back
  where
    there : (x : ℕ → ℚ) → MeetsRows (begun 2) x → MeetsRows turned x
    there x o zero h =
        ring (x 0 ∷ []) x0 (int (pos 1) ⊕ ((int (pos 1) ⊗ (minus (int (pos 1)) ⊕ ((int (pos 1) ⊗ x0 ⊕ int (pos 0)) ⊕ int (pos 0))) ⊕ int (pos 0)) ⊕ int
        (pos 0))) refl
        ∙ ap (λ b. 1ℚ +ℚ ((1ℚ *ℚ b +ℚ 0ℚ) +ℚ 0ℚ)) (sym (o 1 (omega arith)))
    there x o (suc zero) h = column_obeys x 1
    there x o (suc (suc q)) h = absurd (omega arith)

    back : (x : ℕ → ℚ) → MeetsRows turned x → MeetsRows (begun 2) x
    back x o zero h = column_obeys x 0
    back x o (suc zero) h =
        ring (x 1 ∷ []) x0 (minus (int (pos 1)) ⊕ ((int (pos 1) ⊗ (int (pos 1) ⊕ ((int (pos 1) ⊗ x0 ⊕ int (pos 0)) ⊕ int (pos 0))) ⊕ int (pos 0)) ⊕ int
        (pos 0))) refl
        ∙ ap (λ b. neg_ℚ 1ℚ +ℚ ((1ℚ *ℚ b +ℚ 0ℚ) +ℚ 0ℚ)) (sym (o 0 (omega arith)))
    back x o (suc (suc q)) h = absurd (omega arith)

begun_feasible : IsFeasible (begun 2)
begun_feasible = record { constants = λ q h r. absurd (clash false refl r); columns = λ q h r. absurd (clash false refl r) }

begun_kept : Invariant (begun 2) []
begun_kept = exchanged empty (begun 2) [] empty_kept same (linked_written (begun 2) two_linked) begun_feasible
  where
    same : Changed empty (begun 2) [] []
    same =
        record {
          count = omega arith;
          form = λ z h. absurd (omega arith);
          drops_made = λ z k. absurd k;
          drops_each = λ z k. absurd k;
          dropped_still = λ z k. k;
          dropped_only = λ z k. inr k;
          restricts_made = λ z k. absurd k;
          restricts_each = λ z k. absurd k;
          restricted_still = λ z k. k;
          restricted_only = λ z k. inr k;
        }

one_apart : 1ℚ +ℚ 0ℚ ≡ 0ℚ → ⊥
one_apart e = pos_not_zero pos_one (ring [] (int (pos 1)) (int (pos 1) ⊕ int (pos 0)) refl ∙ e)

weak_kept : Invariant turned (at_least_zero (form 1) ∷ [])
weak_kept =
    joined_weak (begun 2) turned [] begun_kept 1 (omega arith) changed (linked_written turned turned_linked) feasible
    (free_rises (begun 2) [] begun_kept.sound 1 (omega arith) 0 refl refl one_apart).0
  where
    only : (z : ℕ) → second z ≡ true → z ≡ 1
    only zero e = absurd (clash false refl e)
    only (suc zero) e = refl
    only (suc (suc z)) e = absurd (clash false refl e)

    changed : Changed (begun 2) turned [] (1 ∷ [])
    changed =
        record {
          count = omega arith;
          form = λ z h. refl;
          drops_made = λ z k. absurd k;
          drops_each = λ z k. absurd k;
          dropped_still = λ z k. k;
          dropped_only = λ z k. inr k;
          restricts_made = λ z k. subst (λ y. y < 2) (sym (one_of _ z k)) (omega arith);
          restricts_each = λ z k. ap second (one_of _ z k);
          restricted_still = λ z k. absurd (clash false refl k);
          restricted_only = λ z k. inl (inl (only z k));
        }

    feasible : IsFeasible turned
    feasible = record { constants = constants; columns = columns }
      where
        constants : (q : ℕ) → q < 2 → second q ≡ true → IsNotNegative (after q).constant
        constants zero h r = absurd (clash false refl r)
        constants (suc zero) h r = nonneg_zero
        constants (suc (suc q)) h r = nonneg_zero

        columns : (q : ℕ) → q < 2 → second q ≡ true → AllIn second (after q).live
        columns zero h r = absurd (clash false refl r)
        columns (suc zero) h r = (refl, tt)
        columns (suc (suc q)) h r = tt

apart_kept : Invariant turned (not_zero (form 1) ∷ at_least_zero (form 1) ∷ [])
apart_kept = joined_apart turned (at_least_zero (form 1) ∷ []) weak_kept 1 (omega arith) (by_entry 1 one_apart)

pub apart : (d : Tableau) × Invariant d (not_zero (form 1) ∷ at_least_zero (form 1) ∷ [])
apart = (turned, apart_kept)
