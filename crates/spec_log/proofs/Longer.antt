-- A certificate goes on refuting a list that grows at its end.
use Rattle.std.proofs.Common.{◌≡◌, ◌⊎◌, inl, inr, ℕ, zero, suc, List, [], ◌∷◌, ◌++◌, Option, Some, None, refl, sym, ap, ap₂, subst, ◌∙◌}
use Rattle.std.specs.Prelude.{IsSomeAnd, slice_get}
use Rattle.std.specs.List.{AllByRecursion}
use Rattle.spec_numbers.specs.Rational.{ℚ, 0ℚ, ◌<ℚ◌, ◌≤ℚ◌, IsPositive}
use Rattle.spec_linear.specs.declared.Relation.TheVariants.{Gt, Ne}
use Rattle.spec_linear.specs.Form.{Linear, sum_form, scaled_form}
use Rattle.spec_linear.specs.Solution.{Constraint}
use Rattle.spec_linear.specs.Certificate.{member, form_or_zero, weighted_sum, Allows, IsAllowed, SomeStrict, HasNoVariable, IsFalseRun, IsFalseBehind, AreFalseRuns, Refutes}

module _ (m : List Constraint) where
  found : (l : List Constraint) (k : ℕ) (c : Constraint) → slice_get l k ≡ Some c → slice_get (l ++ m) k ≡ Some c
  found [] k c e = cc
  found (x ∷ l) zero c e = e
  found (x ∷ l) (suc k) c e = found l k c e

  -- a number that is a member's stays that member's
  stays : (l : List Constraint) (n : ℕ) (P : Constraint → Type 0) → IsSomeAnd (member l n) P → member (l ++ m) n ≡ member l n
  stays l zero P h = absurd h
  stays l (suc k) P h = go (slice_get l k) refl h
    where
      go : (o : Option Constraint) → slice_get l k ≡ o → IsSomeAnd o P → slice_get (l ++ m) k ≡ slice_get l k
      go None i j = absurd j
      go (Some c) i j = found l k c i ∙ sym i

  module _ (l : List Constraint) where
    still_allowed : (e : ℕ × ℚ) → IsAllowed l e → IsAllowed (l ++ m) e
    still_allowed e h = subst (λ o. IsSomeAnd o (λ c. Allows c.relation e.1)) (sym (stays l e.0 (λ c. Allows c.relation e.1) h)) h

    all_allowed : (run : List (ℕ × ℚ)) → AllByRecursion (IsAllowed l) run → AllByRecursion (IsAllowed (l ++ m)) run
    all_allowed [] h = tt
    all_allowed (e ∷ run) h = (still_allowed e h.0, all_allowed run h.1)

    same_sum : (run : List (ℕ × ℚ)) → AllByRecursion (IsAllowed l) run → weighted_sum (l ++ m) run ≡ weighted_sum l run
    same_sum [] h = refl
    same_sum (e ∷ run) h =
        ap₂ (λ o s. sum_form (scaled_form e.1 (form_or_zero o)) s) (stays l e.0 (λ c. Allows c.relation e.1) h.0) (same_sum run h.1)

    still_strict : (run : List (ℕ × ℚ)) → SomeStrict l run → SomeStrict (l ++ m) run
    still_strict [] h = absurd h
    still_strict (e ∷ run) (inl h) =
        inl (subst (λ o. IsSomeAnd o (λ c. (c.relation ≡ Gt) × IsPositive e.1)) (sym (stays l e.0 (λ c. (c.relation ≡ Gt) × IsPositive e.1) h)) h)
    still_strict (e ∷ run) (inr h) = inr (still_strict run h)

    still_false : (run : List (ℕ × ℚ)) → IsFalseRun l run → IsFalseRun (l ++ m) run
    still_false run h = record {
      allowed = all_allowed run h.allowed;
      no_variable = subst HasNoVariable (sym (same_sum run h.allowed)) h.no_variable;
      wrong = subst (λ (f : Linear). (f.constant <ℚ 0ℚ) ⊎ ((f.constant ≡ 0ℚ) × SomeStrict (l ++ m) run)) (sym (same_sum run h.allowed)) (wrong h.wrong);
    }
      where
        wrong : ((weighted_sum l run).constant <ℚ 0ℚ) ⊎ (((weighted_sum l run).constant ≡ 0ℚ) × SomeStrict l run)
            → ((weighted_sum l run).constant <ℚ 0ℚ) ⊎ (((weighted_sum l run).constant ≡ 0ℚ) × SomeStrict (l ++ m) run)
        wrong (inl i) = inl i
        wrong (inr i) = inr (i.0, still_strict run i.1)

    still_behind : (n : ℕ) (q : ℚ) (run : List (ℕ × ℚ)) → IsSomeAnd (member l n) (λ c. c.relation ≡ Ne) → IsFalseBehind l (n, q) run → IsFalseBehind (l ++ m) (n, q) run
    still_behind n q run d h = record {
      allowed = all_allowed run h.allowed;
      no_variable = subst HasNoVariable (sym same) h.no_variable;
      wrong = subst (λ (f : Linear). f.constant ≤ℚ 0ℚ) (sym same) h.wrong;
    }
      where
        same : weighted_sum (l ++ m) ((n, q) ∷ run) ≡ weighted_sum l ((n, q) ∷ run)
        same = ap₂ (λ o s. sum_form (scaled_form q (form_or_zero o)) s) (stays l n (λ c. c.relation ≡ Ne) d) (same_sum run h.allowed)

    both_still : (cert : List (ℕ × ℚ)) → AreFalseRuns l cert → AreFalseRuns (l ++ m) cert
    both_still cert h = record {
      number = h.number;
      disequation = subst (λ o. IsSomeAnd o (λ c. c.relation ≡ Ne)) (sym (stays l h.number (λ c. c.relation ≡ Ne) h.disequation)) h.disequation;
      up = h.up;
      down = h.down;
      up_is_positive = h.up_is_positive;
      down_is_negative = h.down_is_negative;
      first = h.first;
      second = h.second;
      parts = h.parts;
      not_above = still_behind h.number h.up h.first h.disequation h.not_above;
      not_below = still_behind h.number h.down h.second h.disequation h.not_below;
    }

    pub goes_on : (cert : List (ℕ × ℚ)) → Refutes cert l → Refutes cert (l ++ m)
    goes_on cert (inl h) = inl (still_false cert h)
    goes_on cert (inr h) = inr (both_still cert h)
