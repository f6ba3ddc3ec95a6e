-- A certificate refutes: where the list holds, the weighted forms of a run are not below zero, so their sum is no false number.
use Rattle.std.proofs.Common.{◌≡◌, ◌⊎◌, inl, inr, ℕ, zero, suc, List, [], ◌∷◌, Option, None, Some, pos, refl, ap, sym, subst, ◌∙◌}
use Rattle.std.specs.Prelude.{⊤, slice_get, IsSomeAnd, MatchOption}
use Rattle.std.specs.List.{AllByRecursion}
use Rattle.spec_numbers.specs.Rational.{ℚ, 0ℚ, ◌+ℚ◌, ◌*ℚ◌, neg_ℚ, IsPositive, IsNotNegative, ◌<ℚ◌}
use Rattle.spec_numbers.proofs.Ring.{var, int, ◌⊕◌, ◌⊗◌, minus}
use Rattle.spec_numbers.proofs.RationalLemmas.{ring, add_comm}
use Rattle.spec_numbers.proofs.Sign.{pos_add, nonneg_add, pos_mul, nonneg_mul, pos_nonneg, nonneg_zero, Sign, is_zero, is_pos, is_neg, sign}
use Rattle.spec_numbers.proofs.Order.{lt_to_pos, nonneg_to_le, pos_to_lt, lt_le_false}
use Rattle.spec_linear.specs.declared.Relation.{Relation}
use Rattle.spec_linear.specs.declared.Relation.TheVariants.{Eq, Gt, Ge, Ne}
use Rattle.spec_linear.specs.Form.{Linear, value_at, scaled_form}
use Rattle.spec_linear.specs.Solution.{Constraint, Meets, number, Unsolvable, HoldsAt, Satisfies}
use Rattle.spec_linear.proofs.Values.{value_at-constant_form, value_at-sum_form, value_at-scaled_form}
use Rattle.spec_linear.proofs.Points.{solves_same}
use Rattle.spec_linear.specs.Certificate.{member, form_or_zero, weighted_sum, Allows, IsAllowed, SomeStrict, IsFalseRun, IsFalseBehind, AreFalseRuns, Refutes}
use Rattle.spec_linear.proofs.NoVariable.{number_everywhere}

-- ---- one weighted form

place_holds : (a : ℕ → ℚ) (l : List Constraint) (place : ℕ) → Satisfies a l → MatchOption (slice_get l place) ⊤ (HoldsAt a)
place_holds a [] place s = tt
place_holds a (c ∷ l) zero s = s.0
place_holds a (c ∷ l) (suc place) s = place_holds a l place s.1

-- a member holds where the list does
member_holds : (a : ℕ → ℚ) (l : List Constraint) (n : ℕ) → Satisfies a l → MatchOption (member l n) ⊤ (HoldsAt a)
member_holds a l zero s = tt
member_holds a l (suc place) s = place_holds a l place s

times_not_negative : (r : Relation) (t q : ℚ) → Allows r t → Meets r q → IsNotNegative (t *ℚ q)
times_not_negative Eq t q h k = subst IsNotNegative (ring (t ∷ []) (int (pos 0)) (var 0 ⊗ int (pos 0)) refl ∙ ap (λ w. t *ℚ w) (sym k)) nonneg_zero
times_not_negative Gt t q h k = nonneg_mul h (pos_nonneg k)
times_not_negative Ge t q h k = nonneg_mul h k
times_not_negative Ne t q h k = absurd h

weighted_not_negative : (a : ℕ → ℚ) (t : ℚ) (o : Option Constraint) → IsSomeAnd o (λ c. Allows c.relation t) → MatchOption o ⊤ (HoldsAt a) → IsNotNegative (t *ℚ value_at a (form_or_zero o))
weighted_not_negative a t None h k = absurd h
weighted_not_negative a t (Some c) h k = times_not_negative c.relation t (value_at a c.form) h k

weighted_positive : (a : ℕ → ℚ) (t : ℚ) (o : Option Constraint) → IsSomeAnd o (λ c. (c.relation ≡ Gt) × IsPositive t) → MatchOption o ⊤ (HoldsAt a) → IsPositive (t *ℚ value_at a (form_or_zero o))
weighted_positive a t None h k = absurd h
weighted_positive a t (Some c) h k = pos_mul h.1 (subst (λ r. Meets r (value_at a c.form)) h.0 k)

disequation_holds : (a : ℕ → ℚ) (o : Option Constraint) → IsSomeAnd o (λ c. c.relation ≡ Ne) → MatchOption o ⊤ (HoldsAt a) → value_at a (form_or_zero o) ≡ 0ℚ → ⊥
disequation_holds a None h k z = absurd h
disequation_holds a (Some c) h k z = subst (λ r. Meets r (value_at a c.form)) h k z

-- ---- the sum

module _ (a : ℕ → ℚ) (l : List Constraint) (s : Satisfies a l) where
  abbrev weighted : ℕ × ℚ → ℚ
  weighted e = e.1 *ℚ value_at a (form_or_zero (member l e.0))

  sum_is : (e : ℕ × ℚ) (run : List (ℕ × ℚ)) → value_at a (weighted_sum l (e ∷ run)) ≡ weighted e +ℚ value_at a (weighted_sum l run)
  sum_is e run =
      let f : Linear = form_or_zero (member l e.0) in
      value_at-sum_form a (scaled_form e.1 f) (weighted_sum l run) ∙ ap (λ w. w +ℚ value_at a (weighted_sum l run)) (value_at-scaled_form a e.1 f)

  sum_not_negative : (run : List (ℕ × ℚ)) → AllByRecursion (IsAllowed l) run → IsNotNegative (value_at a (weighted_sum l run))
  sum_not_negative [] h = subst IsNotNegative (sym (value_at-constant_form a 0ℚ)) nonneg_zero
  sum_not_negative (e ∷ run) h =
      subst IsNotNegative (sym (sum_is e run)) (nonneg_add (weighted_not_negative a e.1 (member l e.0) h.0 (member_holds a l e.0 s)) (sum_not_negative run h.1))

  -- a positive form in front
  sum_positive_first : (e : ℕ × ℚ) (run : List (ℕ × ℚ)) → IsPositive (weighted e) → AllByRecursion (IsAllowed l) run → IsPositive (value_at a (weighted_sum l (e ∷ run)))
  sum_positive_first e run p h = subst IsPositive (sym (sum_is e run)) (pos_add p (sum_not_negative run h))

  sum_positive : (run : List (ℕ × ℚ)) → AllByRecursion (IsAllowed l) run → SomeStrict l run → IsPositive (value_at a (weighted_sum l run))
  sum_positive [] h k = absurd k
  sum_positive (e ∷ run) h (inl k) = sum_positive_first e run (weighted_positive a e.1 (member l e.0) k (member_holds a l e.0 s)) h.1
  sum_positive (e ∷ run) h (inr k) =
      subst IsPositive (add_comm (value_at a (weighted_sum l run)) (weighted e) ∙ sym (sum_is e run))
      (pos_add (sum_positive run h.1 k) (weighted_not_negative a e.1 (member l e.0) h.0 (member_holds a l e.0 s)))

  -- ---- a false run

  no_false_run : (run : List (ℕ × ℚ)) → IsFalseRun l run → ⊥
  no_false_run run f = go f.wrong
    where
      e : value_at a (weighted_sum l run) ≡ (weighted_sum l run).constant
      e = number_everywhere (weighted_sum l run) f.no_variable a

      go : ((weighted_sum l run).constant <ℚ 0ℚ) ⊎ (((weighted_sum l run).constant ≡ 0ℚ) × SomeStrict l run) → ⊥
      go (inl h) = lt_le_false h (nonneg_to_le (subst IsNotNegative e (sum_not_negative run f.allowed)))
      go (inr h) = lt_le_false (pos_to_lt (subst IsPositive (e ∙ h.0) (sum_positive run f.allowed h.1))) (nonneg_to_le nonneg_zero)

  no_false_run_behind : (e : ℕ × ℚ) (run : List (ℕ × ℚ)) → IsFalseBehind l e run → IsPositive (weighted e) → ⊥
  no_false_run_behind e run f p =
      lt_le_false
      (pos_to_lt (subst IsPositive (number_everywhere (weighted_sum l (e ∷ run)) f.no_variable a) (sum_positive_first e run p f.allowed))) f.wrong

  no_false_runs : (cert : List (ℕ × ℚ)) → AreFalseRuns l cert → ⊥
  no_false_runs cert f = go (sign q)
    where
      q : ℚ
      q = value_at a (form_or_zero (member l f.number))

      negative : IsPositive (neg_ℚ f.down)
      negative = subst IsPositive (ring (f.down ∷ []) (int (pos 0) ⊕ minus (var 0)) (minus (var 0)) refl) f.down_is_negative.gap

      go : Sign q → ⊥
      go (is_zero z) = disequation_holds a (member l f.number) f.disequation (member_holds a l f.number s) z
      go (is_pos p) = no_false_run_behind (f.number, f.up) f.first f.not_above (pos_mul (lt_to_pos f.up_is_positive) p)
      go (is_neg p) =
          no_false_run_behind (f.number, f.down) f.second f.not_below
          (subst IsPositive (ring (f.down ∷ q ∷ []) (minus (var 0) ⊗ minus (var 1)) (var 0 ⊗ var 1) refl) (pos_mul negative p))

  no_certificate : (cert : List (ℕ × ℚ)) → Refutes cert l → ⊥
  no_certificate cert (inl f) = no_false_run cert f
  no_certificate cert (inr f) = no_false_runs cert f

pub refuted : (cert : List (ℕ × ℚ)) (l : List Constraint) → Refutes cert l → Unsolvable l
refuted cert l r p h = no_certificate (number p) l ((solves_same p l).0 h) cert r
