-- What is found in the last dictionary, as an answer about the first.
use Rattle.std.proofs.Common.{◌≡◌, ℕ, ◌≤◌, ◌^◌, List, [], ◌∷◌, length, Bool, true, false, pos, arith, refl, ap, ap₂, sym, subst, ◌∙◌, inl, inr}
use Rattle.spec_numbers.specs.Rational.{ℚ, 0ℚ, ◌+ℚ◌, ◌-ℚ◌, neg_ℚ, IsPositive, IsNotNegative, ◌≤ℚ◌, ◌<ℚ◌}
use Rattle.spec_numbers.proofs.Ring.{var, int, ◌⊕◌, minus}
use Rattle.spec_numbers.proofs.RationalLemmas.{ring}
use Rattle.spec_numbers.proofs.Sign.{nonneg_zero, Sign, is_zero, is_pos, is_neg, sign}
use Rattle.spec_simplex.specs.Dictionary.{Dictionary, IsDictionary, Satisfies, Obeys, IsFeasible, Exceeds, basic_solution, pick}
use Rattle.spec_simplex.specs.Dictionary as of_spec
use Rattle.spec_simplex.specs.Rule.{IsOptimal}
use Rattle.spec_simplex.proofs.Solutions.{pick_true, pick_false, basic_satisfies}
use Rattle.spec_simplex.proofs.Ends.{greatest_value, unlimited_value, free_value, basic_obeys}
use Rattle.spec_simplex.proofs.Lengths.{chain_short}
use Rattle.cq_frac.specs.declared.row.Entry.{Entry}
use Rattle.cq_frac.specs.Row.{Row}
use Rattle.cq_frac.specs.Rows.{sum_at, Has, negated}
use Rattle.cq_frac.proofs.Units.{sum_at-negated}
use Rattle.cq_frac.proofs.Shifts.{entry_not_zero}
use Rattle.cq_dict.specs.declared.table.Role.{Role}
use Rattle.cq_dict.specs.declared.table.Role.TheVariants.{Basic}
use Rattle.cq_dict.specs.Roles.{IsAt, is_live, is_dropped, is_restricted, constant_at, is_row}
use Rattle.cq_simplex.specs.declared.Aim.{Aim}
use Rattle.cq_simplex.specs.declared.Max.{Max}
use Rattle.cq_simplex.specs.declared.Max.TheVariants as max_of
use Rattle.cq_simplex.specs.Dictionary.{dictionary, IsReached}
use Rattle.cq_simplex.specs.Answers.{IsAdmitted, IsSolution, IsMaximum, AreMultipliers, RisesWithoutEnd, IsAnswer, AreSpent}
use Rattle.cq_simplex.specs.Turns.{IsFound}
use Rattle.cq_dict.proofs.Roles.{is_row_of, row_is_not_dropped, dropped_is_no_row, constant_is}
use Rattle.cq_simplex.proofs.Columns.{is_dictionary, satisfies, admitted, admitted_as, cleared, cleared_is, asked_is, entry_live, sum_zero}
use Rattle.cq_simplex.proofs.Entries.{raises_is, factor_of, negated_entry}

module _ (flags : List Bool) (asked : ℕ) (old : List Role) (n : ℕ) (now : List Role) (h : IsReached flags asked old n now) where
  abbrev d : Dictionary
  d = dictionary now asked

  is_one : IsDictionary (length now) d
  is_one = is_dictionary now h.table asked

  admitted_now : (x : ℕ → ℚ) → IsAdmitted old x → IsAdmitted now x
  admitted_now x a = record { met = (h.same x).0 a.met; dropped = λ c k. a.dropped c (sym (h.dropped c) ∙ k) }

  admitted_old : (x : ℕ → ℚ) → IsAdmitted now x → IsAdmitted old x
  admitted_old x a = record { met = (h.same x).1 a.met; dropped = λ c k. a.dropped c (h.dropped c ∙ k) }

  -- ---- a greatest value
  basic_admitted : IsAdmitted now (basic_solution d)
  basic_admitted =
      admitted_as now h.table asked (basic_solution d) (constant_at now asked)
      (λ c k. pick_false (is_row now c) (constant_at now c) 0ℚ (dropped_is_no_row now c k))
      (basic_satisfies (length now) d is_one)

  maximum : (v : ℚ) → v ≡ constant_at now asked → IsOptimal (is_restricted flags) d → IsMaximum old flags asked now v
  maximum v e o = record {
    bound = λ x s. subst (λ w. x asked ≤ℚ w) (sym e)
        ((greatest_value (length now) (is_restricted flags) d is_one h.feasible o).bound x (x asked) (satisfies now h.table asked h.asked_row x (admitted_now x s.admitted)) s.obeys);
    reached = record { admitted = admitted_old (basic_solution d) basic_admitted; obeys = basic_obeys (length now) (is_restricted flags) d is_one h.feasible };
    value = pick_true (is_row now asked) (constant_at now asked) 0ℚ (is_row_of now asked h.asked_row) ∙ sym e;
  }

  own : Row
  own = h.asked_row.0

  at : IsAt now asked (Basic own)
  unfolding own
  at = h.asked_row.1

  written : (v : ℚ) (ms : List Entry) → v ≡ constant_at now asked → ms ≡ negated own.live → (x : ℕ → ℚ) → IsAdmitted old x → x asked ≡ v -ℚ sum_at x ms
  written v ms e m x a =
      let b = admitted_now x a in
      b.met.rows asked own at
      ∙ ap (λ w. own.constant +ℚ (sum_at x own.live +ℚ w)) (sum_zero (is_dropped now) 0 x own.dropped (h.table.rows asked own at).dropped_row b.dropped)
      ∙ ring (own.constant ∷ sum_at x own.live ∷ []) (var 0 ⊕ (var 1 ⊕ int (pos 0))) (var 0 ⊕ minus (minus (var 1))) refl
      ∙ ap₂ (λ u w. u -ℚ w) (sym (e ∙ constant_is now asked own at)) (sym (ap (sum_at x) m ∙ sum_at-negated x own.live))

  module _ (o : IsOptimal (is_restricted flags) d) (m : Entry) (k : Has m own.live) where
    entry_is : m.factor ≡ 0ℚ → ⊥
    entry_is = entry_not_zero (is_live now) 0 own.live m.quantity m.factor (h.table.rows asked own at).live_row k

    flagged : (b : Bool) → is_restricted flags m.quantity ≡ b → is_restricted flags m.quantity ≡ true
    flagged true e = e
    flagged false e = absurd (entry_is (sym (factor_of now flags h.table asked own at m k) ∙ o.other_columns m.quantity (entry_live now h.table asked asked own at m k) e))

    falls : Sign m.factor → IsPositive (neg_ℚ m.factor)
    falls (is_neg p) = p
    falls (is_zero e) = absurd (entry_is e)
    falls (is_pos p) = absurd (o.restricted_columns m.quantity (raises_is now flags h.table asked own at m k (p, flagged (is_restricted flags m.quantity) refl)))

  multipliers : (v : ℚ) (ms : List Entry) → v ≡ constant_at now asked → IsOptimal (is_restricted flags) d → ((r : Row) → IsAt now asked (Basic r) → ms ≡ negated r.live) → AreMultipliers old flags asked now v ms
  multipliers v ms e o entries =
      let m = entries own at in
      record {
        written = written v ms e m;
        positive = λ y k. let z = negated_entry own.live y (subst (Has y) m k) in subst IsPositive (sym z.3) (falls o z.0 z.1 (sign z.0.factor));
        live = λ y k. let z = negated_entry own.live y (subst (Has y) m k) in subst (λ q. is_live now q ≡ true) (sym z.2) (entry_live now h.table asked asked own at z.0 z.1);
        restricted = λ y k. let z = negated_entry own.live y (subst (Has y) m k) in
            subst (λ q. is_restricted flags q ≡ true) (sym z.2) (flagged o z.0 z.1 (is_restricted flags z.0.quantity) refl);
        entries = entries;
      }

  -- ---- no greatest value
  unbounded : of_spec.IsUnbounded (length now) (is_restricted flags) d → RisesWithoutEnd old flags asked
  unbounded u r = go (u r)
    where
      go : Exceeds (length now) (is_restricted flags) d r → (x : ℕ → ℚ) × IsSolution old flags x × (r <ℚ x asked)
      go e =
          let x = cleared now h.table asked e.at in (
            x,
            record {
              admitted = admitted_old x (admitted now h.table asked e.at e.value e.satisfies);
              obeys = λ q k. obeys q (e.obeys q k) (is_dropped now q);
            },
            subst (λ w. r <ℚ w)
                (asked_is now h.table asked h.asked_row e.at e.value e.satisfies
                ∙ sym (cleared_is now h.table asked e.at asked (row_is_not_dropped now asked (is_row_of now asked h.asked_row))))
                e.above,
          )
        where
          obeys : (q : ℕ) → IsNotNegative (e.at q) → (b : Bool) → IsNotNegative (pick b 0ℚ (e.at q))
          obeys q k true = nonneg_zero
          obeys q k false = k

  pub answers : (aim : Aim) (max : Max) → IsFound now flags asked aim max → IsAnswer old flags asked aim now max
  answers aim (max_of.At v ms) f = (maximum v f.1 f.0, multipliers v ms.items f.1 f.0 f.2, f.3)
  answers aim max_of.Positive f = f
  answers aim (max_of.Unbounded c) (inl u) = (unbounded (unlimited_value (length now) (is_restricted flags) d is_one h.feasible c u), inl u)
  answers aim (max_of.Unbounded c) (inr u) = (unbounded (free_value (length now) (is_restricted flags) d is_one h.feasible c u), inr u)

-- ---- a budget that suffices
pub suffices : (flags : List Bool) (asked : ℕ) (old : List Role) (aim : Aim) (budget : ℕ) (new : List Role) → IsFeasible (is_restricted flags) (dictionary old asked) → AreSpent old flags asked aim budget new → 2 ^ length old ≤ budget → ⊥
suffices flags asked old aim budget new f s e =
    let short = chain_short (length old) (is_restricted flags) (dictionary old asked) budget (dictionary new asked) f s.reached.chain in
    omega (arith, short, e)
