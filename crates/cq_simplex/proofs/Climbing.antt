-- One exchange more of a climb.
use Rattle.std.proofs.Common.{◌≡◌, ℕ, ◌≤◌, List, length, Bool, true, [], pos, refl, ap, sym, subst, ◌∙◌}
use Rattle.spec_numbers.specs.Rational.{ℚ, neg_ℚ, IsPositive, ◌≤ℚ◌}
use Rattle.spec_numbers.proofs.Ring.{int, minus}
use Rattle.spec_numbers.proofs.RationalLemmas.{ring}
use Rattle.spec_numbers.proofs.Sign.{not_pos_zero, not_both, pos_nonneg}
use Rattle.spec_simplex.specs.Dictionary.{IsDictionary, Satisfies, AreEquivalent, IsFeasible}
use Rattle.spec_simplex.specs.Rule.{Exchanged, Raises, Leaves}
use Rattle.spec_simplex.proofs.Solutions.{true_not_false}
use Rattle.cq_dict.specs.declared.table.Role.{Role}
use Rattle.cq_dict.specs.declared.table.Role.TheVariants.{Live}
use Rattle.cq_dict.specs.DictValue.{DictValue}
use Rattle.cq_dict.specs.Roles.{IsRow, AreOverColumns, HasEntry, IsExchanged, is_live, is_dropped, is_restricted, is_row, constant_at, factor_at}
use Rattle.cq_dict.specs.Dict.{SameMeaning}
use Rattle.cq_dict.proofs.Roles.{live_at, found, is_row_of, live_is_no_row, row_on}
use Rattle.cq_simplex.specs.declared.Aim.{Aim}
use Rattle.cq_simplex.specs.declared.Max.{Max}
use Rattle.cq_simplex.specs.declared.Max.TheVariants as max_of
use Rattle.cq_simplex.specs.Answers.{IsAdmitted, IsSolution, IsAnswer}
use Rattle.cq_simplex.specs.Dictionary.{dictionary, IsReached}
use Rattle.cq_simplex.proofs.Roles.{dropped_after}
use Rattle.cq_simplex.proofs.Columns.{is_dictionary}
use Rattle.cq_simplex.proofs.Entries.{has_entry}
use Rattle.cq_simplex.proofs.Steps.{carried}
use Rattle.cq_simplex.specs.Climbs.{IsCarried}
use Rattle.cq_simplex.proofs.ClimbRising.{feasible_still, not_lower}

pub record Climbing (asked : ℕ) (old now : DictValue) : Type 0 where
  pub flags : now.restricted ≡ old.restricted
  pub saved : now.saved ≡ old.saved
  pub room : old.room ≤ now.room
  pub carried : IsCarried old.roles old.restricted asked now.roles
  pub higher : constant_at old.roles asked ≤ℚ constant_at now.roles asked

pub stays_carried : (flags : List Bool) (asked : ℕ) (roles : List Role) → AreOverColumns roles → IsRow roles asked → IsFeasible (is_restricted flags) (dictionary roles asked)
    → IsCarried roles flags asked roles
stays_carried flags asked roles t r f = record {
  table = t;
  size = refl;
  same = λ x. (λ m. m, λ m. m);
  dropped = λ c. refl;
  asked_row = r;
  feasible = f;
}

-- a column that raises the row, and the row that limits it first
module _ (flags : List Bool) (asked : ℕ) (now : List Role) (entering leaving : ℕ) (raises : Raises (is_restricted flags) (dictionary now asked) entering)
    (leaves : Leaves (is_restricted flags) (dictionary now asked) entering leaving) where
  pub rise_entry : HasEntry now leaving entering
  rise_entry =
      has_entry now leaving entering leaves.limits.row
      (λ e. not_pos_zero (subst IsPositive (ap neg_ℚ e ∙ ring [] (minus (int (pos 0))) (int (pos 0)) refl) leaves.limits.falls))

  module _ (old new : List Role) (h : IsCarried old flags asked now) (same : SameMeaning now new) (x : IsExchanged now leaving entering new) (t : AreOverColumns new) where
    column : is_live now entering ≡ true
    column = raises.column

    not_leaving : asked ≡ leaving → ⊥
    not_leaving e =
        not_both (subst (λ q. IsPositive (factor_at now q entering)) e raises.coefficient) (pos_nonneg leaves.limits.falls)

    not_entering : asked ≡ entering → ⊥
    not_entering e =
        true_not_false (is_row now entering) (subst (λ q. is_row now q ≡ true) e (is_row_of now asked h.asked_row)) (live_is_no_row now entering column)

    asked_after : IsRow new asked
    asked_after = row_on now new asked (x.others asked not_leaving not_entering) h.asked_row

    leaving_row : IsRow now leaving
    leaving_row = let f = found now leaving leaves.limits.row in (f.row, f.at)

    dropped_now : (q : ℕ) → is_dropped new q ≡ is_dropped now q
    dropped_now = dropped_after now new leaving entering leaving_row column x

    exchanged : Exchanged (dictionary now asked) entering leaving (dictionary new asked)
    exchanged = record {
      row = is_row_of new entering x.enters;
      column = live_at new leaving Live x.leaves;
      other_rows = λ q k l. (x.others q l k).row;
      other_columns = λ q k l. (x.others q l k).live;
    }

    dictionary_now : IsDictionary (length now) (dictionary now asked)
    dictionary_now = is_dictionary now h.table asked

    dictionary_new : IsDictionary (length now) (dictionary new asked)
    dictionary_new = subst (λ k. IsDictionary k (dictionary new asked)) x.size (is_dictionary new t asked)

    alike : AreEquivalent (length now) (dictionary now asked) (dictionary new asked)
    alike y z = (
      λ s. subst (λ k. Satisfies k (dictionary new asked) y z) x.size
          (carried now new asked h.table t h.asked_row asked_after (λ v m. (same v).0 m) dropped_now y z s),
      λ s. carried new now asked t h.table asked_after h.asked_row (λ v m. (same v).1 m) (λ q. sym (dropped_now q)) y z
          (subst (λ k. Satisfies k (dictionary new asked) y z) (sym x.size) s),
    )

    feasible_after : IsFeasible (is_restricted flags) (dictionary new asked)
    feasible_after =
        feasible_still (length now) (is_restricted flags) (dictionary now asked) (dictionary new asked) dictionary_now dictionary_new alike entering leaving
        column raises.flag leaves exchanged h.feasible

    pub carried_on : IsCarried old flags asked new
    carried_on = record {
      table = t;
      size = x.size ∙ h.size;
      same = λ y. (λ m. (same y).0 ((h.same y).0 m), λ m. (h.same y).1 ((same y).1 m));
      dropped = λ q. dropped_now q ∙ h.dropped q;
      asked_row = asked_after;
      feasible = feasible_after;
    }

    pub rises_on : constant_at now asked ≤ℚ constant_at new asked
    rises_on =
        not_lower (length now) (is_restricted flags) (dictionary now asked) (dictionary new asked) dictionary_now dictionary_new alike entering leaving
        column raises.flag leaves exchanged raises.coefficient feasible_after

-- ---- what the search finds in carried roles it finds in the old ones
module _ (old : List Role) (flags : List Bool) (asked : ℕ) (mid : List Role) (h : IsCarried old flags asked mid) where
  pub carried_further : (new : List Role) → IsCarried mid flags asked new → IsCarried old flags asked new
  carried_further new k = record {
    table = k.table;
    size = k.size ∙ h.size;
    same = λ x. (λ m. (k.same x).0 ((h.same x).0 m), λ m. (h.same x).1 ((k.same x).1 m));
    dropped = λ q. k.dropped q ∙ h.dropped q;
    asked_row = k.asked_row;
    feasible = k.feasible;
  }

  pub carried_reached : (n : ℕ) (new : List Role) → IsReached flags asked mid n new → IsCarried old flags asked new
  carried_reached n new r = carried_further new (record {
    table = r.table;
    size = r.size;
    same = r.same;
    dropped = r.dropped;
    asked_row = r.asked_row;
    feasible = r.feasible;
  })

  admitted_there : (x : ℕ → ℚ) → IsAdmitted old x → IsAdmitted mid x
  admitted_there x a = record { met = (h.same x).0 a.met; dropped = λ c e. a.dropped c (sym (h.dropped c) ∙ e) }

  admitted_back : (x : ℕ → ℚ) → IsAdmitted mid x → IsAdmitted old x
  admitted_back x a = record { met = (h.same x).1 a.met; dropped = λ c e. a.dropped c (h.dropped c ∙ e) }

  solution_there : (x : ℕ → ℚ) → IsSolution old flags x → IsSolution mid flags x
  solution_there x s = record { admitted = admitted_there x s.admitted; obeys = s.obeys }

  solution_back : (x : ℕ → ℚ) → IsSolution mid flags x → IsSolution old flags x
  solution_back x s = record { admitted = admitted_back x s.admitted; obeys = s.obeys }

  pub answers_back : (aim : Aim) (new : List Role) (max : Max) → IsAnswer mid flags asked aim new max → IsAnswer old flags asked aim new max
  answers_back aim new (max_of.At v multipliers) a = (
    record { bound = λ x s. a.0.bound x (solution_there x s); reached = solution_back _ a.0.reached; value = a.0.value },
    record {
      written = λ x s. a.1.written x (admitted_there x s);
      positive = a.1.positive;
      live = a.1.live;
      restricted = a.1.restricted;
      entries = a.1.entries;
    },
    a.2,
  )
  answers_back aim new max_of.Positive a = a
  answers_back aim new (max_of.Unbounded c) a = (λ r. let x = a.0 r in (x.0, solution_back x.0 x.1, x.2), a.1)
