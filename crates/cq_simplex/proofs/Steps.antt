-- One exchange more: what was reached goes on.
use Rattle.std.proofs.Common.{◌≡◌, ℕ, suc, ◌+◌, List, [], length, Bool, true, pos, arith, refl, ap, sym, subst, ◌∙◌}
use Rattle.spec_numbers.specs.Rational.{ℚ, neg_ℚ, IsPositive}
use Rattle.spec_numbers.proofs.Ring.{int, minus}
use Rattle.spec_numbers.proofs.RationalLemmas.{ring}
use Rattle.spec_numbers.proofs.Sign.{not_pos_zero, not_both, pos_nonneg}
use Rattle.spec_simplex.specs.Dictionary.{IsDictionary, Satisfies, AreEquivalent, IsFeasible}
use Rattle.spec_simplex.specs.Rule.{IsDue, Exchanged, Chain}
use Rattle.spec_simplex.proofs.Solutions.{writes, alike_itself, true_not_false}
use Rattle.spec_simplex.proofs.Chains.{no_exchange, one_more}
use Rattle.spec_simplex.proofs.Exchanges.{feasible_after}
use Rattle.cq_dict.specs.declared.table.Role.{Role}
use Rattle.cq_dict.specs.declared.table.Role.TheVariants.{Live}
use Rattle.cq_dict.specs.Roles.{IsRow, AreOverColumns, IsMet, HasEntry, IsExchanged, is_live, is_dropped, is_restricted, is_row, factor_at}
use Rattle.cq_dict.specs.Dict.{SameMeaning}
use Rattle.cq_dict.proofs.Roles.{live_at, found, is_row_of, live_is_no_row, row_is_not_dropped, row_on}
use Rattle.cq_simplex.specs.Dictionary.{dictionary, IsReached}
use Rattle.cq_simplex.specs.Answers.{IsAdmitted}
use Rattle.cq_simplex.proofs.Roles.{dropped_after}
use Rattle.cq_simplex.proofs.Columns.{is_dictionary, satisfies, agrees, admitted, cleared, cleared_is, asked_is}
use Rattle.cq_simplex.proofs.Entries.{has_entry}

-- what satisfies one table's dictionary satisfies another's, where the same assignments meet both
pub carried : (one two : List Role) (asked : ℕ) → AreOverColumns one → AreOverColumns two → IsRow one asked → IsRow two asked →
    ((x : ℕ → ℚ) → IsMet x one → IsMet x two) → ((c : ℕ) → is_dropped two c ≡ is_dropped one c) →
    (x : ℕ → ℚ) (z : ℚ) → Satisfies (length one) (dictionary one asked) x z → Satisfies (length two) (dictionary two asked) x z
carried one two asked t u r v met dropped x z s =
    let y = cleared one t asked x in
    let a = admitted one t asked x z s in
    let b : IsAdmitted two y = record { met = met y a.met; dropped = λ c h. a.dropped c (sym (dropped c) ∙ h) } in
    let own : y asked ≡ x asked = cleared_is one t asked x asked (row_is_not_dropped one asked (is_row_of one asked r)) in
    agrees two u asked y x z (λ q h. sym (cleared_is one t asked x q (sym (dropped q) ∙ h)))
    (subst (λ w. Satisfies (length two) (dictionary two asked) y w) (own ∙ sym (asked_is one t asked r x z s)) (satisfies two u asked v y b))

pub begins : (flags : List Bool) (asked : ℕ) (roles : List Role) → AreOverColumns roles → IsRow roles asked → IsFeasible (is_restricted flags) (dictionary roles asked) → IsReached flags asked roles 0 roles
begins flags asked roles t r f = record {
  table = t;
  size = refl;
  same = λ x. (λ m. m, λ m. m);
  dropped = λ c. refl;
  asked_row = r;
  feasible = f;
  chain = no_exchange (length roles) (is_restricted flags) (dictionary roles asked) (is_dictionary roles t asked);
}

-- the row and the column of an exchange that is due
pub due_entry : (roles : List Role) (restricted : ℕ → Bool) (asked c r : ℕ) → IsDue restricted (dictionary roles asked) c r → HasEntry roles r c
due_entry roles restricted asked c r d =
    has_entry roles r c d.leaves.limits.row
    (λ e. not_pos_zero (subst IsPositive (ap neg_ℚ e ∙ ring [] (minus (int (pos 0))) (int (pos 0)) refl) d.leaves.limits.falls))

module _ (flags : List Bool) (asked : ℕ) (old : List Role) (n : ℕ) (now new : List Role) (h : IsReached flags asked old n now) (c r : ℕ) (due : IsDue (is_restricted flags) (dictionary now asked) c r) (same : SameMeaning now new) (x : IsExchanged now r c new) (t : AreOverColumns new) where
  column : is_live now c ≡ true
  column = due.enters.raises.column

  not_leaving : asked ≡ r → ⊥
  not_leaving e =
      not_both (subst (λ q. IsPositive (factor_at now q c)) e due.enters.raises.coefficient) (pos_nonneg due.leaves.limits.falls)

  not_entering : asked ≡ c → ⊥
  not_entering e = true_not_false (is_row now c) (subst (λ q. is_row now q ≡ true) e (is_row_of now asked h.asked_row)) (live_is_no_row now c column)

  asked_after : IsRow new asked
  asked_after = row_on now new asked (x.others asked not_leaving not_entering) h.asked_row

  leaving_row : IsRow now r
  leaving_row = let f = found now r due.leaves.limits.row in (f.row, f.at)

  dropped_now : (q : ℕ) → is_dropped new q ≡ is_dropped now q
  dropped_now = dropped_after now new r c leaving_row column x

  exchanged : Exchanged (dictionary now asked) c r (dictionary new asked)
  exchanged = record {
    row = is_row_of new c x.enters;
    column = live_at new r Live x.leaves;
    other_rows = λ q k l. (x.others q l k).row;
    other_columns = λ q k l. (x.others q l k).live;
  }

  size_now : length now ≡ length old
  size_now = h.size

  size_new : length new ≡ length old
  size_new = x.size ∙ h.size

  dictionary_now : IsDictionary (length old) (dictionary now asked)
  dictionary_now = subst (λ k. IsDictionary k (dictionary now asked)) size_now (is_dictionary now h.table asked)

  dictionary_new : IsDictionary (length old) (dictionary new asked)
  dictionary_new = subst (λ k. IsDictionary k (dictionary new asked)) size_new (is_dictionary new t asked)

  alike : AreEquivalent (length old) (dictionary now asked) (dictionary new asked)
  alike y z = (
    λ s. subst (λ k. Satisfies k (dictionary new asked) y z) size_new
        (carried now new asked h.table t h.asked_row asked_after (λ v m. (same v).0 m) dropped_now y z (subst (λ k. Satisfies k (dictionary now asked) y z) (sym size_now) s)),
    λ s. subst (λ k. Satisfies k (dictionary now asked) y z) size_now
        (carried new now asked t h.table asked_after h.asked_row (λ v m. (same v).1 m) (λ q. sym (dropped_now q)) y z (subst (λ k. Satisfies k (dictionary new asked) y z) (sym size_new) s)),
  )

  pub step : IsReached flags asked old (n + 1) new
  step = record {
    table = t;
    size = size_new;
    same = λ y. (λ m. (same y).0 ((h.same y).0 m), λ m. (h.same y).1 ((same y).1 m));
    dropped = λ q. dropped_now q ∙ h.dropped q;
    asked_row = asked_after;
    feasible = feasible_after (length old) (Satisfies (length old) (dictionary now asked)) (is_restricted flags) (dictionary now asked) (dictionary new asked) c r
        (writes (length old) (dictionary now asked) (dictionary now asked) dictionary_now (alike_itself (length old) (dictionary now asked)))
        (writes (length old) (dictionary now asked) (dictionary new asked) dictionary_new alike)
        h.feasible due exchanged;
    chain = let e : suc n ≡ n + 1 = omega arith in
        subst (λ k. Chain (length old) (is_restricted flags) (dictionary old asked) k (dictionary new asked)) e
        (one_more (length old) (is_restricted flags) (dictionary old asked) n (dictionary now asked) (dictionary new asked) h.chain c r dictionary_new alike due exchanged);
  }
