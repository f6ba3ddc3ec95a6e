-- An exchange of any restricted column with a row of the least ratio keeps a dictionary feasible: what is asked doesn't matter, so the
-- column's own amount is asked for instead, and the exchange is due by the rule.
use Rattle.std.proofs.Common.{◌≡◌, ℕ, ◌≤◌, Bool, true, false, nat_eq, [], ◌∷◌, pos, arith, refl, ap, sym, subst, ◌∙◌, ◌⊎◌, inl, inr}
use Rattle.spec_numbers.specs.Rational.{ℚ, 0ℚ, 1ℚ, ◌+ℚ◌, ◌*ℚ◌, ◌-ℚ◌, ◌≤ℚ◌, IsPositive, IsNotNegative}
use Rattle.spec_numbers.proofs.Ring.{var, int, ◌⊕◌, ◌⊗◌, minus}
use Rattle.spec_numbers.proofs.RationalLemmas.{ring}
use Rattle.spec_numbers.proofs.Sign.{not_pos_zero, pos_one, nonneg_mul, pos_nonneg}
use Rattle.spec_simplex.specs.Dictionary.{Dictionary, IsDictionary, Satisfies, AreEquivalent, IsFeasible, sum_below, pick, basic_solution}
use Rattle.spec_simplex.specs.Rule.{Limits, Leaves, IsDue, Exchanged}
use Rattle.spec_simplex.proofs.Sums.{equal_or_not, sum_only}
use Rattle.spec_simplex.proofs.Solutions.{writes, alike_itself, true_not_false, pick_true, pick_false}
use Rattle.spec_simplex.proofs.Exchanges.{feasible_after}
use Rattle.spec_numbers.proofs.Tests.{nat_eq-self, nat_eq-apart}

module _ (size : ℕ) (restricted : ℕ → Bool) (d e : Dictionary) (wd : IsDictionary size d) (we : IsDictionary size e) (alike : AreEquivalent size d e)
    (c r : ℕ) (column : d.is_column c ≡ true) (flag : restricted c ≡ true) (leaves : Leaves restricted d c r) (ex : Exchanged d c r e) where
  abbrev own : ℕ → ℚ
  own q = pick (nat_eq q c) 1ℚ 0ℚ

  -- the dictionary with the column's amount asked, and the other one, where it is a row
  abbrev before : Dictionary
  before = record { is_row = d.is_row; is_column = d.is_column; constant = d.constant; entry = d.entry; value = 0ℚ; coefficient = own }

  abbrev after : Dictionary
  after = record { is_row = e.is_row; is_column = e.is_column; constant = e.constant; entry = e.entry; value = e.constant c; coefficient = e.entry c }

  own_other : (q : ℕ) → (q ≡ c → ⊥) → own q ≡ 0ℚ
  own_other q n = pick_false (nat_eq q c) 1ℚ 0ℚ (nat_eq-apart q c n)

  own_self : own c ≡ 1ℚ
  own_self = pick_true (nat_eq c c) 1ℚ 0ℚ (nat_eq-self c)

  no_column : (q : ℕ) → d.is_column q ≡ false → q ≡ c → ⊥
  no_column q h z = cc

  is_before : IsDictionary size before
  is_before = record {
    rows_below = wd.rows_below;
    columns_below = wd.columns_below;
    apart = wd.apart;
    no_other_entry = wd.no_other_entry;
    no_other_coefficient = λ q h. own_other q (no_column q h);
  }

  is_after : IsDictionary size after
  is_after = record {
    rows_below = we.rows_below;
    columns_below = we.columns_below;
    apart = we.apart;
    no_other_entry = we.no_other_entry;
    no_other_coefficient = we.no_other_entry c;
  }

  amount_is : (x : ℕ → ℚ) → 0ℚ +ℚ sum_below size (λ q. own q *ℚ x q) ≡ x c
  amount_is x =
      ap (λ s. 0ℚ +ℚ s) (sum_only size (λ q. own q *ℚ x q) c (wd.columns_below c column)
      (λ q n. ap (λ y. y *ℚ x q) (own_other q n) ∙ ring (x q ∷ []) (int (pos 0) ⊗ var 0) (int (pos 0)) refl))
      ∙ ap (λ y. 0ℚ +ℚ y *ℚ x c) own_self ∙ ring (x c ∷ []) (int (pos 0) ⊕ int (pos 1) ⊗ var 0) (var 0) refl

  same_values : AreEquivalent size before after
  same_values x z = (
    λ s.
        let t = (alike x (d.value +ℚ sum_below size (λ q. d.coefficient q *ℚ x q))).0 (record { rows = s.rows; asked = refl }) in
        record { rows = t.rows; asked = s.asked ∙ amount_is x ∙ t.rows c ex.row },
    λ s.
        let t = (alike x (e.value +ℚ sum_below size (λ q. e.coefficient q *ℚ x q))).1 (record { rows = s.rows; asked = refl }) in
        record { rows = t.rows; asked = s.asked ∙ sym (s.rows c ex.row) ∙ sym (amount_is x) },
  )

  is_own : (q : ℕ) → IsPositive (own q) → (q ≡ c) ⊎ (q ≡ c → ⊥) → c ≤ q
  is_own q h (inl z) = omega (arith, z)
  is_own q h (inr n) = absurd (not_pos_zero (subst IsPositive (own_other q n) h))

  here : (q : ℕ) → Limits restricted before c q → Limits restricted d c q
  here q l = record { row = l.row; flag = l.flag; falls = l.falls }

  due : IsDue restricted before c r
  due = record {
    enters = record {
      raises = record { column = column; flag = flag; coefficient = subst IsPositive (sym own_self) pos_one };
      least = λ q h. is_own q h.coefficient (equal_or_not q c);
    };
    leaves = record {
      limits = record { row = leaves.limits.row; flag = leaves.limits.flag; falls = leaves.limits.falls };
      least_ratio = λ q l. leaves.least_ratio q (here q l);
      least_number = λ q l h. leaves.least_number q (here q l) h;
    };
  }

  pub feasible_still : IsFeasible restricted d → IsFeasible restricted e
  feasible_still f =
      let g = feasible_after size (Satisfies size before) restricted before after c r
      (writes size before before is_before (alike_itself size before)) (writes size before after is_after same_values)
      (record { constants = f.constants; no_free_column = f.no_free_column }) due
      (record { row = ex.row; column = ex.column; other_rows = ex.other_rows; other_columns = ex.other_columns }) in
      record { constants = g.constants; no_free_column = g.no_free_column }

  -- ---- the asked form is not lower
  module _ (rises : IsPositive (d.coefficient c)) (f : IsFeasible restricted e) where
    not_leaving : (q : ℕ) → d.is_column q ≡ true → q ≡ r → ⊥
    not_leaving q h z = true_not_false (d.is_row r) leaves.limits.row (wd.apart r (subst (λ k. d.is_column k ≡ true) z h))

    other_term : (q : ℕ) → (q ≡ c → ⊥) → d.coefficient q *ℚ basic_solution e q ≡ 0ℚ
    other_term q n = go (d.is_column q) refl
      where
        go : (b : Bool) → d.is_column q ≡ b → d.coefficient q *ℚ basic_solution e q ≡ 0ℚ
        go true h =
            ap (λ y. d.coefficient q *ℚ y) (pick_false (e.is_row q) (e.constant q) 0ℚ (ex.other_rows q n (not_leaving q h) ∙ wd.apart q h))
            ∙ ring (d.coefficient q ∷ []) (var 0 ⊗ int (pos 0)) (int (pos 0)) refl
        go false h = ap (λ y. y *ℚ basic_solution e q) (wd.no_other_coefficient q h) ∙ ring (basic_solution e q ∷ []) (int (pos 0) ⊗ var 0) (int (pos 0)) refl

    value_after : e.value ≡ d.value +ℚ d.coefficient c *ℚ e.constant c
    value_after =
        let w = writes size d e we alike in
        w.basic.asked
        ∙ ap (λ s. d.value +ℚ s) (sum_only size (λ q. d.coefficient q *ℚ basic_solution e q) c (wd.columns_below c column) other_term)
        ∙ ap (λ y. d.value +ℚ d.coefficient c *ℚ y) (pick_true (e.is_row c) (e.constant c) 0ℚ ex.row)

    pub not_lower : d.value ≤ℚ e.value
    not_lower = record {
      gap = subst IsNotNegative
          (ring (d.value ∷ (d.coefficient c *ℚ e.constant c) ∷ []) (var 1) (var 0 ⊕ var 1 ⊕ minus (var 0)) refl ∙ ap (λ y. y -ℚ d.value) (sym value_after))
          (nonneg_mul (pos_nonneg rises) (f.constants c ex.row flag));
    }
