-- An exchange of a row and a column: the new roles, the assignments that meet them, and the pairs.
use Rattle.std.proofs.Common.{◌≡◌, ℕ, ◌≤◌, List, [], ◌∷◌, length, Bool, true, arith, refl, ap, ap₂, sym, subst, ◌∙◌, pos, inl, inr}
use Rattle.spec_numbers.specs.Rational.{ℚ, 0ℚ, 1ℚ, inv_ℚ, ◌+ℚ◌, ◌-ℚ◌, ◌*ℚ◌, ◌/ℚ◌}
use Rattle.spec_numbers.proofs.Ring.{var, int, ◌⊕◌, ◌⊗◌, minus}
use Rattle.spec_numbers.proofs.RationalLemmas.{ring}
use Rattle.spec_numbers.proofs.Sign.{product_zero, inverse_not_zero}
use Rattle.cq_frac.specs.declared.Operation.{Operation}
use Rattle.cq_frac.specs.declared.Operation.TheVariants.{Difference, Product, Quotient}
use Rattle.cq_frac.specs.declared.Pair.{Pair}
use Rattle.cq_frac.specs.Refused.{Refuses, IsRefused, Tells}
use Rattle.cq_frac.specs.declared.row.Entry.{Entry}
use Rattle.cq_frac.specs.declared.row.Joining.TheVariants.{Less}
use Rattle.cq_frac.specs.Row.{Row}
use Rattle.cq_frac.specs.Rows.{sum_at, IsRowFrom, everywhere, Has, Lacks, over, unit, except}
use Rattle.cq_frac.specs.Numbers.{right_side, IsOver, Site, at_live, at_dropped, at_constant, IsNumber, constant_number, live_number, dropped_number, IsDivided, QuotientPair, quotient_pair, JoinPair, product_pair, joined_pair, ShiftPair, of_rows, of_rate, also, IsEntered}
use Rattle.cq_frac.proofs.Inverse.{times_inverse}
use Rattle.cq_frac.proofs.Shifts.{entry_not_zero, over_anywhere, passes}
use Rattle.cq_frac.proofs.Units.{row_weaker, row_over, sum_at-over, at_unit, except_below}
use Rattle.cq_dict.specs.declared.table.Change.{Change}
use Rattle.cq_dict.specs.declared.table.Role.{Role}
use Rattle.cq_dict.specs.declared.table.Role.TheVariants.{Live, Dropped, Basic}
use Rattle.cq_dict.specs.Changes.{Covers, IsWritten, IsMoved, NoShiftPair, Moved, IsSolved, Exchanges}
use Rattle.cq_dict.specs.Dict.{NoPivotPair}
use Rattle.cq_dict.specs.Roles.{IsAt, IsRow, is_live, is_dropped, AreOverColumns, IsMet, HasEntry, PivotPair, pivot_quotient, pivot_inverse, pivot_product, pivot_product_inverse, pivot_difference, IsExchanged}
use Rattle.cq_dict.proofs.Moves.{also_cases}
use Rattle.cq_dict.proofs.Roles.{at_one, live_at, role_live, role_dropped, equal_or_not, one_kind}
use Rattle.cq_dict.proofs.Written.{covers_each, went, found}

-- ---- what one role becomes
module _ (leaving column : ℕ) (q : Row) (rate : ℚ) (n : ℕ) (s t : Role) where
  pub when_leaving : n ≡ leaving → t ≡ Live → Moved leaving column q rate n s t
  when_leaving e f = record { leaves = λ h. f; enters = λ h k. absurd (h e); live = λ h k l. absurd (h e); dropped = λ h k l. absurd (h e); row = λ h k o l. absurd (h e) }

  pub when_entering : (n ≡ leaving → ⊥) → n ≡ column → (e : Row) → t ≡ Basic e → IsEntered q column leaving rate e → Moved leaving column q rate n s t
  when_entering a b e f i = record { leaves = λ h. absurd (a h); enters = λ h k. (e, f, i); live = λ h k l. absurd (k b); dropped = λ h k l. absurd (k b); row = λ h k o l. absurd (k b) }

  pub when_live : (n ≡ leaving → ⊥) → (n ≡ column → ⊥) → s ≡ Live → t ≡ Live → Moved leaving column q rate n s t
  when_live a b e f = record { leaves = λ h. f; enters = λ h k. absurd (b k); live = λ h k l. f; dropped = λ h k l. cc; row = λ h k o l. cc }

  pub when_dropped : (n ≡ leaving → ⊥) → (n ≡ column → ⊥) → s ≡ Dropped → t ≡ Dropped → Moved leaving column q rate n s t
  when_dropped a b e f = record { leaves = λ h. absurd (a h); enters = λ h k. absurd (b k); live = λ h k l. cc; dropped = λ h k l. f; row = λ h k o l. cc }

  pub when_row : (n ≡ leaving → ⊥) → (n ≡ column → ⊥) → (o r : Row) → s ≡ Basic o → t ≡ Basic r → IsMoved o column q leaving rate r → NoShiftPair o column q rate → Moved leaving column q rate n s t
  when_row a b o r e f i j = record {
    leaves = λ h. absurd (a h);
    enters = λ h k. absurd (b k);
    live = λ h k l. cc;
    dropped = λ h k l. cc;
    row = λ h k p l. let w : o ≡ p = cc in (r, f, subst (λ (z : Row). IsMoved z column q leaving rate r) w i, subst (λ (z : Row). NoShiftPair z column q rate) w j);
  }

pub when_kept : (leaving column : ℕ) (q : Row) (rate : ℚ) (n : ℕ) (s t : Role) → (n ≡ leaving → ⊥) → (n ≡ column → ⊥) → ((r : Row) → s ≡ Basic r → ⊥) → t ≡ s → Moved leaving column q rate n s t
when_kept leaving column q rate n Live t a b h e = when_live leaving column q rate n Live t a b refl e
when_kept leaving column q rate n Dropped t a b h e = when_dropped leaving column q rate n Dropped t a b refl e
when_kept leaving column q rate n (Basic r) t a b h e = absurd (h r refl)

-- ---- the numbers of a row by its entry
over_has : (k : ℚ) (s : List Entry) (m : Entry) → Has m s → Has (record { quantity = m.quantity; factor = m.factor /ℚ k }) (over k s)
over_has k [] m h = absurd h
over_has k (n ∷ s) m (inl e) = inl (ap (λ (t : Entry). record { quantity = t.quantity; factor = t.factor /ℚ k }) e)
over_has k (n ∷ s) m (inr h) = inr (over_has k s m h)

has_over : (k : ℚ) (s : List Entry) (n : Entry) → Has n (over k s) → (m : Entry) × Has m s × (n ≡ record { quantity = m.quantity; factor = m.factor /ℚ k })
has_over k [] n h = absurd h
has_over k (m ∷ s) n (inl e) = (m, inl refl, e)
has_over k (m ∷ s) n (inr h) = let r = has_over k s n h in (r.0, inr r.1, r.2)

module _ (row q : Row) (p : ℚ) (divided : IsDivided row p q) where
  number_over : (at : Site) (n : ℚ) → IsNumber row at n → IsNumber q at (n /ℚ p)
  number_over at n constant_number = subst (IsNumber q at_constant) divided.constant constant_number
  number_over at n (live_number m h) = live_number (record { quantity = m.quantity; factor = m.factor /ℚ p }) (subst (Has (record { quantity = m.quantity; factor = m.factor /ℚ p })) (sym divided.live) (over_has p row.live m h))
  number_over at n (dropped_number m h) = dropped_number (record { quantity = m.quantity; factor = m.factor /ℚ p }) (subst (Has (record { quantity = m.quantity; factor = m.factor /ℚ p })) (sym divided.dropped) (over_has p row.dropped m h))

  number_under : (at : Site) (n : ℚ) → IsNumber q at n → (k : ℚ) × IsNumber row at k × (n ≡ k /ℚ p)
  number_under at n constant_number = (row.constant, constant_number, divided.constant)
  number_under at n (live_number m h) =
      let r = has_over p row.live m (subst (Has m) divided.live h) in
      (r.0.factor, subst (λ c. IsNumber row (at_live c) r.0.factor) (sym (ap (λ (t : Entry). t.quantity) r.2)) (live_number r.0 r.1), ap (λ (t : Entry). t.factor) r.2)
  number_under at n (dropped_number m h) =
      let r = has_over p row.dropped m (subst (Has m) divided.dropped h) in
      (r.0.factor, subst (λ c. IsNumber row (at_dropped c) r.0.factor) (sym (ap (λ (t : Entry). t.quantity) r.2)) (dropped_number r.0 r.1), ap (λ (t : Entry). t.factor) r.2)

-- ---- all roles
module _ (roles : List Role) (leaving column : ℕ) (row : Row) (p : ℚ)
    (table : AreOverColumns roles) (row_at : IsAt roles leaving (Basic row)) (entry : Has (record { quantity = column; factor = p }) row.live) where
  row_over_roles : IsOver (is_live roles) (is_dropped roles) row
  row_over_roles = table.rows leaving row row_at

  column_at : is_live roles column ≡ true
  column_at = passes (is_live roles) 0 row.live (record { quantity = column; factor = p }) row_over_roles.live_row entry

  pub p_not_zero : p ≡ 0ℚ → ⊥
  p_not_zero = entry_not_zero (is_live roles) 0 row.live column p row_over_roles.live_row entry

  not_leaving : (y : ℕ) → is_live roles y ≡ true → y ≡ leaving → ⊥
  not_leaving y h e = let k = live_at roles leaving (Basic row) row_at in let f : is_live roles leaving ≡ true = subst (λ z. is_live roles z ≡ true) e h in cc

  pub apart : leaving ≡ column → ⊥
  apart e = not_leaving column column_at (sym e)

  pub lacks_leaving : (dropped : ℕ → Bool) (o : Row) → IsOver (is_live roles) dropped o → Lacks leaving o.live
  lacks_leaving dropped o k = λ m h e. not_leaving m.quantity (passes (is_live roles) 0 o.live m k.live_row h) e

  not_column : (i : ℕ) (s : Role) → IsAt roles i s → i ≡ column → s ≡ Live
  not_column i s h e = at_one roles column s Live (subst (λ k. IsAt roles k s) e h) (role_live roles column column_at)

  abbrev the_entry : HasEntry roles leaving column
  the_entry = record { own = row; factor = p; is_row = row_at; in_row = entry }

  pub inverse_pair : (pair : Pair) (one : ℚ) → one ≡ 1ℚ → Tells Quotient one p pair → PivotPair roles leaving column pair.operation pair.left pair.right × IsRefused pair
  inverse_pair pair one e t = (
    subst (λ (z : Pair). PivotPair roles leaving column z.operation z.left z.right) (sym t.is_pair) (subst (λ z. PivotPair roles leaving column Quotient z p) (sym e) (pivot_inverse the_entry)),
    subst IsRefused (sym t.is_pair) t.refused,
  )

  pub by_quotient : (pair : Pair) → QuotientPair row p pair.operation pair.left pair.right × IsRefused pair → PivotPair roles leaving column pair.operation pair.left pair.right × IsRefused pair
  by_quotient pair h = (go h.0, h.1)
    where
      go : {o : Operation} {a b : ℚ} → QuotientPair row p o a b → PivotPair roles leaving column o a b
      go (quotient_pair at n k) = pivot_quotient the_entry at n k

  module _ (q : Row) (rate : ℚ) (divided : IsDivided row p q) (rate_is : rate ≡ 1ℚ /ℚ p) where
    pub rate_not_zero : rate ≡ 0ℚ → ⊥
    rate_not_zero z = inverse_not_zero p p_not_zero (ring (inv_ℚ p ∷ []) (var 0) (int (pos 1) ⊗ var 0) refl ∙ sym rate_is ∙ z)

    abbrev other_entry : (i : ℕ) (other : Row) (e : ℚ) → IsAt roles i (Basic other) → Has (record { quantity = column; factor = e }) other.live → HasEntry roles i column
    other_entry i other e a h = record { own = other; factor = e; is_row = a; in_row = h }

    pub by_shift : (i : ℕ) (other : Row) (e : ℚ) (pair : Pair) → (i ≡ leaving → ⊥) → IsAt roles i (Basic other) → Has (record { quantity = column; factor = e }) other.live → ShiftPair other e q rate pair.operation pair.left pair.right × IsRefused pair → PivotPair roles leaving column pair.operation pair.left pair.right × IsRefused pair
    by_shift i other e pair n a h s = (go s.0, s.1)
      where
        of_join : {o : Operation} {a b : ℚ} → JoinPair other Less e q o a b → PivotPair roles leaving column o a b
        of_join (product_pair at m k) = let w = number_under row q p divided at m k in subst (λ z. PivotPair roles leaving column Product e z) (sym w.2) (pivot_product the_entry i (other_entry i other e a h) n at w.0 w.1)
        of_join (joined_pair at l m j k) = let w = number_under row q p divided at m k in subst (λ z. PivotPair roles leaving column Difference l (e *ℚ z)) (sym w.2) (pivot_difference the_entry i (other_entry i other e a h) n at l w.0 j w.1)

        go : {o : Operation} {a b : ℚ} → ShiftPair other e q rate o a b → PivotPair roles leaving column o a b
        go (of_rows j) = of_join j
        go of_rate = subst (λ z. PivotPair roles leaving column Product e z) (sym rate_is) (pivot_product_inverse the_entry i (other_entry i other e a h) n)

    pub q_over : IsOver (is_live roles) (is_dropped roles) q
    q_over = record {
      live_row = subst (IsRowFrom (is_live roles) 0) (sym divided.live) (row_over (is_live roles) 0 p row.live p_not_zero row_over_roles.live_row);
      dropped_row = subst (IsRowFrom (is_dropped roles) 0) (sym divided.dropped) (row_over (is_dropped roles) 0 p row.dropped p_not_zero row_over_roles.dropped_row);
    }

    pub own : sum_at (unit column) q.live ≡ 1ℚ
    own =
        ap (sum_at (unit column)) divided.live ∙ sum_at-over (unit column) p row.live
        ∙ ap (λ w. inv_ℚ p *ℚ w) (at_unit (is_live roles) 0 row.live (record { quantity = column; factor = p }) row_over_roles.live_row entry)
        ∙ ring (inv_ℚ p ∷ p ∷ []) (var 0 ⊗ var 1) (var 1 ⊗ var 0) refl ∙ times_inverse p p_not_zero

    q_value : (x : ℕ → ℚ) → right_side x q ≡ inv_ℚ p *ℚ right_side x row
    q_value x =
        ap₂ (λ a b. a +ℚ b) divided.constant (ap₂ (λ a b. a +ℚ b) (ap (sum_at x) divided.live ∙ sum_at-over x p row.live) (ap (sum_at x) divided.dropped ∙ sum_at-over x p row.dropped))
        ∙ ring (row.constant ∷ inv_ℚ p ∷ sum_at x row.live ∷ sum_at x row.dropped ∷ []) (var 0 ⊗ var 1 ⊕ (var 1 ⊗ var 2 ⊕ var 1 ⊗ var 3)) (var 1 ⊗ (var 0 ⊕ (var 2 ⊕ var 3))) refl

    -- how far the leaving quantity is from its row, by the entry
    gap : (ℕ → ℚ) → ℚ
    gap x = rate *ℚ x leaving -ℚ right_side x q

    gap_is : (x : ℕ → ℚ) → gap x ≡ inv_ℚ p *ℚ (x leaving -ℚ right_side x row)
    unfolding gap
    gap_is x =
        ap₂ (λ a b. a *ℚ x leaving -ℚ b) rate_is (q_value x)
        ∙ ring (inv_ℚ p ∷ x leaving ∷ right_side x row ∷ []) ((int (pos 1) ⊗ var 0) ⊗ var 1 ⊕ minus (var 0 ⊗ var 2)) (var 0 ⊗ (var 1 ⊕ minus (var 2))) refl

    gap_zero : (x : ℕ → ℚ) → x leaving ≡ right_side x row → gap x ≡ 0ℚ
    gap_zero x e = gap_is x ∙ ap (λ w. inv_ℚ p *ℚ (w -ℚ right_side x row)) e ∙ ring (inv_ℚ p ∷ right_side x row ∷ []) (var 0 ⊗ (var 1 ⊕ minus (var 1))) (int (pos 0)) refl

    gap_back : (x : ℕ → ℚ) → gap x ≡ 0ℚ → x leaving ≡ right_side x row
    gap_back x e =
        let z : x leaving -ℚ right_side x row ≡ 0ℚ = product_zero (inv_ℚ p) (x leaving -ℚ right_side x row) (inverse_not_zero p p_not_zero) (sym (gap_is x) ∙ e) in
        ring (x leaving ∷ right_side x row ∷ []) (var 0) ((var 0 ⊕ minus (var 1)) ⊕ var 1) refl ∙ ap (λ w. w +ℚ right_side x row) z ∙ ring (right_side x row ∷ []) (int (pos 0) ⊕ var 0) (var 0) refl

    entered_value : (x : ℕ → ℚ) (e : Row) → IsEntered q column leaving rate e → right_side x e ≡ gap x +ℚ x column
    unfolding gap
    entered_value x e i =
        i.value x ∙ ap (λ a. (rate *ℚ x leaving -ℚ right_side x q) +ℚ a *ℚ x column) own
        ∙ ring ((rate *ℚ x leaving -ℚ right_side x q) ∷ x column ∷ []) (var 0 ⊕ int (pos 1) ⊗ var 1) (var 0 ⊕ var 1) refl

    moved_value : (x : ℕ → ℚ) (o r : Row) → IsMoved o column q leaving rate r → right_side x r ≡ right_side x o +ℚ sum_at (unit column) o.live *ℚ gap x
    unfolding gap
    moved_value x o r i =
        i.value x ∙ ring (right_side x o ∷ sum_at (unit column) o.live ∷ right_side x q ∷ rate ∷ x leaving ∷ [])
        ((var 0 ⊕ minus (var 1 ⊗ var 2)) ⊕ (var 1 ⊗ var 3) ⊗ var 4) (var 0 ⊕ var 1 ⊗ (var 3 ⊗ var 4 ⊕ minus (var 2))) refl

    same_value : (x : ℕ → ℚ) (o r : Row) → gap x ≡ 0ℚ → IsMoved o column q leaving rate r → right_side x r ≡ right_side x o
    same_value x o r z i = moved_value x o r i ∙ ap (λ w. right_side x o +ℚ sum_at (unit column) o.live *ℚ w) z ∙ ring (right_side x o ∷ sum_at (unit column) o.live ∷ []) (var 0 ⊕ var 1 ⊗ int (pos 0)) (var 0) refl

    module _ (i : ℕ) (changes : List Change) (covers : Covers (Moved leaving column q rate) roles i changes) (all : length roles ≤ i) where
      pub none_refused : ((o : Operation) (a b : ℚ) → QuotientPair row p o a b → Refuses o a b → ⊥) → (Refuses Quotient 1ℚ p → ⊥) → NoPivotPair roles leaving column
      none_refused nq ni o a b w r = go w r
        where
          same_row : (x : HasEntry roles leaving column) → x.own ≡ row
          same_row x = let w = at_one roles leaving (Basic x.own) (Basic row) x.is_row row_at in cc

          same_entry : (x : HasEntry roles leaving column) → x.factor ≡ p
          same_entry x =
              sym (at_unit (is_live roles) 0 row.live (record { quantity = column; factor = x.factor }) row_over_roles.live_row (subst (λ (z : Row). Has (record { quantity = column; factor = x.factor }) z.live) (same_row x) x.in_row))
              ∙ at_unit (is_live roles) 0 row.live (record { quantity = column; factor = p }) row_over_roles.live_row entry

          own_number : (x : HasEntry roles leaving column) (at : Site) (n : ℚ) → IsNumber x.own at n → IsNumber row at n
          own_number x at n k = subst (λ (z : Row). IsNumber z at n) (same_row x) k

          ns : (j : ℕ) (o : Row) → IsAt roles j (Basic o) → (j ≡ leaving → ⊥) → NoShiftPair o column q rate
          ns j o h n = let t = covers_each (Moved leaving column q rate) roles i changes covers all j (Basic o) h in (t.1.row n (λ e. let w = not_column j (Basic o) h e in cc) o refl).3

          go : {o : Operation} {a b : ℚ} → PivotPair roles leaving column o a b → Refuses o a b → ⊥
          go (pivot_quotient x at n k) r = nq Quotient n p (quotient_pair at n (own_number x at n k)) (subst (λ z. Refuses Quotient n z) (same_entry x) r)
          go (pivot_inverse x) r = ni (subst (λ z. Refuses Quotient 1ℚ z) (same_entry x) r)
          go (pivot_product x j y d at n k) r =
              ns j y.own y.is_row d y.factor y.in_row Product y.factor (n /ℚ p) (of_rows (product_pair at (n /ℚ p) (number_over row q p divided at n (own_number x at n k))))
              (subst (λ z. Refuses Product y.factor (n /ℚ z)) (same_entry x) r)
          go (pivot_product_inverse x j y d) r = ns j y.own y.is_row d y.factor y.in_row Product y.factor rate of_rate (subst (λ z. Refuses Product y.factor z) (ap (λ z. 1ℚ /ℚ z) (same_entry x) ∙ sym rate_is) r)
          go (pivot_difference x j y d at m n h k) r =
              ns j y.own y.is_row d y.factor y.in_row Difference m (y.factor *ℚ (n /ℚ p)) (of_rows (joined_pair at m (n /ℚ p) h (number_over row q p divided at n (own_number x at n k))))
              (subst (λ z. Refuses Difference m (y.factor *ℚ (n /ℚ z))) (same_entry x) r)

      module _ (new : List Role) (written : IsWritten roles changes new) where
        go_to : (j : ℕ) (s : Role) → IsAt roles j s → (t : Role) × IsAt new j t × Moved leaving column q rate j s t
        go_to j s h = went (Moved leaving column q rate) roles i changes covers all new written j s h

        come_from : (j : ℕ) (t : Role) → IsAt new j t → (s : Role) × IsAt roles j s × Moved leaving column q rate j s t
        come_from j t h = found (Moved leaving column q rate) roles i changes covers all new written j t h

        was_live : (j : ℕ) (s : Role) → IsAt roles j s → Moved leaving column q rate j s Live → (j ≡ leaving → ⊥) → (j ≡ column → ⊥) → IsAt roles j Live
        was_live j Live a m n k = a
        was_live j Dropped a m n k = let w = m.dropped n k refl in cc
        was_live j (Basic o) a m n k = let w = (m.row n k o refl).1 in cc

        was_dropped : (j : ℕ) (s : Role) → IsAt roles j s → Moved leaving column q rate j s Dropped → (j ≡ leaving → ⊥) → (j ≡ column → ⊥) → IsAt roles j Dropped
        was_dropped j Live a m n k = let w = m.live n k refl in cc
        was_dropped j Dropped a m n k = a
        was_dropped j (Basic o) a m n k = let w = (m.row n k o refl).1 in cc

        was_row : (j : ℕ) (r : Row) (s : Role) → IsAt roles j s → Moved leaving column q rate j s (Basic r) → (j ≡ leaving → ⊥) → (j ≡ column → ⊥) → IsRow roles j
        was_row j r Live a m n k = let w = m.live n k refl in cc
        was_row j r Dropped a m n k = let w = m.dropped n k refl in cc
        was_row j r (Basic o) a m n k = (o, a)

        kinds : IsExchanged roles leaving column new
        kinds =
            let a = go_to leaving (Basic row) row_at in
            let b = go_to column Live (role_live roles column column_at) in
            let e = b.2.enters (λ z. apart (sym z)) refl in
            record {
              size = written.size;
              leaves = subst (IsAt new leaving) (a.2.leaves refl) a.1;
              enters = (e.0, subst (IsAt new column) e.1 b.1);
              others = λ j n k. one_kind roles new j
                  ((λ h. let t = go_to j Live h in subst (IsAt new j) (t.2.live n k refl) t.1), (λ h. let f = come_from j Live h in was_live j f.0 f.1 f.2 n k))
                  ((λ h. let t = go_to j Dropped h in subst (IsAt new j) (t.2.dropped n k refl) t.1), (λ h. let f = come_from j Dropped h in was_dropped j f.0 f.1 f.2 n k))
                  ((λ h. let t = go_to j (Basic h.0) h.1 in let r = t.2.row n k h.0 refl in (r.0, subst (IsAt new j) r.1 t.1)), (λ h. let f = come_from j (Basic h.0) h.1 in was_row j h.0 f.0 f.1 f.2 n k));
            }

        new_live : (y : ℕ) → also leaving (except column (is_live roles)) y ≡ true → is_live new y ≡ true
        new_live y h =
            elim (also_cases leaving y (except column (is_live roles)) h) [
              | inl e ↦ subst (λ z. is_live new z ≡ true) (sym e) (live_at new leaving Live kinds.leaves)
              | inr k ↦ let b = except_below column y (is_live roles) k in (kinds.others y (not_leaving y b.0) b.1).live ∙ b.0
            ]

        new_dropped : (y : ℕ) → is_dropped roles y ≡ true → is_dropped new y ≡ true
        new_dropped y h =
            let a = role_dropped roles y h in
            let n : y ≡ leaving → ⊥ = λ e. let w = at_one roles leaving Dropped (Basic row) (subst (λ k. IsAt roles k Dropped) e a) row_at in cc in
            let k : y ≡ column → ⊥ = λ e. let w = not_column y Dropped a e in cc in
            (kinds.others y n k).dropped ∙ h

        still_over : (r : Row) → IsOver (also leaving (except column (is_live roles))) (is_dropped roles) r → IsOver (is_live new) (is_dropped new) r
        still_over r o = record {
          live_row = row_weaker (also leaving (except column (is_live roles))) (is_live new) 0 r.live new_live o.live_row;
          dropped_row = row_weaker (is_dropped roles) (is_dropped new) 0 r.dropped new_dropped o.dropped_row;
        }

        -- a row of the new list is the entered one, or another one moved
        data NewRow (j : ℕ) (r : Row) : Type 0 where
          entering : j ≡ column → IsEntered q column leaving rate r → NewRow j r
          another : (j ≡ leaving → ⊥) → (o : Row) → IsAt roles j (Basic o) → IsMoved o column q leaving rate r → NewRow j r

        row_same : (r z : Row) → Basic r ≡ Basic z → z ≡ r
        row_same r z e = cc

        of_role : (j : ℕ) (r : Row) (s : Role) → IsAt roles j s → Moved leaving column q rate j s (Basic r) → (j ≡ leaving → ⊥) → (j ≡ column → ⊥) → NewRow j r
        of_role j r Live a m n k = let e : Basic r ≡ Live = m.live n k refl in cc
        of_role j r Dropped a m n k = let e : Basic r ≡ Dropped = m.dropped n k refl in cc
        of_role j r (Basic o) a m n k = let w = m.row n k o refl in another n o a (subst (λ (z : Row). IsMoved o column q leaving rate z) (row_same r w.0 w.1) w.2)

        new_row : (j : ℕ) (r : Row) → IsAt new j (Basic r) → NewRow j r
        new_row j r h =
            let f = come_from j (Basic r) h in
            elim (equal_or_not j leaving) [
              | inl e ↦ let w : Basic r ≡ Live = f.2.leaves e in cc
              | inr n ↦ elim (equal_or_not j column) [
                | inl e ↦ let w = f.2.enters n e in entering e (subst (λ (z : Row). IsEntered q column leaving rate z) (row_same r w.0 w.1) w.2)
                | inr k ↦ of_role j r f.0 f.1 f.2 n k
              ]
            ]

        new_table : AreOverColumns new
        new_table = record {
          rows = λ j r h.
              elim (new_row j r h) [
                | entering e k ↦ still_over r (k.over (is_live roles) (is_dropped roles) q_over)
                | another n o a k ↦ still_over r (k.over (is_live roles) (is_dropped roles) (table.rows j o a) q_over)
              ];
        }

        to_new : (x : ℕ → ℚ) → IsMet x roles → IsMet x new
        to_new x m =
            let z = gap_zero x (m.rows leaving row row_at) in
            record {
              rows = λ j r h.
                  elim (new_row j r h) [
                    | entering e k ↦ sym (entered_value x r k ∙ ap (λ w. w +ℚ x column) z ∙ ring (x column ∷ []) (int (pos 0) ⊕ var 0) (var 0) refl ∙ ap x (sym e))
                    | another n o a k ↦ m.rows j o a ∙ sym (same_value x o r z k)
                  ];
            }

        zero_gap : (x : ℕ → ℚ) → IsMet x new → gap x ≡ 0ℚ
        zero_gap x m =
            let b = go_to column Live (role_live roles column column_at) in
            let e = b.2.enters (λ z. apart (sym z)) refl in
            let w = m.rows column e.0 (subst (IsAt new column) e.1 b.1) ∙ entered_value x e.0 e.2 in
            ring (gap x ∷ x column ∷ []) (var 0) ((var 0 ⊕ var 1) ⊕ minus (var 1)) refl ∙ ap (λ v. v -ℚ x column) (sym w) ∙ ring (x column ∷ []) (var 0 ⊕ minus (var 0)) (int (pos 0)) refl

        to_old : (x : ℕ → ℚ) → IsMet x new → IsMet x roles
        to_old x m =
            let z = zero_gap x m in
            record {
              rows = λ j r h.
                  elim (equal_or_not j leaving) [
                    | inl e ↦
                        let s : row ≡ r = let w = at_one roles leaving (Basic row) (Basic r) row_at (subst (λ k. IsAt roles k (Basic r)) e h) in cc in
                        ap x e ∙ gap_back x z ∙ ap (right_side x) s
                    | inr n ↦
                        let t = go_to j (Basic r) h in
                        let w = t.2.row n (λ e. let v = not_column j (Basic r) h e in cc) r refl in
                        m.rows j w.0 (subst (IsAt new j) w.1 t.1) ∙ same_value x r w.0 z w.2
                  ];
            }

        pub exchanges : Exchanges roles leaving column new
        exchanges = record { table = new_table; same = λ x. (to_new x, to_old x); kinds = kinds }

-- ---- the same, where the leaving row is solved for the column
module _ (roles : List Role) (leaving column : ℕ) (q : Row) (rate : ℚ) (table : AreOverColumns roles) (s : IsSolved roles leaving column q rate) where
  pub solved_over : IsOver everywhere everywhere q
  solved_over = over_anywhere (is_live roles) (is_dropped roles) q (q_over roles leaving column s.entry.own s.entry.factor table s.entry.is_row s.entry.in_row q rate s.divided s.rate_is)

  pub solved_own : sum_at (unit column) q.live ≡ 1ℚ
  solved_own = own roles leaving column s.entry.own s.entry.factor table s.entry.is_row s.entry.in_row q rate s.divided s.rate_is

  pub solved_apart : leaving ≡ column → ⊥
  solved_apart = apart roles leaving column s.entry.own s.entry.factor table s.entry.is_row s.entry.in_row

  pub solved_rate : rate ≡ 0ℚ → ⊥
  solved_rate = rate_not_zero roles leaving column s.entry.own s.entry.factor table s.entry.is_row s.entry.in_row q rate s.divided s.rate_is

  pub solved_lacks : Lacks leaving q.live
  solved_lacks = lacks_leaving roles leaving column s.entry.own s.entry.factor table s.entry.is_row s.entry.in_row (is_dropped roles) q (q_over roles leaving column s.entry.own s.entry.factor table s.entry.is_row s.entry.in_row q rate s.divided s.rate_is)

  pub other_over : (i : ℕ) (o : Row) → IsAt roles i (Basic o) → IsOver everywhere everywhere o
  other_over i o a = over_anywhere (is_live roles) (is_dropped roles) o (table.rows i o a)

  pub other_lacks : (i : ℕ) (o : Row) → IsAt roles i (Basic o) → Lacks leaving o.live
  other_lacks i o a = lacks_leaving roles leaving column s.entry.own s.entry.factor table s.entry.is_row s.entry.in_row (is_dropped roles) o (table.rows i o a)

  pub solved_shift : (i : ℕ) (o : Row) (pair : Pair) → (i ≡ leaving → ⊥) → IsAt roles i (Basic o) → ((e : ℚ) × Has (record { quantity = column; factor = e }) o.live × ShiftPair o e q rate pair.operation pair.left pair.right × IsRefused pair) → PivotPair roles leaving column pair.operation pair.left pair.right × IsRefused pair
  solved_shift i o pair n a h = by_shift roles leaving column s.entry.own s.entry.factor table s.entry.is_row s.entry.in_row q rate s.divided s.rate_is i o h.0 pair n a h.1 (h.2, h.3)

  module _ (changes : List Change) (covers : Covers (Moved leaving column q rate) roles (length roles) changes) where
    pub solved_exchanges : (new : List Role) → IsWritten roles changes new → Exchanges roles leaving column new
    solved_exchanges new w = exchanges roles leaving column s.entry.own s.entry.factor table s.entry.is_row s.entry.in_row q rate s.divided s.rate_is (length roles) changes covers (omega arith) new w

    pub solved_accepted : ((o : Operation) (a b : ℚ) → QuotientPair s.entry.own s.entry.factor o a b → Refuses o a b → ⊥) → (Refuses Quotient 1ℚ s.entry.factor → ⊥) → NoPivotPair roles leaving column
    solved_accepted nq ni = none_refused roles leaving column s.entry.own s.entry.factor table s.entry.is_row s.entry.in_row q rate s.divided s.rate_is (length roles) changes covers (omega arith) nq ni
