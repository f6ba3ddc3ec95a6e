-- What a second look at restricted quantities shows.
use Rattle.std.proofs.Common.{◌≡◌, ℕ, zero, suc, get_or, Option, None, Some, ◌+◌, ◌<◌, ◌≤◌, List, [], ◌∷◌, length, Bool, true, false, nat_eq, ◌⊎◌, inl, inr, pos, arith, refl, ap, ap₂, sym, subst, ◌∙◌}
use Rattle.std.specs.Prelude.{MatchBool, slice_get}
use Rattle.std.proofs.lemmas.Option.{same_Some}
use Rattle.spec_linear.specs.declared.Relation.{Relation}
use Rattle.spec_linear.specs.Certificate.{member}
use Rattle.cq_tableau.specs.declared.names.Name.TheVariants.{Variable, Member}
use Rattle.cq_tableau.specs.Refuted.{number_of, number_in}
use Rattle.std.specs.Bool.{OnFalse}
use Rattle.cq_frac.proofs.Units.{no_entry, at_unit}
use Rattle.spec_numbers.specs.Rational.{ℚ, 0ℚ, 1ℚ, ◌+ℚ◌, ◌*ℚ◌, IsPositive, IsNotNegative, ◌≤ℚ◌, ◌<ℚ◌}
use Rattle.spec_numbers.specs.Sums.{factor_of, sum_at, when}
use Rattle.spec_numbers.proofs.Ring.{var, int, ◌⊕◌, ◌⊗◌}
use Rattle.spec_numbers.proofs.RationalLemmas.{ring}
use Rattle.spec_numbers.proofs.Sign.{nonneg_zero, product_zero, pos_nonneg, pos_one}
use Rattle.spec_numbers.proofs.Order.{le_antisym, nonneg_to_le, lt_or_le, lt_to_pos}
use Rattle.spec_linear.specs.Form.{Linear, value_at}
use Rattle.spec_linear.specs.Solution.{Constraint, Has, Satisfies}
use Rattle.spec_linear.specs.Weak.{weak}
use Rattle.spec_simplex.specs.Dictionary as of_simplex
use Rattle.spec_simplex.specs.Tableau.{numbers, IsWritten, IsOptimal, EachTermZero, Changed, Exchanged, HasRoom, Owned}
use Rattle.spec_simplex.proofs.Linked.{linked_written}
use Rattle.spec_simplex.proofs.Steps.{sound_dropped, one_of}
use Rattle.spec_simplex.proofs.More.{still_dropped}
use Rattle.spec_simplex.proofs.Feasible.{level_exchange, dropping}
use Rattle.spec_simplex.proofs.Column.{column_rises}
use Rattle.spec_simplex.proofs.TableauWritten.{row_face, within_is, restricted_nonneg}
use Rattle.cq_form.specs.Entries.{products_of}
use Rattle.cq_frac.specs.declared.row.Entry.{Entry}
use Rattle.cq_frac.specs.Row.{Row}
use Rattle.cq_frac.specs.Rows as rows
use Rattle.cq_dict.specs.declared.table.Role.{Role}
use Rattle.cq_dict.specs.declared.table.Role.TheVariants.{Live, Dropped, Basic}
use Rattle.cq_dict.specs.Roles.{AreOverColumns, IsAt, IsRow, IsExchanged, is_live, is_dropped, is_restricted, role_at, constant_at, factor_at}
use Rattle.cq_dict.specs.Dict.{SameMeaning}
use Rattle.cq_dict.proofs.Roles.{at_below, at_exists, at_one, role_is, role_live, constant_is, factor_is, dropped_at, live_at}
use Rattle.cq_simplex.specs.Dictionary.{dictionary}
use Rattle.cq_simplex.specs.Climbs.{IsCarried}
use Rattle.cq_simplex.specs.Answers.{IsMaximum, AreMultipliers, AreSpent, RisesWithoutEnd}
use Rattle.cq_simplex.proofs.Roles.{dropped_after}
use Rattle.cq_tableau.specs.declared.names.Name.{Name}
use Rattle.cq_tableau.specs.Forms.{row_of, form_at, tableau}
use Rattle.cq_tableau.specs.Keeps.{Speaks}
use Rattle.cq_tableau.specs.Dropped.{quantities, DropsEach}
use Rattle.cq_tableau.specs.Looked.{SpeaksOfSome, LooksOn, Blocks, LeavesRoom, RisesStill, IsFlatAt, IsFlatNow, IsSeen, RefusesLook, SpendsLook, StandsAt}
use Rattle.cq_tableau.specs.declared.looking.Seen.{Seen}
use Rattle.cq_tableau.specs.declared.looking.Seen.TheVariants as of_seen
use Rattle.cq_frac.specs.declared.Pair.{Pair}
use Rattle.cq_simplex.specs.declared.Aim.TheVariants as of_aim
use Rattle.cq_tableau.specs.Stored.{IsMemberOf, IsAny}
use Rattle.cq_tableau.proofs.Tied.{linked, still_describes, searchable, feasible, feasible_of, changed, optimal, positive, unbounded_rises, factor_not_zero, entry_not_zero, factor_same}
use Rattle.cq_tableau.proofs.Certified.{greatest_constant}

-- ---- what speaks of a list
pub search_feasible : (forms : List Linear) (l : List Constraint) (roles : List Role) (flags : List Bool) → Speaks forms l roles flags → (asked : ℕ)
    → of_simplex.IsFeasible (is_restricted flags) (dictionary roles asked)
search_feasible forms l roles flags s asked = searchable roles flags forms asked s.size s.sound.feasible

pub carried_speaks : (old new : List Role) (flags : List Bool) (asked : ℕ) → IsCarried old flags asked new → (forms : List Linear) (l : List Constraint)
    → Speaks forms l old flags → Speaks forms l new flags
carried_speaks old new flags asked r forms l s =
    let d = tableau old flags forms in
    let e = tableau new flags forms in
    let size = s.size ∙ sym r.size in
    let describes = still_describes old new forms r.size r.same s.describes in
    let ch = changed old new flags forms asked r in
    record {
      table = r.table;
      size = size;
      describes = describes;
      sound = sound_dropped d e [] [] ch l s.sound (linked_written e (linked new flags forms r.table size describes))
          (feasible new flags forms asked size r.table r.feasible) (λ c k. absurd k) (λ z k. absurd k);
      dropped = still_dropped d e s.sound.written [] [] ch (λ z k. absurd k) l s.dropped;
    }

pub carried_looks : (old new : List Role) (flags : List Bool) (asked : ℕ) → IsCarried old flags asked new → LooksOn old new flags
carried_looks old new flags asked r = record {
  size = r.size;
  speaks = carried_speaks old new flags asked r;
  still = λ c h. r.dropped c ∙ h;
  only = λ c h. inr (sym (r.dropped c) ∙ h);
}

pub looks_same : (roles : List Role) (flags : List Bool) → LooksOn roles roles flags
looks_same roles flags = record { size = refl; speaks = λ forms l s. s; still = λ c h. h; only = λ c h. inr h }

pub looks_further : (a b c : List Role) (flags : List Bool) → LooksOn a b flags → LooksOn b c flags → LooksOn a c flags
looks_further a b c flags x y = record {
  size = y.size ∙ x.size;
  speaks = λ forms l s. y.speaks forms l (x.speaks forms l s);
  still = λ z h. y.still z (x.still z h);
  only = λ z h. elim (y.only z h) [ inl g ↦ inl g | inr g ↦ x.only z g ];
}

pub speaks_further : (a b : List Role) (flags : List Bool) → SpeaksOfSome a flags → LooksOn a b flags → SpeaksOfSome b flags
speaks_further a b flags s x = record { forms = s.forms; list = s.list; speaks = x.speaks s.forms s.list s.speaks }

-- ---- columns dropped
module _ (forms : List Linear) (l : List Constraint) (old : List Role) (flags : List Bool) (s : Speaks forms l old flags) (columns : List ℕ) (new : List Role)
    (d : DropsEach old columns new) (made : (c : ℕ) → Has c columns → c < length old) where
  pub drop_changed : Changed (tableau old flags forms) (tableau new flags forms) columns []
  drop_changed = record {
    count = let e = d.size in omega arith;
    form = λ z h. refl;
    drops_made = made;
    drops_each = d.each;
    dropped_still = d.still;
    dropped_only = d.only;
    restricts_made = λ z k. absurd k;
    restricts_each = λ z k. absurd k;
    restricted_still = λ z k. k;
    restricted_only = λ z k. inr k;
  }

  drop_size : length flags ≡ length new
  drop_size = s.size ∙ sym d.size

  pub drop_written : IsWritten (tableau new flags forms)
  drop_written = linked_written (tableau new flags forms) (linked new flags forms d.table drop_size (still_describes old new forms d.size d.same s.describes))

  pub drop_speaks : ((z : ℕ) → Has z columns → (v : ℕ → ℚ) → Satisfies v (weak l) → value_at v (form_at forms z) ≡ 0ℚ) → Speaks forms l new flags
  drop_speaks none =
      let a = tableau old flags forms in
      let b = tableau new flags forms in
      record {
        table = d.table;
        size = drop_size;
        describes = still_describes old new forms d.size d.same s.describes;
        sound = sound_dropped a b columns [] drop_changed l s.sound drop_written
            (feasible_of new flags forms d.table (dropping a b s.sound.written drop_written columns drop_changed d.live s.sound.feasible)) none (λ z k. absurd k);
        dropped = still_dropped a b s.sound.written columns [] drop_changed (λ z k. absurd k) l s.dropped;
      }

-- ---- a row of the constant zero that no column raises
terms_zero : (x : ℕ → ℚ) (t : List Entry) → ((m : Entry) → rows.Has m t → m.factor ≡ 0ℚ → ⊥) → EachTermZero x (products_of t) → (z : ℕ) → Has z (quantities t) → x z ≡ 0ℚ
terms_zero x [] n e z h = absurd h
terms_zero x (m ∷ t) n e z (inl k) = ap x k ∙ product_zero m.factor (x m.quantity) (n m (inl refl)) e.0
terms_zero x (m ∷ t) n e z (inr h) = terms_zero x t (λ o i. n o (inr i)) e.1 z h

sum_zero : (x : ℕ → ℚ) (t : List Entry) → ((z : ℕ) → Has z (quantities t) → x z ≡ 0ℚ) → sum_at x (products_of t) ≡ 0ℚ
sum_zero x [] h = refl
sum_zero x (m ∷ t) h =
    ap₂ (λ p q. m.factor *ℚ p +ℚ q) (h m.quantity (inl refl)) (sum_zero x t (λ z i. h z (inr i)))
    ∙ ring (m.factor ∷ []) (var 0 ⊗ int (pos 0) ⊕ int (pos 0)) (int (pos 0)) refl

module _ (forms : List Linear) (l : List Constraint) (roles : List Role) (flags : List Bool) (s : Speaks forms l roles flags) (q : ℕ) (own : Row)
    (at : IsAt roles q (Basic own)) (zero : own.constant ≡ 0ℚ) where
  -- its columns are zero wherever it is not below zero
  pub columns_zero : IsOptimal (tableau roles flags forms) (products_of own.live) → (v : ℕ → ℚ) → Satisfies v (weak l) → IsNotNegative (value_at v (form_at forms q))
      → (z : ℕ) → Has z (quantities own.live) → value_at v (form_at forms z) ≡ 0ℚ
  columns_zero o v w n =
      let d = tableau roles flags forms in
      let r = role_is roles q (Basic own) at in
      terms_zero (numbers d v) own.live (factor_not_zero (is_live roles) 0 own.live (s.table.rows q own at).live_row)
      (subst (λ t. EachTermZero (numbers d v) (row_of q t).live) r
      (row_face d l s.sound q (at_below roles q (Basic own) at) (subst (λ t. IsOptimal d (row_of q t).live) (sym r) o) (ap (λ t. (row_of q t).constant) r ∙ zero) v w n).1)

  -- it is zero where they are dropped
  pub row_flat : (new : List Role) → DropsEach roles (quantities own.live) new → IsFlatAt forms new flags q
  row_flat new d v w =
      let a = tableau roles flags forms in
      within_is a s.sound.written q (at_below roles q (Basic own) at) v (λ c k. w c (d.still c k))
      ∙ ap (λ t. (row_of q t).constant +ℚ sum_at (numbers a v) (row_of q t).live) (role_is roles q (Basic own) at)
      ∙ ap₂ (λ p r. p +ℚ r) zero (sum_zero (numbers a v) own.live (λ z h. w z (d.each z h)))
      ∙ ring [] (int (pos 0) ⊕ int (pos 0)) (int (pos 0)) refl

pub quantities-negated : (s : List Entry) → quantities (rows.negated s) ≡ quantities s
quantities-negated [] = refl
quantities-negated (m ∷ s) = ap (λ t. m.quantity ∷ t) (quantities-negated s)

-- ---- what the search shows of a restricted row
module _ (old : List Role) (flags : List Bool) (q : ℕ) (mid : List Role) (carried : IsCarried old flags q mid) where
  below : q < length old
  below = subst (λ n. q < n) carried.size (at_below mid q (Basic carried.asked_row.0) carried.asked_row.1)

  there : (forms : List Linear) (l : List Constraint) → Speaks forms l old flags → Speaks forms l mid flags
  there = carried_speaks old mid flags q carried

  pub positive_rises : IsPositive (constant_at mid q) → RisesStill old flags q
  positive_rises p forms l s = positive mid flags forms l (there forms l s).sound q (at_below mid q (Basic carried.asked_row.0) carried.asked_row.1) p

  pub unlimited_rises : RisesWithoutEnd old flags q → RisesStill old flags q
  unlimited_rises u forms l s = unbounded_rises old flags forms l s.describes s.sound q below u

  module _ (v : ℚ) (multipliers : List Entry) (max : IsMaximum old flags q mid v) (m : AreMultipliers old flags q mid v multipliers) where
    abbrev pub mid_row : Row
    mid_row = carried.asked_row.0

    same_columns : quantities multipliers ≡ quantities mid_row.live
    same_columns = ap quantities (m.entries mid_row carried.asked_row.1) ∙ quantities-negated mid_row.live

    some_entry : (s : List Entry) (z : ℕ) → Has z (quantities s) → (n : Entry) × rows.Has n s × (n.quantity ≡ z)
    some_entry [] z h = absurd h
    some_entry (n ∷ s) z (inl e) = (n, inl refl, sym e)
    some_entry (n ∷ s) z (inr h) = let r = some_entry s z h in (r.0, inr r.1, r.2)

    pub columns_live : (z : ℕ) → Has z (quantities multipliers) → is_live mid z ≡ true
    columns_live z h = let n = some_entry multipliers z h in subst (λ y. is_live mid y ≡ true) n.2 (m.live n.0 n.1)

    columns_restricted : (z : ℕ) → Has z (quantities multipliers) → is_restricted flags z ≡ true
    columns_restricted z h = let n = some_entry multipliers z h in subst (λ y. is_restricted flags y ≡ true) n.2 (m.restricted n.0 n.1)

    columns_made : (z : ℕ) → Has z (quantities multipliers) → z < length mid
    columns_made z h = at_below mid z Live (role_live mid z (columns_live z h))

    module _ (new : List Role) (d : DropsEach mid (quantities multipliers) new) (constant_zero : mid_row.constant ≡ 0ℚ)
        (not_below : (forms : List Linear) (l : List Constraint) → Speaks forms l old flags → (w : ℕ → ℚ) → Satisfies w (weak l) → IsNotNegative (value_at w (form_at forms q))) where
      pub columns_dropped : (forms : List Linear) (l : List Constraint) → Speaks forms l old flags → Speaks forms l new flags
      columns_dropped forms l s =
          drop_speaks forms l mid flags (there forms l s) (quantities multipliers) new d columns_made
          (λ z h w k. columns_zero forms l mid flags (there forms l s) q mid_row carried.asked_row.1 constant_zero
          (optimal old flags forms q mid v multipliers mid_row carried.asked_row.1 m) w k (not_below forms l s w k) z (subst (Has z) same_columns h))

      pub dropped_looks : LooksOn old new flags
      dropped_looks = record {
        size = d.size ∙ carried.size;
        speaks = columns_dropped;
        still = λ c h. d.still c (carried.dropped c ∙ h);
        only = λ c h. elim (d.only c h) [ inl g ↦ inl (columns_restricted c g) | inr g ↦ inr (sym (carried.dropped c) ∙ g) ];
      }

      pub flat_now : IsFlatNow old new flags q
      flat_now forms l s =
          row_flat forms l mid flags (there forms l s) q mid_row carried.asked_row.1 constant_zero new (subst (λ c. DropsEach mid c new) same_columns d)

-- ---- a restricted row
-- it is not below zero
pub restricted_high : (forms : List Linear) (l : List Constraint) (roles : List Role) (flags : List Bool) → Speaks forms l roles flags → (q : ℕ) → is_restricted flags q ≡ true
    → (w : ℕ → ℚ) → Satisfies w (weak l) → IsNotNegative (value_at w (form_at forms q))
restricted_high forms l roles flags s q r w k = restricted_nonneg (tableau roles flags forms) l s.sound w k q (s.sound.written.made_restricted q r) r

-- its constant is zero, where it is not above zero
pub restricted_zero : (forms : List Linear) (l : List Constraint) (roles : List Role) (flags : List Bool) → Speaks forms l roles flags → (q : ℕ) (own : Row)
    → IsAt roles q (Basic own) → is_restricted flags q ≡ true → own.constant ≤ℚ 0ℚ → own.constant ≡ 0ℚ
restricted_zero forms l roles flags s q own at r h =
    le_antisym h (nonneg_to_le (subst (λ t. IsNotNegative (row_of q t).constant) (role_is roles q (Basic own) at)
    (s.sound.feasible.constants q (at_below roles q (Basic own) at) r)))

-- the search's greatest value of it is zero
pub at_zero : (old : List Role) (flags : List Bool) (q : ℕ) (mid : List Role) (carried : IsCarried old flags q mid) (v : ℚ) → IsMaximum old flags q mid v
    → is_restricted flags q ≡ true → (forms : List Linear) (l : List Constraint) → Speaks forms l old flags → v ≤ℚ 0ℚ → carried.asked_row.0.constant ≡ 0ℚ
at_zero old flags q mid carried v max r forms l s h =
    let own = carried.asked_row in
    restricted_zero forms l mid flags (carried_speaks old mid flags q carried forms l s) q own.0 own.1 r
    (subst (λ w. w ≤ℚ 0ℚ) (greatest_constant old mid flags q v max own.0 own.1) h)

-- ---- a column
module _ (old : List Role) (flags : List Bool) (c : ℕ) (live : is_live old c ≡ true) where
  unit_high : (b : Bool) → IsNotNegative (when b 1ℚ +ℚ 0ℚ)
  unit_high true = subst IsNotNegative (ring [] (int (pos 1)) (int (pos 1) ⊕ int (pos 0)) refl) (pos_nonneg pos_one)
  unit_high false = subst IsNotNegative (ring [] (int (pos 0)) (int (pos 0) ⊕ int (pos 0)) refl) nonneg_zero

  -- no restricted row holds it to zero
  pub room_rises : ((q : ℕ) → LeavesRoom old flags c q) → RisesStill old flags c
  room_rises h forms l s = column_rises (tableau old flags forms) l s.sound c room live
    where
      one : (q : ℕ) (t : Role) → IsAt old q t → is_restricted flags q ≡ true → IsPositive (row_of q t).constant ⊎ IsNotNegative (factor_of c (row_of q t).live)
      one q Live a r = inr (unit_high (nat_eq c q))
      one q Dropped a r = inr nonneg_zero
      one q (Basic o) a r = elim (h q (o, a) r) [
        | inl p ↦ inl (subst IsPositive (constant_is old q o a) p)
        | inr p ↦ inr (subst IsNotNegative (factor_is old q o a c ∙ sym (factor_same c o.live)) p)
      ]

      room : HasRoom (tableau old flags forms) c
      room q m r =
          let a = at_exists old q m in
          subst (λ t. IsPositive (row_of q t).constant ⊎ IsNotNegative (factor_of c (row_of q t).live)) (sym (role_is old q a.0 a.1)) (one q a.0 a.1 r)

  -- it is exchanged with a row that does
  module _ (r : ℕ) (b : Blocks old flags c r) (new : List Role) (x : IsExchanged old r c new) (same : SameMeaning old new) (table : AreOverColumns new) where
    row_r : IsRow old r
    row_r = (b.entry.own, b.entry.is_row)

    dropped_same : (z : ℕ) → is_dropped new z ≡ is_dropped old z
    dropped_same z = dropped_after old new r c row_r live x z

    not_r : (z : ℕ) → is_live old z ≡ true → z ≡ r → ⊥
    not_r z h e = apart (is_live old r) (live_at old r (Basic b.entry.own) b.entry.is_row) (subst (λ y. is_live old y ≡ true) e h)
      where
        apart : (t : Bool) → t ≡ false → t ≡ true → ⊥
        apart t n p = cc

    module _ (forms : List Linear) (l : List Constraint) (s : Speaks forms l old flags) where
      made_r : r < length old
      made_r = at_below old r (Basic b.entry.own) b.entry.is_row

      r_changed : Changed (tableau old flags forms) (tableau new flags forms) [] (r ∷ [])
      r_changed = record {
        count = let e = x.size in omega arith;
        form = λ z h. refl;
        drops_made = λ z k. absurd k;
        drops_each = λ z k. absurd k;
        dropped_still = λ z k. dropped_same z ∙ k;
        dropped_only = λ z k. inr (sym (dropped_same z) ∙ k);
        restricts_made = λ z k. subst (λ y. y < length old) (sym (one_of r z k)) made_r;
        restricts_each = λ z k. subst (λ y. is_restricted flags y ≡ true) (sym (one_of r z k)) b.flag;
        restricted_still = λ z k. k;
        restricted_only = λ z k. inr k;
      }

      r_exchanged : Exchanged (tableau old flags forms) (tableau new flags forms) r c (r ∷ [])
      r_exchanged = record {
        changed = r_changed;
        made = made_r;
        column = live;
        leaves = live_at new r Live x.leaves;
        others = λ z h n. (x.others z (not_r z h) n).live ∙ h;
      }

      r_zero : b.entry.own.constant ≡ 0ℚ
      r_zero = restricted_zero forms l old flags s r b.entry.own b.entry.is_row b.flag (not_above (λ p. b.low (subst IsPositive (sym (constant_is old r b.entry.own b.entry.is_row)) p)))
        where
          not_above : (IsPositive b.entry.own.constant → ⊥) → b.entry.own.constant ≤ℚ 0ℚ
          not_above n = elim (lt_or_le 0ℚ b.entry.own.constant) [ inl g ↦ absurd (n (lt_to_pos g)) | inr g ↦ g ]

      entry_there : factor_of c (row_of r (role_at old r)).live ≡ 0ℚ → ⊥
      entry_there z =
          entry_not_zero (is_live old) 0 b.entry.own.live (s.table.rows r b.entry.own b.entry.is_row).live_row (record { quantity = c; factor = b.entry.factor }) b.entry.in_row
          (sym (factor_same c b.entry.own.live) ∙ ap (λ t. factor_of c (row_of r t).live) (sym (role_is old r (Basic b.entry.own) b.entry.is_row)) ∙ z)

      pub lifted_speaks : Speaks forms l new flags
      lifted_speaks =
          let d = tableau old flags forms in
          let e = tableau new flags forms in
          let size = s.size ∙ sym x.size in
          let describes = still_describes old new forms x.size same s.describes in
          let w : IsWritten e = linked_written e (linked new flags forms table size describes) in
          let f = level_exchange d e s.sound.written w r c r_exchanged s.sound.feasible (s.sound.feasible.columns r made_r b.flag)
          (ap (λ t. (row_of r t).constant) (role_is old r (Basic b.entry.own) b.entry.is_row) ∙ r_zero) entry_there in
          record {
            table = table;
            size = size;
            describes = describes;
            sound = sound_dropped d e [] (r ∷ []) r_changed l s.sound w (feasible_of new flags forms table f) (λ z k. absurd k)
                (λ z k. subst (λ y. Owned l (form_at forms y)) (sym (one_of r z k)) (s.sound.restricted r made_r b.flag));
            dropped = still_dropped d e s.sound.written [] (r ∷ []) r_changed
                (λ z k. subst (λ y. is_dropped old y ≡ false) (sym (one_of r z k)) (dropped_at old r (Basic b.entry.own) b.entry.is_row)) l s.dropped;
          }

    pub lifted_looks : LooksOn old new flags
    lifted_looks = record { size = x.size; speaks = lifted_speaks; still = λ z h. dropped_same z ∙ h; only = λ z h. inr (sym (dropped_same z) ∙ h) }

-- ---- which rows hold a column to zero
module _ (roles : List Role) (flags : List Bool) (c q : ℕ) where
  pub column_leaves : IsAt roles q Live ⊎ IsAt roles q Dropped → LeavesRoom roles flags c q
  column_leaves (inl a) r f = let e = at_one roles q Live (Basic r.0) a r.1 in cc
  column_leaves (inr a) r f = let e = at_one roles q Dropped (Basic r.0) a r.1 in cc

  pub unflagged_leaves : is_restricted flags q ≡ false → LeavesRoom roles flags c q
  unflagged_leaves n r f = apart (is_restricted flags q) n f
    where
      apart : (b : Bool) → b ≡ false → b ≡ true → IsPositive (constant_at roles q) ⊎ IsNotNegative (factor_at roles q c)
      apart b n p = cc

  module _ (own : Row) (at : IsAt roles q (Basic own)) where
    pub positive_leaves : IsPositive own.constant → LeavesRoom roles flags c q
    positive_leaves p r f = inl (subst IsPositive (sym (constant_is roles q own at)) p)

    pub lacking_leaves : rows.Lacks c own.live → LeavesRoom roles flags c q
    lacking_leaves l r f = inr (subst IsNotNegative (sym (factor_is roles q own at c ∙ no_entry c own.live l)) nonneg_zero)

    pub entry_blocks : AreOverColumns roles → is_restricted flags q ≡ true → (k : Bool) → (IsPositive own.constant → k ≡ true) → k ≡ false
        → (e : ℚ) → rows.Has (record { quantity = c; factor = e }) own.live → (b : Bool) → (b ≡ true → e <ℚ 0ℚ) → OnFalse b (IsNotNegative e)
        → MatchBool b (Blocks roles flags c q) (LeavesRoom roles flags c q)
    entry_blocks table f k up low e h true n o = record {
      entry = record { own = own; factor = e; is_row = at; in_row = h };
      falls = n refl;
      flag = f;
      low = λ p. let g = up (subst IsPositive (constant_is roles q own at) p) in cc;
    }
    entry_blocks table f k up low e h false n o = λ r g.
        inr (subst IsNotNegative
        (sym (factor_is roles q own at c ∙ at_unit (is_live roles) 0 own.live (record { quantity = c; factor = e }) (table.rows q own at).live_row h)) o)

-- ---- what was seen before a step, and after it
pub rises_before : (old mid : List Role) (flags : List Bool) → LooksOn old mid flags → (q : ℕ) → RisesStill mid flags q → RisesStill old flags q
rises_before old mid flags x q r forms l s = r forms l (x.speaks forms l s)

pub flat_before : (old mid new : List Role) (flags : List Bool) → LooksOn old mid flags → (q : ℕ) → IsFlatNow mid new flags q → IsFlatNow old new flags q
flat_before old mid new flags x q f forms l s = f forms l (x.speaks forms l s)

pub flat_further : (forms : List Linear) (mid new : List Role) (flags : List Bool) → LooksOn mid new flags → (q : ℕ) → IsFlatAt forms mid flags q → IsFlatAt forms new flags q
flat_further forms mid new flags x q f v w = f v (λ c h. w c (x.still c h))

-- ---- the quantities below a number
abbrev pub StandBelow : List Constraint → List Name → List Role → List Role → List Bool → ℕ → Type 0
StandBelow told names old now flags q =
    (forms : List Linear) (l : List Constraint) → Speaks forms l old flags → (z : ℕ) → z < q → is_restricted flags z ≡ true → StandsAt told names forms l now flags z

module _ (told : List Constraint) (names : List Name) (old mid new : List Role) (flags : List Bool) (before : LooksOn old mid flags) (x : LooksOn mid new flags) (q : ℕ)
    (b : StandBelow told names old mid flags q) where
  further : (forms : List Linear) (l : List Constraint) → Speaks forms l old flags → (z : ℕ) → z < q → is_restricted flags z ≡ true → StandsAt told names forms l new flags z
  further forms l s z h r = elim (b forms l s z h r) [ inl g ↦ inl g | inr g ↦ inr (flat_further forms mid new flags x z g.0, g.1) ]

  pub one_more : ((forms : List Linear) (l : List Constraint) → Speaks forms l old flags → is_restricted flags q ≡ true → StandsAt told names forms l new flags q)
      → StandBelow told names old new flags (q + 1)
  one_more own forms l s z h r = elim (last z h) [ inl g ↦ further forms l s z g r | inr e ↦ subst (StandsAt told names forms l new flags) (sym e) (own forms l s (subst (λ y. is_restricted flags y ≡ true) e r)) ]
    where
      last : (z : ℕ) → z < q + 1 → (z < q) ⊎ (z ≡ q)
      last z h = grind arith

pub none_below : (told : List Constraint) (names : List Name) (old : List Role) (flags : List Bool) → StandBelow told names old old flags 0
none_below told names old flags forms l s z h = absurd (omega (arith, h))

-- ---- the member of a name
number_named : (o : Option Name) (i : ℕ) → number_of o ≡ i → (i ≡ 0 → ⊥) → o ≡ Some (Member i)
number_named None i e n = absurd (n (sym e))
number_named (Some (Variable x)) i e n = absurd (n (sym e))
number_named (Some (Member j)) i e n = ap (λ k. Some (Member k)) e

get_some : (l : List Constraint) (k : ℕ) (x : Constraint) → k < length l → x ≡ get_or l k x → slice_get l k ≡ Some x
get_some [] k x h e = absurd (omega (arith, h))
get_some (y ∷ l) zero x h e = ap Some (sym e)
get_some (y ∷ l) (suc k) x h e = get_some l k x (omega (arith, h)) e

pub member_here : (told : List Constraint) (names : List Name) (n k : ℕ) (c : Constraint) → number_in names n ≡ suc k → k < length told → c ≡ get_or told k c
    → IsMemberOf (λ s. s ≡ c.relation) told names n
member_here told names n k c e h g = record {
  number = suc k;
  named = number_named (slice_get names n) (suc k) e (λ z. cc);
  constraint = c;
  told_at = get_some told k c h g;
  relation_is = refl;
}

pub one_member : (R S : Relation → Type 0) (told : List Constraint) (names : List Name) (n : ℕ) (a : IsMemberOf R told names n) (b : IsMemberOf S told names n) → S a.constraint.relation
one_member R S told names n a b = subst (λ (k : Constraint). S k.relation) (same_Some b.constraint a.constraint (sym b.told_at ∙ ap (member told) (same_number b.number a.number (sym b.named ∙ a.named)) ∙ a.told_at)) b.relation_is
  where
    same_number : (i j : ℕ) → Some (Member i) ≡ Some (Member j) → i ≡ j
    same_number i j e = cc

-- a quantity's relation tells whether it is of one
pub of_relation : (told : List Constraint) (names : List Name) (n : ℕ) (r w : Relation) → IsMemberOf (λ t. t ≡ r) told names n → (b : Bool) → MatchBool b (r ≡ w) (r ≡ w → ⊥)
    → MatchBool b (IsMemberOf (λ t. t ≡ w) told names n) (IsMemberOf (λ t. t ≡ w) told names n → ⊥)
of_relation told names n r w m true e = subst (λ t. IsMemberOf (λ u. u ≡ t) told names n) e m
of_relation told names n r w m false e = λ k. e (sym m.relation_is ∙ one_member (λ t. t ≡ r) (λ t. t ≡ w) told names n m k)

pub of_none : (told : List Constraint) (names : List Name) (n : ℕ) (w : Relation) → (IsMemberOf IsAny told names n → ⊥) → IsMemberOf (λ t. t ≡ w) told names n → ⊥
of_none told names n w h m = h (record { number = m.number; named = m.named; constraint = m.constraint; told_at = m.told_at; relation_is = tt })

-- ---- a look after a step
module _ (old mid : List Role) (flags mid_flags : List Bool) (e : mid_flags ≡ flags) (x : LooksOn old mid flags) where
  pub then_looks : (new : List Role) → LooksOn mid new mid_flags → LooksOn old new flags
  then_looks new y = looks_further old mid new flags x (subst (LooksOn mid new) e y)

  pub then_speaks : SpeaksOfSome old flags → SpeaksOfSome mid mid_flags
  then_speaks s = subst (SpeaksOfSome mid) (sym e) (speaks_further old mid flags s x)

  pub then_seen : (new : List Role) (q : ℕ) (s : Seen) → IsSeen mid new mid_flags q s → IsSeen old new flags q s
  then_seen new q of_seen.Rises h = rises_before old mid flags x q (subst (λ f. RisesStill mid f q) e h)
  then_seen new q of_seen.Flat h = flat_before old mid new flags x q (subst (λ f. IsFlatNow mid new f q) e h)

  pub then_refuses : (pair : Pair) → RefusesLook mid mid_flags pair → RefusesLook old flags pair
  then_refuses pair r = record {
    roles = r.roles;
    looks = then_looks r.roles r.looks;
    row = r.row;
    column = r.column;
    made = r.made;
    refused = r.refused;
  }

  pub then_spends : (n : ℕ) → SpendsLook mid mid_flags n → SpendsLook old flags n
  then_spends n r = record {
    roles = r.roles;
    looks = then_looks r.roles r.looks;
    row = r.row;
    is_row = r.is_row;
    flag = subst (λ f. is_restricted f r.row ≡ true) e r.flag;
    last = r.last;
    spent = subst (λ f. AreSpent r.roles f r.row of_aim.Positive n r.last) e r.spent;
  }

-- a column that is not dropped
pub live_column : (roles : List Role) (q : ℕ) → IsAt roles q Live ⊎ IsAt roles q Dropped → is_dropped roles q ≡ false → is_live roles q ≡ true
live_column roles q (inl a) n = live_at roles q Live a
live_column roles q (inr a) n = let h = dropped_at roles q Dropped a in cc

pub apart : {A : Type 0} (b : Bool) → b ≡ false → b ≡ true → A
apart b n p = cc

-- all quantities are below the count
pub all_below : (told : List Constraint) (names : List Name) (old now : List Role) (flags : List Bool) (q : ℕ) → length old ≤ q → StandBelow told names old now flags q
    → (forms : List Linear) (l : List Constraint) → Speaks forms l old flags → (z : ℕ) → is_restricted flags z ≡ true → StandsAt told names forms l now flags z
all_below told names old now flags q h b forms l s z r = let m = s.sound.written.made_restricted z r in b forms l s z (omega (arith, h, m)) r
