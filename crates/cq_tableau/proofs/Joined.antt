-- A quantity that may be above zero joins as a restricted one.
use Rattle.std.proofs.Common.{◌≡◌, ℕ, ◌<◌, List, [], ◌∷◌, length, Bool, true, false, nat_eq, ◌⊎◌, inl, inr, pos, refl, ap, sym, subst, ◌∙◌}
use Rattle.std.specs.Prelude.{slice_set}
use Rattle.std.proofs.lemmas.List.{length-set}
use Rattle.spec_numbers.specs.Rational.{ℚ, 0ℚ, 1ℚ, ◌+ℚ◌, neg_ℚ, IsPositive, IsNotNegative, ◌<ℚ◌}
use Rattle.spec_numbers.specs.Sums.{factor_of, when}
use Rattle.spec_numbers.proofs.Ring.{var, int, ◌⊕◌, minus}
use Rattle.spec_numbers.proofs.RationalLemmas.{ring}
use Rattle.spec_numbers.proofs.Sign.{Sign, is_pos, is_neg, sign, pos_nonneg, pos_one, nonneg_zero, not_pos_zero}
use Rattle.spec_numbers.proofs.Sign as sign_of
use Rattle.spec_linear.specs.declared.Relation.TheVariants.{Eq, Gt, Ge}
use Rattle.spec_linear.specs.Form.{Linear}
use Rattle.spec_linear.specs.Solution.{Constraint, Has}
use Rattle.spec_linear.specs.Weak.{above_zero, at_least_zero}
use Rattle.spec_simplex.specs.Rule as of_rule
use Rattle.spec_simplex.specs.Reach.{Rises}
use Rattle.spec_simplex.specs.Tableau.{AllIn, IsWritten, IsUnlimited, HasFeasibleNumbers, Changed, Exchanged}
use Rattle.spec_simplex.proofs.Standing.{clash, pos_not_zero}
use Rattle.spec_simplex.proofs.Linked.{linked_written}
use Rattle.spec_simplex.proofs.Steps.{joined_weak, joined_strict, one_of}
use Rattle.spec_simplex.proofs.More.{dropped_more, still_dropped}
use Rattle.spec_simplex.proofs.TableauWritten.{not_in, free_rises}
use Rattle.spec_simplex.proofs.Feasible.{free_exchange, unlimited_exchange, restricted_row}
use Rattle.cq_frac.specs.Row.{Row}
use Rattle.cq_frac.specs.Rows as rows
use Rattle.cq_dict.specs.declared.table.Role.{Role}
use Rattle.cq_dict.specs.declared.table.Role.TheVariants.{Live, Dropped, Basic}
use Rattle.cq_dict.specs.Roles.{IsAt, IsRow, AreOverColumns, HasEntry, IsExchanged, is_live, is_dropped, is_restricted, role_at, constant_at, factor_at}
use Rattle.cq_dict.specs.Dict.{SameMeaning}
use Rattle.cq_dict.proofs.Roles.{role_is, at_below, at_exists, constant_is, dropped_at, factor_is, row_is, is_row_of}
use Rattle.cq_simplex.specs.Dictionary.{dictionary}
use Rattle.cq_simplex.specs.Climbs.{IsCarried}
use Rattle.cq_simplex.specs.Answers.{RisesWithoutEnd}
use Rattle.cq_simplex.proofs.Entries.{has_entry}
use Rattle.cq_simplex.proofs.Roles.{dropped_after}
use Rattle.cq_tableau.specs.Forms.{row_of, form_at, tableau}
use Rattle.cq_tableau.specs.Keeps.{Keeps, KeepsBoth, StillKeeps, Joins}
use Rattle.cq_tableau.proofs.Tied.{linked, still_describes, factor_same, feasible_of, each_restricted, entry_live, entry_not_zero, carried_invariant, changed, constant_row, positive, unbounded_rises}
use Rattle.cq_tableau.proofs.Steps.{exchanged, restricted, flag_still, flag_only}

ge_not_eq : Ge ≡ Eq → ⊥
ge_not_eq e = cc

gt_not_eq : Gt ≡ Eq → ⊥
gt_not_eq e = cc

module _ (forms : List Linear) (l : List Constraint) (old : List Role) (flags : List Bool) (k : Keeps forms l old flags) where
  pub written : IsWritten (tableau old flags forms)
  written = linked_written (tableau old flags forms) (linked old flags forms k.table k.size k.describes)

  pub numbers_feasible : HasFeasibleNumbers (tableau old flags forms)
  numbers_feasible =
      let f = k.invariant.sound.feasible in
      record {
        constants = f.constants;
        no_free_column = λ z h t c n. not_in (is_restricted flags) c (row_of z (role_at old z)).live (f.columns z h t) n;
      }

  module _ (q : ℕ) (row : IsRow old q) where
    made : q < length old
    made = at_below old q (Basic row.0) row.1

    row_at : (tableau old flags forms).row q ≡ row_of q (Basic row.0)
    row_at = ap (row_of q) (role_is old q (Basic row.0) row.1)

    row_not_dropped : (z : ℕ) → Has z (q ∷ []) → is_dropped old z ≡ false
    row_not_dropped z h = subst (λ y. is_dropped old y ≡ false) (sym (one_of q z h)) (dropped_at old q (Basic row.0) row.1)

    -- a column's factor in the row
    factor_here : (c : ℕ) → factor_of c (row_of q (role_at old q)).live ≡ factor_at old q c
    factor_here c = ap (λ s. factor_of c (row_of q s).live) (role_is old q (Basic row.0) row.1) ∙ factor_same c row.0.live ∙ sym (factor_is old q row.0 row.1 c)

    -- ---- with the quantity restricted
    module _ (new : List Role) (table : AreOverColumns new) (size : length new ≡ length old) (same : SameMeaning old new)
        (ch : Changed (tableau old flags forms) (tableau new (slice_set flags q true) forms) [] (q ∷ [])) where
      flags_size : length (slice_set flags q true) ≡ length new
      flags_size = length-set flags q true ∙ k.size ∙ sym size

      new_written : IsWritten (tableau new (slice_set flags q true) forms)
      new_written =
          linked_written (tableau new (slice_set flags q true) forms)
          (linked new (slice_set flags q true) forms table flags_size (still_describes old new forms size same k.describes))

      joined : HasFeasibleNumbers (tableau new (slice_set flags q true) forms) → Rises l (form_at forms q) → KeepsBoth forms l q new (slice_set flags q true)
      joined feasible up =
          let d = tableau old flags forms in
          let e = tableau new (slice_set flags q true) forms in
          let f = feasible_of new (slice_set flags q true) forms table feasible in
          record {
            weak = record {
              table = table;
              size = flags_size;
              describes = still_describes old new forms size same k.describes;
              invariant = joined_weak d e l k.invariant q made ch new_written f up;
              dropped = dropped_more d e written [] (q ∷ []) ch row_not_dropped l k.dropped (at_least_zero (form_at forms q)) (λ r. absurd (ge_not_eq r));
            };
            strict = record {
              table = table;
              size = flags_size;
              describes = still_describes old new forms size same k.describes;
              invariant = joined_strict d e l k.invariant q made ch new_written f up;
              dropped = dropped_more d e written [] (q ∷ []) ch row_not_dropped l k.dropped (above_zero (form_at forms q)) (λ r. absurd (gt_not_eq r));
            };
          }

    -- an unrestricted column enters
    module _ (c : ℕ) (entry : HasEntry old q c) (new : List Role) (x : IsExchanged old q c new) (same : SameMeaning old new) (table : AreOverColumns new) where
      column_live : is_live old c ≡ true
      column_live = entry_live (is_live old) 0 entry.own.live (k.table.rows q entry.own entry.is_row).live_row (record { quantity = c; factor = entry.factor }) entry.in_row

      entry_there : factor_at old q c ≡ 0ℚ → ⊥
      entry_there z =
          entry_not_zero (is_live old) 0 entry.own.live (k.table.rows q entry.own entry.is_row).live_row (record { quantity = c; factor = entry.factor }) entry.in_row
          (sym (factor_is old q entry.own entry.is_row c) ∙ z)

      exchange : Exchanged (tableau old flags forms) (tableau new (slice_set flags q true) forms) q c (q ∷ [])
      exchange = exchanged old new flags forms q c row column_live x k.size

      pub join_free : is_restricted flags c ≡ false → KeepsBoth forms l q new (slice_set flags q true)
      join_free n =
          joined new table x.size same exchange.changed
          (free_exchange (tableau old flags forms) (tableau new (slice_set flags q true) forms) written (new_written new table x.size same exchange.changed) q c exchange k.invariant.sound.feasible n)
          (free_rises (tableau old flags forms) l k.invariant.sound q made c column_live n (λ z. entry_there (sym (factor_here c) ∙ z))).0

      -- a column that no row limits enters, where the quantity is below zero
      pub join_unlimited : IsUnlimited (tableau old flags forms) c → IsPositive (factor_at old q c) → constant_at old q <ℚ 0ℚ
          → AllIn (is_restricted flags) (row_of q (role_at old q)).live → Rises l (form_at forms q) → KeepsBoth forms l q new (slice_set flags q true)
      join_unlimited o p low a up =
          joined new table x.size same exchange.changed
          (unlimited_exchange (tableau old flags forms) (tableau new (slice_set flags q true) forms) written (new_written new table x.size same exchange.changed) q c exchange
          k.invariant.sound.feasible o (subst IsPositive (sym (factor_here c)) p)
          (subst IsNotNegative (ring (constant_at old q ∷ []) (int (pos 0) ⊕ minus (var 0)) (minus (var 0)) refl ∙ ap neg_ℚ (sym (constant_row q (role_at old q)))) (pos_nonneg low.gap))
          a)
          up

    -- it is restricted where it stands
    pub join_here : ((z : ℕ) → is_restricted flags z ≡ false → factor_of z (row_of q (role_at old q)).live ≡ 0ℚ) → IsNotNegative (constant_at old q)
        → Rises l (form_at forms q) → KeepsBoth forms l q old (slice_set flags q true)
    join_here free high up =
        joined old k.table refl (λ x. (λ m. m, λ m. m)) (restricted old flags forms q made k.size)
        (record { constants = λ z h t. constants z h (flag_only flags q z t); no_free_column = λ z h t c n. columns z h c (was_free c n) (flag_only flags q z t) })
        up
      where
        was_free : (c : ℕ) → is_restricted (slice_set flags q true) c ≡ false → is_restricted flags c ≡ false
        was_free c n = go (is_restricted flags c) refl
          where
            go : (b : Bool) → is_restricted flags c ≡ b → is_restricted flags c ≡ false
            go false e = e
            go true e = absurd (clash (is_restricted (slice_set flags q true) c) n (flag_still flags q c e))

        constants : (z : ℕ) → z < length old → Has z (q ∷ []) ⊎ (is_restricted flags z ≡ true) → IsNotNegative (row_of z (role_at old z)).constant
        constants z h (inl m) =
            subst (λ y. IsNotNegative (row_of y (role_at old y)).constant) (sym (one_of q z m)) (subst IsNotNegative (sym (constant_row q (role_at old q))) high)
        constants z h (inr t) = k.invariant.sound.feasible.constants z h t

        columns : (z : ℕ) → z < length old → (c : ℕ) → is_restricted flags c ≡ false → Has z (q ∷ []) ⊎ (is_restricted flags z ≡ true) → factor_of c (row_of z (role_at old z)).live ≡ 0ℚ
        columns z h c n (inl m) = subst (λ y. factor_of c (row_of y (role_at old y)).live ≡ 0ℚ) (sym (one_of q z m)) (free c n)
        columns z h c n (inr t) = numbers_feasible.no_free_column z h t c n

    -- ---- a row without an unrestricted column
    pub over_restricted : ((c : ℕ) → is_live old c ≡ true → is_restricted flags c ≡ false → factor_at old q c ≡ 0ℚ)
        → AllIn (is_restricted flags) (row_of q (role_at old q)).live
    over_restricted f =
        subst (λ s. AllIn (is_restricted flags) (row_of q s).live) (sym (role_is old q (Basic row.0) row.1))
        (each_restricted flags (is_live old) row.0 (k.table.rows q row.0 row.1).live_row
        (λ c h n. sym (factor_is old q row.0 row.1 c) ∙ f c h n) row.0.live (λ m h. h))

    -- ---- what the search leaves
    module _ (mid : List Role) (r : IsCarried old flags q mid) where
      pub carried_keeps : Keeps forms l mid flags
      carried_keeps = record {
        table = r.table;
        size = k.size ∙ sym r.size;
        describes = still_describes old mid forms r.size r.same k.describes;
        invariant = carried_invariant old mid flags forms l q k.size k.describes k.invariant r;
        dropped = still_dropped (tableau old flags forms) (tableau mid flags forms) written [] [] (changed old mid flags forms q r) (λ z h. absurd h) l k.dropped;
      }

-- the row that is asked stays over restricted columns
module _ (forms : List Linear) (l : List Constraint) (old : List Role) (flags : List Bool) (k : Keeps forms l old flags) (q : ℕ) (row : IsRow old q)
    (a : AllIn (is_restricted flags) (row_of q (role_at old q)).live) (mid : List Role) (r : IsCarried old flags q mid) where
  after : Keeps forms l mid flags
  after = carried_keeps forms l old flags k q row mid r

  pub no_free_entry : (z : ℕ) → is_restricted flags z ≡ false → factor_of z (row_of q (role_at mid q)).live ≡ 0ℚ
  no_free_entry =
      restricted_row (tableau old flags forms) (tableau mid flags forms) (written forms l old flags k) (written forms l mid flags after) (changed old mid flags forms q r) q
      (at_below old q (Basic row.0) row.1) a (numbers_feasible forms l mid flags after)

-- a column that no row of the search limits
module _ (roles : List Role) (flags : List Bool) (forms : List Linear) (asked c : ℕ) (u : of_rule.IsUnlimited (is_restricted flags) (dictionary roles asked) c) where
  unit_not_negative : (b : Bool) → IsNotNegative (when b 1ℚ +ℚ 0ℚ)
  unit_not_negative true = subst IsNotNegative (ring [] (int (pos 1)) (int (pos 1) ⊕ int (pos 0)) refl) (pos_nonneg pos_one)
  unit_not_negative false = subst IsNotNegative (ring [] (int (pos 0)) (int (pos 0) ⊕ int (pos 0)) refl) nonneg_zero

  not_falling : (z : ℕ) (s : Role) → IsAt roles z s → is_restricted flags z ≡ true → IsNotNegative (factor_of c (row_of z s).live)
  not_falling z Live a t = unit_not_negative (nat_eq c z)
  not_falling z Dropped a t = nonneg_zero
  not_falling z (Basic o) a t = subst IsNotNegative (sym (factor_same c o.live)) (go (sign (rows.sum_at (rows.unit c) o.live)))
    where
      go : Sign (rows.sum_at (rows.unit c) o.live) → IsNotNegative (rows.sum_at (rows.unit c) o.live)
      go (is_pos p) = pos_nonneg p
      go (sign_of.is_zero e) = subst IsNotNegative (sym e) nonneg_zero
      go (is_neg p) = absurd (u.no_limit z (record { row = row_is roles z o a; flag = t; falls = subst (λ b. IsPositive (neg_ℚ b)) (sym (factor_is roles z o a c)) p }))

  pub unlimited : IsUnlimited (tableau roles flags forms) c
  unlimited = record {
    is_live = u.raises.column;
    rows = λ z h t. let a = at_exists roles z h in
        subst (λ s. IsNotNegative (factor_of c (row_of z s).live)) (sym (role_is roles z a.0 a.1)) (not_falling z a.0 a.1 t);
  }

-- ---- what the calls of `raise` show
pub free_entry : (roles : List Role) (restricted : ℕ → Bool) (q c : ℕ) → IsRow roles q → of_rule.IsFree restricted (dictionary roles q) c → HasEntry roles q c
free_entry roles restricted q c row f = has_entry roles q c (is_row_of roles q row) f.coefficient

pub unbounded_entry : (roles : List Role) (restricted : ℕ → Bool) (q c : ℕ) → IsRow roles q
    → of_rule.IsUnlimited restricted (dictionary roles q) c ⊎ of_rule.IsFree restricted (dictionary roles q) c → HasEntry roles q c
unbounded_entry roles restricted q c row (inl u) = has_entry roles q c (is_row_of roles q row) (λ z. pos_not_zero u.raises.coefficient z)
unbounded_entry roles restricted q c row (inr f) = free_entry roles restricted q c row f

module _ (old : List Role) (flags : List Bool) (q : ℕ) (row : IsRow old q) where
  -- an unrestricted column enters at once
  pub free_joins : (c : ℕ) → of_rule.IsFree (is_restricted flags) (dictionary old q) c → (new : List Role) (new_flags : List Bool) → IsExchanged old q c new
      → SameMeaning old new → AreOverColumns new → new_flags ≡ slice_set flags q true → Joins q old flags new new_flags
  free_joins c f new new_flags x same table e = λ forms l k. (
    subst (λ g. KeepsBoth forms l q new g) (sym e)
        (join_free forms l old flags k q row c (free_entry old (is_restricted flags) q c row f) new x same table f.flag),
    λ z. dropped_after old new q c row f.column x z,
  )

  module _ (none : (c : ℕ) → is_live old c ≡ true → is_restricted flags c ≡ false → factor_at old q c ≡ 0ℚ) (mid : List Role)
      (carried : IsCarried old flags q mid) where
    pub asked_row : IsRow mid q
    asked_row = carried.asked_row

    pub still_keeps : StillKeeps old mid flags
    still_keeps forms l k = carried_keeps forms l old flags k q row mid carried

    module _ (forms : List Linear) (l : List Constraint) (k : Keeps forms l old flags) where
      no_entry : (z : ℕ) → is_restricted flags z ≡ false → factor_of z (row_of q (role_at mid q)).live ≡ 0ℚ
      no_entry = no_free_entry forms l old flags k q row (over_restricted forms l old flags k q row none) mid carried

      restricted_columns : AllIn (is_restricted flags) (row_of q (role_at mid q)).live
      restricted_columns =
          over_restricted forms l mid flags (still_keeps forms l k) q asked_row
          (λ c h n. sym (factor_here forms l mid flags (still_keeps forms l k) q asked_row c) ∙ no_entry c n)

      below_count : q < length old
      below_count = at_below old q (Basic row.0) row.1

    -- above zero
    pub positive_joins : IsPositive (constant_at mid q) → (new : List Role) (new_flags : List Bool) → new ≡ mid → new_flags ≡ slice_set flags q true
        → Joins q old flags new new_flags
    positive_joins p new new_flags d e = λ forms l k. (
      subst (λ g. KeepsBoth forms l q g new_flags) (sym d) (subst (λ g. KeepsBoth forms l q mid g) (sym e)
          (join_here forms l mid flags (still_keeps forms l k) q asked_row (no_entry forms l k) (pos_nonneg p)
          (positive mid flags forms l (still_keeps forms l k).invariant.sound q (at_below mid q (Basic asked_row.0) asked_row.1) p))),
      λ z. ap (λ r. is_dropped r z) d ∙ carried.dropped z,
    )

    -- without a greatest value, and not below zero
    pub unbounded_joins : RisesWithoutEnd old flags q → IsNotNegative (constant_at mid q) → (new : List Role) (new_flags : List Bool) → new ≡ mid
        → new_flags ≡ slice_set flags q true → Joins q old flags new new_flags
    unbounded_joins u high new new_flags d e = λ forms l k. (
      subst (λ g. KeepsBoth forms l q g new_flags) (sym d) (subst (λ g. KeepsBoth forms l q mid g) (sym e)
          (join_here forms l mid flags (still_keeps forms l k) q asked_row (no_entry forms l k) high
          (unbounded_rises old flags forms l k.describes k.invariant.sound q (below_count forms l k) u))),
      λ z. ap (λ r. is_dropped r z) d ∙ carried.dropped z,
    )

    -- without a greatest value, and below zero
    pub unlimited_joins : (c : ℕ) → RisesWithoutEnd old flags q
        → of_rule.IsUnlimited (is_restricted flags) (dictionary mid q) c ⊎ of_rule.IsFree (is_restricted flags) (dictionary mid q) c
        → constant_at mid q <ℚ 0ℚ → (new : List Role) (new_flags : List Bool) → IsExchanged mid q c new → SameMeaning mid new → AreOverColumns new
        → new_flags ≡ slice_set flags q true → Joins q old flags new new_flags
    unlimited_joins c u (inl o) low new new_flags x same table e = λ forms l k. (
      subst (λ g. KeepsBoth forms l q new g) (sym e)
          (join_unlimited forms l mid flags (still_keeps forms l k) q asked_row c (unbounded_entry mid (is_restricted flags) q c asked_row (inl o)) new x same table
          (unlimited mid flags forms q c o) o.raises.coefficient low (restricted_columns forms l k)
          (unbounded_rises old flags forms l k.describes k.invariant.sound q (below_count forms l k) u)),
      λ z. dropped_after mid new q c asked_row o.raises.column x z ∙ carried.dropped z,
    )
    unlimited_joins c u (inr f) low new new_flags x same table e = λ forms l k. (
      subst (λ g. KeepsBoth forms l q new g) (sym e)
          (join_free forms l mid flags (still_keeps forms l k) q asked_row c (free_entry mid (is_restricted flags) q c asked_row f) new x same table f.flag),
      λ z. dropped_after mid new q c asked_row f.column x z ∙ carried.dropped z,
    )

-- the constant that a call tells
pub told_constant : (roles : List Role) (q : ℕ) (row : IsRow roles q) (v : ℚ) → ((own : Row) → IsAt roles q (Basic own) → v ≡ own.constant) → v ≡ constant_at roles q
told_constant roles q row v h = h row.0 row.1 ∙ sym (constant_is roles q row.0 row.1)
