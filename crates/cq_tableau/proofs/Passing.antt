-- The columns by which a row crosses zero.
use Rattle.std.proofs.Common.{◌≡◌, ℕ, ◌<◌, List, [], ◌∷◌, length, Bool, true, false, ◌⊎◌, inl, inr, nat_eq, pos, arith, refl, ap, ap₂, sym, subst, ◌∙◌}
use Rattle.spec_numbers.specs.Rational.{ℚ, 0ℚ, 1ℚ, ◌+ℚ◌, ◌*ℚ◌, neg_ℚ, inv_ℚ, IsPositive, IsNotNegative}
use Rattle.spec_numbers.specs.Sums.{factor_of, when}
use Rattle.spec_numbers.proofs.Ring.{var, int, ◌⊕◌, ◌⊗◌, minus}
use Rattle.spec_numbers.proofs.RationalLemmas.{ring}
use Rattle.spec_numbers.proofs.Sign.{Sign, is_pos, is_neg, sign, nonneg_mul, nonneg_add, pos_nonneg, pos_add, pos_one, pos_mul, inv_pos, inv_mul, nonneg_zero, times_inverse, not_pos_zero}
use Rattle.spec_numbers.proofs.Sign as sign_of
use Rattle.spec_linear.specs.Form.{Linear, negated_form}
use Rattle.spec_linear.specs.Solution.{Constraint}
use Rattle.spec_linear.proofs.Values.{value_at-negated_form}
use Rattle.spec_simplex.specs.Dictionary as of_simplex
use Rattle.spec_simplex.specs.Rule as of_rule
use Rattle.spec_simplex.specs.Reach.{Rises}
use Rattle.spec_simplex.specs.Tableau.{Tableau, AllIn, Sound, IsWritten, IsUnlimited, Changed, Eliminated, HasFeasibleNumbers}
use Rattle.spec_simplex.proofs.Linked.{linked_written}
use Rattle.spec_simplex.proofs.More.{open_rises, still_dropped}
use Rattle.spec_simplex.proofs.Feasible.{free_elimination}
use Rattle.spec_simplex.proofs.Steps as of_steps
use Rattle.spec_simplex.proofs.TableauWritten.{free_rises, basic, basic_is, basic_solves, ray, ray_is, solves_weak, rises_by_constant}
use Rattle.cq_frac.specs.Rows as rows
use Rattle.cq_dict.specs.declared.table.Role.{Role}
use Rattle.cq_dict.specs.declared.table.Role.TheVariants.{Live, Dropped, Basic}
use Rattle.cq_dict.specs.Roles.{IsAt, IsRow, AreOverColumns, IsExchanged, IsEliminated, is_live, is_dropped, is_restricted, role_at, constant_at, factor_at}
use Rattle.cq_dict.specs.Dict.{SameMeaning}
use Rattle.cq_dict.proofs.Roles.{at_below, at_exists, live_at, dropped_at, role_dropped, role_is, row_is, is_row_of, equal_or_not, factor_is}
use Rattle.cq_simplex.specs.Dictionary.{dictionary}
use Rattle.cq_simplex.proofs.Entries.{has_entry}
use Rattle.cq_simplex.proofs.Roles.{dropped_after}
use Rattle.cq_tableau.specs.Forms.{row_of, form_at, tableau}
use Rattle.cq_tableau.specs.Keeps.{Keeps, StillKeeps}
use Rattle.cq_tableau.specs.Raised.{HasNoFreeColumn}
use Rattle.cq_tableau.proofs.Tied.{linked, still_describes, feasible, factor_same, constant_row}
use Rattle.cq_tableau.proofs.Joined.{written, over_restricted}
use Rattle.cq_tableau.specs.Turned.{towards}
use Rattle.cq_tableau.specs.Levelled.{IsOff, CrossesAt}
use Rattle.cq_tableau.proofs.Turned.{own_constant, own_factor}
use Rattle.cq_tableau.proofs.Crossing.{far, crossing_feasible, unlimited_high, passed_high}

-- ---- signs
square : (a : ℚ) → IsNotNegative (a *ℚ a)
square a = go (sign a)
  where
    go : Sign a → IsNotNegative (a *ℚ a)
    go (is_pos h) = nonneg_mul (pos_nonneg h) (pos_nonneg h)
    go (is_neg h) = subst IsNotNegative (ring (a ∷ []) (minus (var 0) ⊗ minus (var 0)) (var 0 ⊗ var 0) refl) (nonneg_mul (pos_nonneg h) (pos_nonneg h))
    go (sign_of.is_zero e) = subst (λ b. IsNotNegative (b *ℚ b)) (sym e) (subst IsNotNegative (ring [] (int (pos 0)) (int (pos 0) ⊗ int (pos 0)) refl) nonneg_zero)

-- a quotient has the sign of the product
same_sign : (a g : ℚ) → (g ≡ 0ℚ → ⊥) → IsNotNegative (a *ℚ g) → IsNotNegative (a *ℚ inv_ℚ g)
same_sign a g n h =
    subst IsNotNegative
    (ring (a ∷ g ∷ inv_ℚ g ∷ []) ((var 0 ⊗ var 1) ⊗ (var 2 ⊗ var 2)) (var 0 ⊗ var 2 ⊗ (var 1 ⊗ var 2)) refl
    ∙ ap (λ b. a *ℚ inv_ℚ g *ℚ b) (times_inverse g n) ∙ ring ((a *ℚ inv_ℚ g) ∷ []) (var 0 ⊗ int (pos 1)) (var 0) refl)
    (nonneg_mul h (square (inv_ℚ g)))

-- ---- a form that falls
module _ (d : Tableau) (l : List Constraint) (i : Sound d l) (q : ℕ) (h : q < d.count) where
  pub falls_by_constant : IsPositive (neg_ℚ (d.row q).constant) → Rises l (negated_form (d.form q))
  falls_by_constant p = (
    (basic d i.written).at,
    (subst IsPositive (ap neg_ℚ (sym (basic_is d i.written q h)) ∙ sym (value_at-negated_form (basic d i.written).at (d.form q))) p, basic_solves d l i),
  )

  -- along a column that no row limits
  pub open_falls : (c : ℕ) → IsUnlimited d c → IsPositive (neg_ℚ (factor_of c (d.row q).live)) → IsPositive (d.row q).constant → Rises l (negated_form (d.form q))
  open_falls c o p k =
      let b : ℚ = factor_of c (d.row q).live in
      let t : ℚ = ((d.row q).constant +ℚ 1ℚ) *ℚ inv_ℚ (neg_ℚ b) in
      let high : IsNotNegative t = pos_nonneg (pos_mul (pos_add k (pos_nonneg pos_one)) (inv_pos p)) in (
        (ray d i.written t c).at,
        (
          subst IsPositive
              (ring [] (int (pos 1)) (minus (minus (int (pos 1)))) refl
              ∙ ap neg_ℚ (sym (ring ((d.row q).constant ∷ b ∷ inv_ℚ (neg_ℚ b) ∷ []) (var 0 ⊕ (var 0 ⊕ int (pos 1)) ⊗ var 2 ⊗ var 1) (var 0 ⊕ minus ((var 0 ⊕ int (pos 1)) ⊗ (minus (var 1) ⊗ var 2))) refl
              ∙ ap (λ y. (d.row q).constant +ℚ neg_ℚ (((d.row q).constant +ℚ 1ℚ) *ℚ y)) (inv_mul p)
              ∙ ring ((d.row q).constant ∷ []) (var 0 ⊕ minus ((var 0 ⊕ int (pos 1)) ⊗ int (pos 1))) (minus (int (pos 1))) refl))
              ∙ ap neg_ℚ (sym (ray_is d i.written q h t c)) ∙ sym (value_at-negated_form (ray d i.written t c).at (d.form q)))
              pos_one,
          solves_weak d l i (ray d i.written t c).at (ray d i.written t c).dropped
              (λ z m r. subst IsNotNegative (sym (ray_is d i.written z m t c)) (nonneg_add (i.feasible.constants z m r) (nonneg_mul high (o.rows z m r)))),
        ),
      )

-- ---- an elimination of a row
module _ (old new : List Role) (r c : ℕ) (row : IsRow old r) (live : is_live old c ≡ true) (x : IsEliminated old r c new) where
  clash : {A : Type 0} (b : Bool) → b ≡ false → b ≡ true → A
  clash b n p = cc

  not_row : (z : ℕ) → is_live old z ≡ true → z ≡ r → ⊥
  not_row z l e = clash (is_live old r) (live_at old r (Basic row.0) row.1) (subst (λ y. is_live old y ≡ true) e l)

  live_not_dropped : (z : ℕ) → is_live old z ≡ true → is_dropped old z ≡ true → ⊥
  live_not_dropped z l d = clash (is_live old z) (live_at old z Dropped (role_dropped old z d)) l

  pub gone : is_dropped new r ≡ true
  gone = dropped_at new r Dropped x.leaves

  pub still_gone : (z : ℕ) → is_dropped old z ≡ true → is_dropped new z ≡ true
  still_gone z d = (x.others z (λ e. clash (is_dropped old r) (dropped_at old r (Basic row.0) row.1) (subst (λ y. is_dropped old y ≡ true) e d))
      (λ e. live_not_dropped c live (subst (λ y. is_dropped old y ≡ true) e d))).dropped ∙ d

  pub only_gone : (z : ℕ) → is_dropped new z ≡ true → (z ≡ r) ⊎ (is_dropped old z ≡ true)
  only_gone z d = elim (equal_or_not z r) [
    | inl e ↦ inl e
    | inr n ↦ inr (sym (x.others z n (λ e. clash (is_dropped new c) (dropped_at new c (Basic x.enters.0) x.enters.1) (subst (λ y. is_dropped new y ≡ true) e d))).dropped ∙ d)
  ]

  pub live_still : (z : ℕ) → is_live old z ≡ true → (z ≡ c → ⊥) → is_live new z ≡ true
  live_still z l n = (x.others z (not_row z l) n).live ∙ l

  pub eliminated : (flags : List Bool) (forms : List Linear) → Eliminated (tableau old flags forms) (tableau new flags forms) r c
  eliminated flags forms = record {
    changed = record {
      count = let e = x.size in omega arith;
      form = λ z h. refl;
      drops_made = λ z k. elim k [ inl e ↦ subst (λ y. y < length old) (sym e) (at_below old r (Basic row.0) row.1) | inr e ↦ absurd e ];
      drops_each = λ z k. elim k [ inl e ↦ subst (λ y. is_dropped new y ≡ true) (sym e) gone | inr e ↦ absurd e ];
      dropped_still = still_gone;
      dropped_only = λ z k. elim (only_gone z k) [ inl e ↦ inl (inl e) | inr d ↦ inr d ];
      restricts_made = λ z k. absurd k;
      restricts_each = λ z k. absurd k;
      restricted_still = λ z k. k;
      restricted_only = λ z k. inr k;
    };
    made = at_below old r (Basic row.0) row.1;
    others = live_still;
  }

-- the roles that are kept, with other rows
module _ (forms : List Linear) (l : List Constraint) (old : List Role) (flags : List Bool) (k : Keeps forms l old flags) (new : List Role) (size : length new ≡ length old)
    (same : SameMeaning old new) (table : AreOverColumns new) where
  pub now_written : IsWritten (tableau new flags forms)
  now_written = linked_written (tableau new flags forms) (linked new flags forms table (k.size ∙ sym size) (still_describes old new forms size same k.describes))

-- ---- an exchange after which the rows are feasible
module _ (old : List Role) (flags : List Bool) (r c : ℕ) (row : IsRow old r) (live : is_live old c ≡ true) (new : List Role) (x : IsExchanged old r c new)
    (same : SameMeaning old new) (table : AreOverColumns new) where
  pub exchange_changed : (forms : List Linear) → Changed (tableau old flags forms) (tableau new flags forms) [] []
  exchange_changed forms = record {
    count = let e = x.size in omega arith;
    form = λ z h. refl;
    drops_made = λ z k. absurd k;
    drops_each = λ z k. absurd k;
    dropped_still = λ z k. dropped_after old new r c row live x z ∙ k;
    dropped_only = λ z k. inr (sym (dropped_after old new r c row live x z) ∙ k);
    restricts_made = λ z k. absurd k;
    restricts_each = λ z k. absurd k;
    restricted_still = λ z k. k;
    restricted_only = λ z k. inr k;
  }

  pub exchange_keeps : (q : ℕ) → of_simplex.IsFeasible (is_restricted flags) (dictionary new q) → StillKeeps old new flags
  exchange_keeps q f forms l k =
      let d = tableau old flags forms in
      let e = tableau new flags forms in
      let size = k.size ∙ sym x.size in
      record {
        table = table;
        size = size;
        describes = still_describes old new forms x.size same k.describes;
        invariant = of_steps.exchanged d e l k.invariant (exchange_changed forms) (now_written forms l old flags k new x.size same table) (feasible new flags forms q size table f);
        dropped = still_dropped d e (written forms l old flags k) [] [] (exchange_changed forms) (λ z h. absurd h) l k.dropped;
      }

-- ---- a row of the roles
module _ (roles : List Role) (flags : List Bool) (q : ℕ) (row : IsRow roles q) (forms : List Linear) (l : List Constraint) (k : Keeps forms l roles flags) where
  made : q < length roles
  made = at_below roles q (Basic row.0) row.1

  constant_there : (row_of q (role_at roles q)).constant ≡ constant_at roles q
  constant_there = constant_row q (role_at roles q)

  factor_there : (c : ℕ) → factor_of c (row_of q (role_at roles q)).live ≡ factor_at roles q c
  factor_there c =
      ap (λ s. factor_of c (row_of q s).live) (role_is roles q (Basic row.0) row.1) ∙ factor_same c row.0.live ∙ sym (factor_is roles q row.0 row.1 c)

  pub rises_high : IsPositive (constant_at roles q) → Rises l (form_at forms q)
  rises_high p = rises_by_constant (tableau roles flags forms) l k.invariant.sound q made (subst IsPositive (sym constant_there) p)

  pub falls_low : IsPositive (neg_ℚ (constant_at roles q)) → Rises l (negated_form (form_at forms q))
  falls_low p = falls_by_constant (tableau roles flags forms) l k.invariant.sound q made (subst (λ b. IsPositive (neg_ℚ b)) (sym constant_there) p)

module _ (roles : List Role) (flags : List Bool) (q : ℕ) (row : IsRow roles q) where
  -- ---- an unrestricted column
  pub free_at : (c : ℕ) → of_rule.IsFree (is_restricted flags) (dictionary roles q) c → CrossesAt roles flags q c
  free_at c f = record {
    entry = has_entry roles q c (is_row_of roles q row) f.coefficient;
    rises = λ forms l k. (both forms l k).0;
    falls = λ forms l k. (both forms l k).1;
    feasible = λ forms l k new x same table.
        free_elimination (tableau roles flags forms) (tableau new flags forms) (written forms l roles flags k) (now_written forms l roles flags k new x.size same table) q c
        (eliminated roles new q c row f.column x flags forms) k.invariant.sound.feasible f.flag;
  }
    where
      both : (forms : List Linear) (l : List Constraint) → Keeps forms l roles flags → Rises l (form_at forms q) × Rises l (negated_form (form_at forms q))
      both forms l k =
          free_rises (tableau roles flags forms) l k.invariant.sound q (made roles flags q row forms l k) c f.column f.flag (λ z. f.coefficient (sym (factor_there roles flags q row forms l k c) ∙ z))

  -- ---- the row is off zero, and the column goes towards it
  module _ (up : Bool) (free : is_restricted flags q ≡ false) (off : IsOff up roles q) (c : ℕ) (toward : IsPositive (factor_at (towards up roles q) q c))
      (live : is_live roles c ≡ true) (none : HasNoFreeColumn roles flags q) where
    seen_product : (b : Bool) → constant_at (towards b roles q) q *ℚ factor_at (towards b roles q) q c ≡ constant_at roles q *ℚ factor_at roles q c
    seen_product true = refl
    seen_product false =
        ap₂ (λ x y. x *ℚ y) (own_constant roles q row.0 row.1) (own_factor roles q row.0 row.1 c)
        ∙ ring (constant_at roles q ∷ factor_at roles q c ∷ []) (minus (var 0) ⊗ minus (var 1)) (var 0 ⊗ var 1) refl

    seen_factor : (b : Bool) → IsPositive (factor_at (towards b roles q) q c) → factor_at roles q c ≡ 0ℚ → ⊥
    seen_factor true p z = not_pos_zero (subst IsPositive z p)
    seen_factor false p z =
        not_pos_zero (subst IsPositive (own_factor roles q row.0 row.1 c ∙ ap neg_ℚ z ∙ ring [] (minus (int (pos 0))) (int (pos 0)) refl) p)

    below : IsPositive (neg_ℚ (constant_at (towards up roles q) q))
    below = subst IsPositive (ring (constant_at (towards up roles q) q ∷ []) (int (pos 0) ⊕ minus (var 0)) (minus (var 0)) refl) off.gap

    not_zero : factor_at roles q c ≡ 0ℚ → ⊥
    not_zero = seen_factor up toward

    forward : IsNotNegative (neg_ℚ (constant_at roles q) *ℚ factor_at roles q c)
    forward =
        subst IsNotNegative
        (ring (constant_at (towards up roles q) q ∷ factor_at (towards up roles q) q c ∷ []) (minus (var 0) ⊗ var 1) (minus (var 0 ⊗ var 1)) refl
        ∙ ap neg_ℚ (seen_product up)
        ∙ ring (constant_at roles q ∷ factor_at roles q c ∷ []) (minus (var 0 ⊗ var 1)) (minus (var 0) ⊗ var 1) refl)
        (nonneg_mul (pos_nonneg below) (pos_nonneg toward))

    -- on which side it is
    side : (b : Bool) → IsPositive (neg_ℚ (constant_at (towards b roles q) q)) → (b ≡ true → IsPositive (neg_ℚ (constant_at roles q))) × (b ≡ false → IsPositive (constant_at roles q))
    side true p = ((λ e. p), (λ e. cc))
    side false p = (
      (λ e. cc),
      (λ e. subst IsPositive (ap neg_ℚ (own_constant roles q row.0 row.1) ∙ ring (constant_at roles q ∷ []) (minus (minus (var 0))) (var 0) refl) p),
    )

    module _ (forms : List Linear) (l : List Constraint) (k : Keeps forms l roles flags) where
      far_not_negative : IsNotNegative (far (tableau roles flags forms) q c)
      far_not_negative =
          same_sign (neg_ℚ (row_of q (role_at roles q)).constant) (factor_of c (row_of q (role_at roles q)).live) (λ z. not_zero (sym (factor_there roles flags q row forms l k c) ∙ z))
          (subst IsNotNegative (ap₂ (λ x y. neg_ℚ x *ℚ y) (sym (constant_there roles flags q row forms l k)) (sym (factor_there roles flags q row forms l k c))) forward)

      restricted_there : AllIn (is_restricted flags) (row_of q (role_at roles q)).live
      restricted_there = over_restricted forms l roles flags k q row none

      -- where no restricted quantity is below zero so far along the column
      eliminates : ((z : ℕ) → is_restricted flags z ≡ true
          → IsNotNegative ((row_of z (role_at roles z)).constant +ℚ far (tableau roles flags forms) q c *ℚ factor_of c (row_of z (role_at roles z)).live))
          → (new : List Role) → IsEliminated roles q c new → SameMeaning roles new → AreOverColumns new → HasFeasibleNumbers (tableau new flags forms)
      eliminates high new x same table =
          crossing_feasible (tableau roles flags forms) (tableau new flags forms) (written forms l roles flags k) (now_written forms l roles flags k new x.size same table) q c
          (eliminated roles new q c row live x flags forms) k.invariant.sound.feasible restricted_there (λ z. not_zero (sym (factor_there roles flags q row forms l k c) ∙ z)) high

    -- ---- no row limits the column
    module _ (limitless : (z : ℕ) → of_rule.Limits (is_restricted flags) (dictionary roles q) c z → ⊥) where
      unit_high : (b : Bool) → IsNotNegative (when b 1ℚ +ℚ 0ℚ)
      unit_high true = subst IsNotNegative (ring [] (int (pos 1)) (int (pos 1) ⊕ int (pos 0)) refl) (pos_nonneg pos_one)
      unit_high false = subst IsNotNegative (ring [] (int (pos 0)) (int (pos 0) ⊕ int (pos 0)) refl) nonneg_zero

      not_falling : (z : ℕ) (s : Role) → IsAt roles z s → is_restricted flags z ≡ true → IsNotNegative (factor_of c (row_of z s).live)
      not_falling z Live a t = unit_high (nat_eq c z)
      not_falling z Dropped a t = nonneg_zero
      not_falling z (Basic o) a t = subst IsNotNegative (sym (factor_same c o.live)) (go (sign (rows.sum_at (rows.unit c) o.live)))
        where
          go : Sign (rows.sum_at (rows.unit c) o.live) → IsNotNegative (rows.sum_at (rows.unit c) o.live)
          go (is_pos p) = pos_nonneg p
          go (sign_of.is_zero e) = subst IsNotNegative (sym e) nonneg_zero
          go (is_neg p) = absurd (limitless z (record { row = row_is roles z o a; flag = t; falls = subst (λ b. IsPositive (neg_ℚ b)) (sym (factor_is roles z o a c)) p }))

      unlimited : (forms : List Linear) → IsUnlimited (tableau roles flags forms) c
      unlimited forms = record {
        is_live = live;
        rows = λ z h t. let a = at_exists roles z h in
            subst (λ s. IsNotNegative (factor_of c (row_of z s).live)) (sym (role_is roles z a.0 a.1)) (not_falling z a.0 a.1 t);
      }

      both_sides : (b : Bool) → b ≡ up → (forms : List Linear) (l : List Constraint) → Keeps forms l roles flags
          → Rises l (form_at forms q) × Rises l (negated_form (form_at forms q))
      both_sides true e forms l k = (
        open_rises (tableau roles flags forms) l k.invariant.sound q (made roles flags q row forms l k) c (unlimited forms)
            (subst IsPositive (sym (factor_there roles flags q row forms l k c)) (subst (λ b. IsPositive (factor_at (towards b roles q) q c)) (sym e) toward)),
        falls_low roles flags q row forms l k ((side true (subst (λ b. IsPositive (neg_ℚ (constant_at (towards b roles q) q))) (sym e) below)).0 refl),
      )
      both_sides false e forms l k =
          let high = (side false (subst (λ b. IsPositive (neg_ℚ (constant_at (towards b roles q) q))) (sym e) below)).1 refl in (
            rises_high roles flags q row forms l k high,
            open_falls (tableau roles flags forms) l k.invariant.sound q (made roles flags q row forms l k) c (unlimited forms)
                (subst IsPositive (own_factor roles q row.0 row.1 c ∙ ap neg_ℚ (sym (factor_there roles flags q row forms l k c))) (subst (λ b. IsPositive (factor_at (towards b roles q) q c)) (sym e) toward))
                (subst IsPositive (sym (constant_there roles flags q row forms l k)) high),
          )

      pub unlimited_at : CrossesAt roles flags q c
      unlimited_at = record {
        entry = has_entry roles q c (is_row_of roles q row) not_zero;
        rises = λ forms l k. (both_sides up refl forms l k).0;
        falls = λ forms l k. (both_sides up refl forms l k).1;
        feasible = λ forms l k.
            eliminates forms l k (unlimited_high (tableau roles flags forms) (written forms l roles flags k) k.invariant.sound.feasible q c (unlimited forms) (far_not_negative forms l k));
      }

    -- ---- an exchange of the column and a row, by which q passes zero
    module _ (r : ℕ) (leaving : IsRow roles r) (new : List Role) (x : IsExchanged roles r c new) (same : SameMeaning roles new) (table : AreOverColumns new) (new_row : IsRow new q)
        (f : of_simplex.IsFeasible (is_restricted flags) (dictionary new q)) (passed : IsPositive (constant_at (towards up new q) q)) where
      keeps_new : StillKeeps roles new flags
      keeps_new = exchange_keeps roles flags r c leaving live new x same table q f

      new_side : (b : Bool) → IsPositive (constant_at (towards b new q) q) → (b ≡ true → IsPositive (constant_at new q)) × (b ≡ false → IsPositive (neg_ℚ (constant_at new q)))
      new_side true p = ((λ e. p), (λ e. cc))
      new_side false p = ((λ e. cc), (λ e. subst IsPositive (own_constant new q new_row.0 new_row.1) p))

      passed_product : (b : Bool) → IsPositive (factor_at (towards b roles q) q c) → IsPositive (constant_at (towards b new q) q) → IsNotNegative (constant_at new q *ℚ factor_at roles q c)
      passed_product true p s = nonneg_mul (pos_nonneg s) (pos_nonneg p)
      passed_product false p s =
          subst IsNotNegative
          (ap₂ (λ y z. y *ℚ z) (own_constant new q new_row.0 new_row.1) (own_factor roles q row.0 row.1 c)
          ∙ ring (constant_at new q ∷ factor_at roles q c ∷ []) (minus (var 0) ⊗ minus (var 1)) (var 0 ⊗ var 1) refl)
          (nonneg_mul (pos_nonneg s) (pos_nonneg p))

      not_leaving : (z : ℕ) → is_live roles z ≡ true → z ≡ r → ⊥
      not_leaving z m e = let n = live_at roles r (Basic leaving.0) leaving.1 in let y = subst (λ i. is_live roles i ≡ true) e m in cc

      both_passed : (b : Bool) → b ≡ up → (forms : List Linear) (l : List Constraint) → Keeps forms l roles flags
          → Rises l (form_at forms q) × Rises l (negated_form (form_at forms q))
      both_passed true e forms l k = (
        rises_high new flags q new_row forms l (keeps_new forms l k) ((new_side true (subst (λ b. IsPositive (constant_at (towards b new q) q)) (sym e) passed)).0 refl),
        falls_low roles flags q row forms l k ((side true (subst (λ b. IsPositive (neg_ℚ (constant_at (towards b roles q) q))) (sym e) below)).0 refl),
      )
      both_passed false e forms l k = (
        rises_high roles flags q row forms l k ((side false (subst (λ b. IsPositive (neg_ℚ (constant_at (towards b roles q) q))) (sym e) below)).1 refl),
        falls_low new flags q new_row forms l (keeps_new forms l k) ((new_side false (subst (λ b. IsPositive (constant_at (towards b new q) q)) (sym e) passed)).1 refl),
      )

      pub passed_at : CrossesAt roles flags q c
      passed_at = record {
        entry = has_entry roles q c (is_row_of roles q row) not_zero;
        rises = λ forms l k. (both_passed up refl forms l k).0;
        falls = λ forms l k. (both_passed up refl forms l k).1;
        feasible = λ forms l k.
            let p = keeps_new forms l k in
            let n : factor_of c (row_of q (role_at roles q)).live ≡ 0ℚ → ⊥ = λ z. not_zero (sym (factor_there roles flags q row forms l k c) ∙ z) in
            eliminates forms l k
            (passed_high (tableau roles flags forms) (tableau new flags forms) (written forms l roles flags k) (written forms l new flags p) k.invariant.sound.feasible p.invariant.sound.feasible
            (exchange_changed roles flags r c leaving live new x same table forms) q c (made roles flags q row forms l k) (λ z m y. (x.others z (not_leaving z m) y).live ∙ m) (restricted_there forms l k) n
            (far_not_negative forms l k)
            (same_sign (row_of q (role_at new q)).constant (factor_of c (row_of q (role_at roles q)).live) n
            (subst IsNotNegative (ap₂ (λ y z. y *ℚ z) (sym (constant_row q (role_at new q))) (sym (factor_there roles flags q row forms l k c))) (passed_product up toward passed))));
      }
