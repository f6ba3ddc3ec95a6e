-- The steps of a row towards zero.
use Rattle.std.proofs.Common.{◌≡◌, ℕ, zero, suc, ◌+◌, ◌<◌, ◌≤◌, List, [], ◌∷◌, length, get_or, take, Bool, true, false, inl, inr, Option, None, Some, is_some, Result, Err, pos, arith, refl, ap, sym, subst, ◌∙◌}
use Rattle.std.specs.Prelude.{◌↔◌}
use Rattle.spec_numbers.specs.Rational.{ℚ, 0ℚ, neg_ℚ, IsPositive, IsNotNegative, ◌<ℚ◌, ◌≤ℚ◌}
use Rattle.spec_numbers.proofs.Ring.{var, int, ◌⊕◌, minus}
use Rattle.spec_numbers.proofs.RationalLemmas.{ring}
use Rattle.spec_numbers.proofs.Order.{lt_or_le, lt_to_pos, lt_to_le, le_antisym, pos_to_lt, lt_le_false}
use Rattle.spec_numbers.proofs.Sign.{not_pos_zero, not_both}
use Rattle.spec_simplex.specs.Dictionary.{IsFeasible}
use Rattle.spec_simplex.specs.Rule.{Raises, Limits, Leaves, Enters, IsDue}
use Rattle.cq_frac.specs.declared.Pair.{Pair}
use Rattle.cq_frac.specs.declared.Refusal.{Refusal}
use Rattle.cq_frac.specs.declared.Refusal.TheVariants as of_refusal
use Rattle.cq_frac.specs.declared.row.Entry.{Entry}
use Rattle.cq_frac.specs.Row.{Row}
use Rattle.cq_frac.specs.Rows as rows
use Rattle.cq_dict.specs.declared.table.Role.{Role}
use Rattle.cq_dict.specs.declared.table.Role.TheVariants.{Basic}
use Rattle.cq_dict.specs.DictValue.{DictValue}
use Rattle.cq_dict.specs.Roles.{IsAt, IsRow, AreOverColumns, HasEntry, IsExchanged, is_live, is_restricted, is_row, constant_at, factor_at}
use Rattle.cq_dict.specs.Dict.{SameMeaning}
use Rattle.cq_dict.proofs.Roles.{found, row_on, is_row_of, live_is_no_row, constant_is}
use Rattle.cq_simplex.specs.declared.SimplexFault.{SimplexFault}
use Rattle.cq_simplex.specs.declared.SimplexFault.TheVariants.{Overflow}
use Rattle.cq_simplex.specs.Answers.{IsFaultOf}
use Rattle.cq_simplex.specs.Dictionary.{dictionary, IsReached}
use Rattle.cq_simplex.specs.Turns.{IsFreeColumn}
use Rattle.cq_simplex.proofs.Entries.{factor_of, has_entry, raises_is, first_enters, none_raises}
use Rattle.cq_simplex.proofs.Steps.{begins, step}
use Rattle.cq_simplex.proofs.Roles.{dropped_after}
use Rattle.cq_simplex.specs.Climbs.{IsCarried}
use Rattle.cq_simplex.proofs.Climbing.{stays_carried, carried_on, carried_further}
use Rattle.cq_tableau.specs.Raised.{HasNoFreeColumn}
use Rattle.cq_tableau.proofs.Tied.{entry_live, carried_invariant}
use Rattle.cq_tableau.proofs.Looks.{carried_speaks}
use Rattle.cq_tableau.specs.Turned.{opposite_row, turned, towards, slope_of}
use Rattle.cq_tableau.specs.Levelled.{IsOff, IsPassed, IsNext, IsNearing, CrossesBy, CrossesAt, StaysRow, StaysOff, GoesOn, IsGone, IsClimbed, NoneNearer, IsShort, IsLevelled, RefusesLevel, SpendsLevel}
use Rattle.cq_tableau.specs.declared.level.levelling.Levelled.{Levelled}
use Rattle.cq_tableau.specs.declared.level.levelling.Step.TheVariants.{Ends, Exchange}
use Rattle.cq_tableau.specs.declared.level.levelling.Levelled.TheVariants.{Level, Crossing, Short}
use Rattle.cq_tableau.proofs.Turned.{turned_at, turned_table, turned_same, turned_exchanged, turned_live, turned_row, turned_is_row, feasible_turned, feasible_back, own_constant, own_factor, leaves_turned, none_limits_turned, limits_there, limits_back}
use Rattle.cq_tableau.proofs.Passing.{free_at, unlimited_at, passed_at}

-- ---- the roles in which the row is to rise
module _ (roles : List Role) (q : ℕ) where
  pub seen_live : (b : Bool) (z : ℕ) → is_live (towards b roles q) z ≡ is_live roles z
  seen_live true z = refl
  seen_live false z = turned_live roles q z

  pub seen_is_row : (b : Bool) (z : ℕ) → is_row (towards b roles q) z ≡ is_row roles z
  seen_is_row true z = refl
  seen_is_row false z = turned_row roles q z

  pub seen_row : (b : Bool) → IsRow roles q → IsRow (towards b roles q) q
  seen_row true r = r
  seen_row false r = turned_is_row roles q q r

  pub seen_table : (b : Bool) → IsRow roles q → AreOverColumns roles → AreOverColumns (towards b roles q)
  seen_table true r t = t
  seen_table false r t = turned_table roles q r.0 r.1 t

  module _ (flags : List Bool) (free : is_restricted flags q ≡ false) where
    pub seen_feasible : (b : Bool) → IsFeasible (is_restricted flags) (dictionary roles q) → IsFeasible (is_restricted flags) (dictionary (towards b roles q) q)
    seen_feasible true f = f
    seen_feasible false f = feasible_turned roles flags q free f

    pub own_feasible : (b : Bool) → IsFeasible (is_restricted flags) (dictionary (towards b roles q) q) → IsFeasible (is_restricted flags) (dictionary roles q)
    own_feasible true f = f
    own_feasible false f = feasible_back roles flags q free f

    pub seen_leaves : (b : Bool) (c r : ℕ) → Leaves (is_restricted flags) (dictionary roles q) c r → Leaves (is_restricted flags) (dictionary (towards b roles q) q) c r
    seen_leaves true c r l = l
    seen_leaves false c r l = leaves_turned roles flags q free c r l

    pub none_limits : (b : Bool) (c : ℕ) → ((z : ℕ) → Limits (is_restricted flags) (dictionary roles q) c z → ⊥) → (z : ℕ)
        → Limits (is_restricted flags) (dictionary (towards b roles q) q) c z → ⊥
    none_limits true c n = n
    none_limits false c n = none_limits_turned roles flags q free c n

    pub limits_own : (b : Bool) (c z : ℕ) → Limits (is_restricted flags) (dictionary (towards b roles q) q) c z → Limits (is_restricted flags) (dictionary roles q) c z
    limits_own true c z l = l
    limits_own false c z l = limits_back roles flags q free c z l

    pub none_limits_own : (b : Bool) (c : ℕ) → ((z : ℕ) → Limits (is_restricted flags) (dictionary (towards b roles q) q) c z → ⊥) → (z : ℕ)
        → Limits (is_restricted flags) (dictionary roles q) c z → ⊥
    none_limits_own true c n = n
    none_limits_own false c n = λ z l. n z (limits_there roles flags q free c z l)

-- ---- a column by which the row crosses
pub crosses_by : (roles : List Role) (flags : List Bool) (q : ℕ) (row : IsRow roles q) (up : Bool) → is_restricted flags q ≡ false → IsOff up roles q → (c : ℕ)
    → CrossesBy roles flags q up c → CrossesAt roles flags q c
crosses_by roles flags q row up free off c (inl f) = free_at roles flags q row c f
crosses_by roles flags q row up free off c (inr u) =
    unlimited_at roles flags q row up free off c u.1.raises.coefficient (sym (seen_live roles q up c) ∙ u.1.raises.column) u.0
    (none_limits_own roles q flags free up c u.1.no_limit)

-- ---- no column brings it nearer
module _ (roles : List Role) (flags : List Bool) (q : ℕ) (row : IsRow roles q) (table : AreOverColumns roles) where
  entry_column : (own : Row) → IsAt roles q (Basic own) → (m : Entry) → rows.Has m own.live → (is_live roles m.quantity ≡ true) × (factor_at roles q m.quantity ≡ m.factor)
  entry_column own at m h = (entry_live (is_live roles) 0 own.live (table.rows q own at).live_row m h, factor_of roles flags table q own at m h)

  entry_flag : HasNoFreeColumn roles flags q → (own : Row) → IsAt roles q (Basic own) → (m : Entry) → rows.Has m own.live → (m.factor ≡ 0ℚ → ⊥) → is_restricted flags m.quantity ≡ true
  entry_flag none own at m h n = go (is_restricted flags m.quantity) refl
    where
      go : (b : Bool) → is_restricted flags m.quantity ≡ b → is_restricted flags m.quantity ≡ true
      go true e = e
      go false e = let k = entry_column own at m h in absurd (n (sym k.1 ∙ none m.quantity k.0 e))

  factor_there : (own : Row) → IsAt roles q (Basic own) → (m : Entry) → rows.Has m own.live → m.factor ≡ 0ℚ → ⊥
  factor_there own at m h = not_zero_entry (is_live roles) 0 own.live (table.rows q own at).live_row m h
    where
      not_zero_entry : (p : ℕ → Bool) (lo : ℕ) (s : List Entry) → rows.IsRowFrom p lo s → (m : Entry) → rows.Has m s → m.factor ≡ 0ℚ → ⊥
      not_zero_entry p lo [] r m h = absurd h
      not_zero_entry p lo (n ∷ s) r m (inl e) = λ z. r.2 (sym (ap (λ (k : Entry). k.factor) e) ∙ z)
      not_zero_entry p lo (n ∷ s) r m (inr h) = not_zero_entry p (n.quantity + 1) s r.3 m h

  -- an entry that is not zero has a sign
  signed : (f : ℚ) → (f ≡ 0ℚ → ⊥) → (IsPositive f → ⊥) → IsPositive (neg_ℚ f)
  signed f n p = elim (lt_or_le 0ℚ f) [
    | inl g ↦ absurd (p (lt_to_pos g))
    | inr g ↦ elim (lt_or_le f 0ℚ) [ inl k ↦ subst IsPositive (ring (f ∷ []) (int (pos 0) ⊕ minus (var 0)) (minus (var 0)) refl) k.gap | inr k ↦ absurd (n (le_antisym g k)) ]
  ]

  pub short_at : (b : Bool) → IsOff b roles q → NoneNearer roles flags q b → IsShort roles flags q
  short_at true off n own at = inl (
    subst (λ k. k <ℚ 0ℚ) (constant_is roles q own at) off,
    λ m h.
        let z = factor_there own at m h in
        let f = entry_flag n.0 own at m h z in
        let k = entry_column own at m h in
        (signed m.factor z (λ p. n.1 m.quantity (record { column = k.0; flag = f; coefficient = subst IsPositive (sym k.1) p })), f),
  )
  short_at false off n own at = inr (
    subst IsPositive
        (ap neg_ℚ (own_constant roles q own at ∙ ap neg_ℚ (constant_is roles q own at)) ∙ ring (own.constant ∷ []) (minus (minus (var 0))) (var 0) refl)
        (subst IsPositive (ring (constant_at (turned roles q) q ∷ []) (int (pos 0) ⊕ minus (var 0)) (minus (var 0)) refl) off.gap),
    λ m h.
        let z = factor_there own at m h in
        let f = entry_flag n.0 own at m h z in
        let k = entry_column own at m h in (
          raised m.factor z (λ p. n.1 m.quantity (record {
            column = turned_live roles q m.quantity ∙ k.0;
            flag = f;
            coefficient = subst IsPositive (sym (own_factor roles q own at m.quantity ∙ ap neg_ℚ k.1)) p;
          })),
          f,
        ),
  )
    where
      raised : (f : ℚ) → (f ≡ 0ℚ → ⊥) → (IsPositive (neg_ℚ f) → ⊥) → IsPositive f
      raised f n p = elim (lt_or_le 0ℚ f) [ inl g ↦ lt_to_pos g | inr g ↦ absurd (p (signed f n (λ k. not_above g k))) ]
        where
          not_above : f ≤ℚ 0ℚ → IsPositive f → ⊥
          not_above g k = lt_le_false (pos_to_lt k) g

-- ---- nothing is done
pub stays_here : (q : ℕ) (roles : List Role) (flags : List Bool) → IsRow roles q → StaysRow q roles flags roles
stays_here q roles flags row = record { keeps = λ forms l k. k; dropped = λ c. refl; row = row }

pub stays_further : (q : ℕ) (a b c : List Role) (flags : List Bool) → StaysRow q a flags b → StaysRow q b flags c → StaysRow q a flags c
stays_further q a b c flags x y = record { keeps = λ forms l k. y.keeps forms l (x.keeps forms l k); dropped = λ z. y.dropped z ∙ x.dropped z; row = y.row }

-- a dictionary of the same solutions keeps what was kept
pub carried_stays : (q : ℕ) (old : List Role) (flags : List Bool) (new : List Role) → IsCarried old flags q new → StaysRow q old flags new
carried_stays q old flags new r = record {
  keeps = λ forms l k.
      let s = carried_speaks old new flags q r forms l
      (record { table = k.table; size = k.size; describes = k.describes; sound = k.invariant.sound; dropped = k.dropped }) in
      record {
        table = s.table;
        size = s.size;
        describes = s.describes;
        invariant = carried_invariant old new flags forms l q k.size k.describes k.invariant r;
        dropped = s.dropped;
      };
  dropped = r.dropped;
  row = r.asked_row;
}

-- the row and the column of an exchange
pub nearing_there : (q : ℕ) (up : Bool) (old : List Role) (flags : List Bool) → is_restricted flags q ≡ false → (r c : ℕ) → IsNearing old flags q up r c → HasEntry old r c
nearing_there q up old flags free r c n =
    let l = limits_own old q flags free up c r n.leaves.limits in
    has_entry old r c l.row (λ e. not_pos_zero (subst IsPositive (ap neg_ℚ e ∙ ring [] (minus (int (pos 0))) (int (pos 0)) refl) l.falls))

-- by what is due next the row comes nearer
pub due_nears : (q : ℕ) (up : Bool) (old : List Role) (flags : List Bool) (r c : ℕ) → IsNext old flags q up (Exchange r c) → IsNearing old flags q up r c
due_nears q up old flags r c n = record { none = n.0; raises = n.1.enters.raises; leaves = n.1.leaves }

-- ---- an exchange by which the row comes nearer
module _ (q : ℕ) (up : Bool) (old : List Role) (flags : List Bool) (row : IsRow old q) (free : is_restricted flags q ≡ false) (off : IsOff up old q)
    (feasible : IsFeasible (is_restricted flags) (dictionary (towards up old q) q)) (table : AreOverColumns old) (r c : ℕ)
    (n : IsNearing old flags q up r c) (new : List Role) (x : IsExchanged old r c new) (same : SameMeaning old new)
    (new_table : AreOverColumns new) where
  column_live : is_live old c ≡ true
  column_live = sym (seen_live old q up c) ∙ n.raises.column

  leaving_row : IsRow old r
  leaving_row = let f = found old r (sym (seen_is_row old q up r) ∙ n.leaves.limits.row) in (f.row, f.at)

  not_leaving : q ≡ r → ⊥
  not_leaving e = let k = subst (λ y. is_restricted flags y ≡ false) e free in let f = n.leaves.limits.flag in cc

  not_entering : q ≡ c → ⊥
  not_entering e = let k = subst (λ y. is_row old y ≡ true) e (is_row_of old q row) in let m = live_is_no_row old c column_live in cc

  pub new_row : IsRow new q
  new_row = row_on old new q (x.others q not_leaving not_entering) row

  seen_same : (b : Bool) → SameMeaning (towards b old q) (towards b new q)
  seen_same true = same
  seen_same false = turned_same old new q row new_row table new_table same

  seen_exchanged : (b : Bool) → IsExchanged (towards b old q) r c (towards b new q)
  seen_exchanged true = x
  seen_exchanged false = turned_exchanged old new q r c x

  seen_carried : IsCarried (towards up old q) flags q (towards up new q)
  seen_carried =
      carried_on flags q (towards up old q) c r n.raises n.leaves (towards up old q) (towards up new q)
      (stays_carried flags q (towards up old q) (seen_table old q up row table) (seen_row old q up row) feasible)
      (seen_same up) (seen_exchanged up) (seen_table new q up new_row new_table)

  new_feasible : IsFeasible (is_restricted flags) (dictionary new q)
  new_feasible = own_feasible new q flags free up seen_carried.feasible

  carried : IsCarried old flags q new
  carried = record {
    table = new_table;
    size = x.size;
    same = same;
    dropped = λ z. dropped_after old new r c leaving_row column_live x z;
    asked_row = new_row;
    feasible = new_feasible;
  }

  pub stays_after : StaysRow q old flags new
  stays_after = carried_stays q old flags new carried

  pub goes_on : IsOff up new q → GoesOn q up old flags r c new
  goes_on o = record {
    same = seen_same up;
    exchanged = seen_exchanged up;
    table = seen_table new q up new_row new_table;
    carried = carried;
    off = o;
  }

  -- the row has passed zero
  pub crosses_instead : IsPositive (constant_at (towards up new q) q) → CrossesAt old flags q c
  crosses_instead p =
      passed_at old flags q row up free off c n.raises.coefficient column_live n.none r leaving_row new x same new_table new_row new_feasible p

-- ---- on which side of zero a number is
below_zero : {a : ℚ} → IsPositive (neg_ℚ a) → a <ℚ 0ℚ
below_zero {a} p = record { gap = subst IsPositive (ring (a ∷ []) (minus (var 0)) (int (pos 0) ⊕ minus (var 0)) refl) p }

pub not_falling : {a : ℚ} → IsPositive (neg_ℚ a) → IsNotNegative a → ⊥
not_falling {a} p h = not_both p (subst IsNotNegative (ring (a ∷ []) (var 0) (minus (minus (var 0))) refl) h)

pub opposite_positive : {a : ℚ} → a <ℚ 0ℚ → IsPositive (neg_ℚ a)
opposite_positive {a} l = subst IsPositive (ring (a ∷ []) (int (pos 0) ⊕ minus (var 0)) (minus (var 0)) refl) l.gap

opposite_below : {a : ℚ} → IsPositive a → neg_ℚ a <ℚ 0ℚ
opposite_below {a} p = below_zero (subst IsPositive (ring (a ∷ []) (var 0) (minus (minus (var 0))) refl) p)

left_below : {a : ℚ} → (a ≡ 0ℚ → ⊥) → (IsPositive a → ⊥) → a <ℚ 0ℚ
left_below {a} n p = elim (lt_or_le 0ℚ a) [
  | inl g ↦ absurd (p (lt_to_pos g))
  | inr g ↦ elim (lt_or_le a 0ℚ) [ inl k ↦ k | inr k ↦ absurd (n (le_antisym g k)) ]
]

left_above : {a : ℚ} → (a ≡ 0ℚ → ⊥) → (a <ℚ 0ℚ → ⊥) → IsPositive a
left_above {a} n p = elim (lt_or_le 0ℚ a) [
  | inl g ↦ lt_to_pos g
  | inr g ↦ elim (lt_or_le a 0ℚ) [ inl k ↦ absurd (p k) | inr k ↦ absurd (n (le_antisym g k)) ]
]

module _ (roles : List Role) (q : ℕ) (row : IsRow roles q) (number : ℚ) (is : (own : Row) → IsAt roles q (Basic own) → number ≡ own.constant) where
  number_is : number ≡ constant_at roles q
  number_is = is row.0 row.1 ∙ sym (constant_is roles q row.0 row.1)

  turned_is : neg_ℚ number ≡ constant_at (turned roles q) q
  turned_is = ap neg_ℚ number_is ∙ sym (own_constant roles q row.0 row.1)

  pub zero_is : number ≡ 0ℚ → constant_at roles q ≡ 0ℚ
  zero_is e = sym number_is ∙ e

  pub has_passed : (up b : Bool) → IsPassed up number b → b ≡ true → IsPositive (constant_at (towards up roles q) q)
  has_passed true b h e = subst IsPositive number_is (h.0 e)
  has_passed false b h e = subst IsPositive turned_is (opposite_positive (h.0 e))

  pub not_passed : (up b : Bool) → IsPassed up number b → b ≡ false → (number ≡ 0ℚ → ⊥) → IsOff up roles q
  not_passed true b h e n = subst (λ a. a <ℚ 0ℚ) number_is (left_below n (h.1 e))
  not_passed false b h e n = subst (λ a. a <ℚ 0ℚ) turned_is (opposite_below (left_above n (h.1 e)))

  -- it is to rise where it is below zero
  pub is_off : (up : Bool) → (up ≡ true ↔ (number <ℚ 0ℚ)) → (number ≡ 0ℚ → ⊥) → IsOff up roles q
  is_off true f n = subst (λ a. a <ℚ 0ℚ) number_is (f.0 refl)
  is_off false f n = subst (λ a. a <ℚ 0ℚ) turned_is (opposite_below (left_above n (λ g. let k = f.1 g in cc)))

-- ---- along the exchanges
pub stays_on : (q : ℕ) (old mid : List Role) (flags : List Bool) → StaysRow q old flags mid → (new : List Role) (l : Levelled) → IsLevelled q mid flags new l → IsLevelled q old flags new l
stays_on q old mid flags s new Level h = (stays_further q old mid new flags s h.0, h.1)
stays_on q old mid flags s new (Crossing c) h = (stays_further q old mid new flags s h.0, h.1)
stays_on q old mid flags s new Short h = (stays_further q old mid new flags s h.0, h.1)

pub ended : (q : ℕ) (up : Bool) (old : List Role) (flags : List Bool) → IsRow old q → AreOverColumns old → is_restricted flags q ≡ false → IsOff up old q → (l : Levelled)
    → IsNext old flags q up (Ends l) → IsLevelled q old flags old l
ended q up old flags row table free off Level h = absurd h
ended q up old flags row table free off (Crossing c) h = (stays_here q old flags row, crosses_by old flags q row up free off c h)
ended q up old flags row table free off Short h = (stays_here q old flags row, short_at old flags q row table up off h)

pub gone_so_far : (q : ℕ) (up : Bool) (old : List Role) (flags : List Bool) (r c : ℕ) (new : List Role) (l : Levelled) → IsGone q up old flags r c new (Some l) → IsLevelled q old flags new l
gone_so_far q up old flags r c new Level h = h
gone_so_far q up old flags r c new (Crossing d) h = h
gone_so_far q up old flags r c new Short h = absurd h

-- one exchange more
pub one_further : (q : ℕ) (up : Bool) (flags : List Bool) (old : List Role) (n : ℕ) (mid new : List Role) (r c : ℕ) → IsReached flags q (towards up old q) n (towards up mid q)
    → IsDue (is_restricted flags) (dictionary (towards up mid q) q) c r → GoesOn q up mid flags r c new → IsReached flags q (towards up old q) (n + 1) (towards up new q)
one_further q up flags old n mid new r c reached due g =
    step flags q (towards up old q) n (towards up mid q) (towards up new q) reached c r due g.same g.exchanged g.table

-- the budget is spent
pub spent_level : (q : ℕ) (up : Bool) (flags : List Bool) (old : List Role) → IsCarried old flags q old → (n : ℕ) (mid : List Role) → IsReached flags q (towards up old q) n (towards up mid q)
    → IsOff up mid q → (r c : ℕ) → IsDue (is_restricted flags) (dictionary (towards up mid q) q) c r → SpendsLevel q old flags n
spent_level q up flags old carried n mid reached off r c due = record {
  from = old;
  carried = carried;
  up = up;
  last = towards up mid q;
  spent = record { reached = reached; column = c; row = r; due = due; short = λ e. lt_to_le off };
}

-- ---- a climb, and the search from where it ends
pub climbed_on : (q : ℕ) (up : Bool) (old mid : List Role) (flags : List Bool) → StaysOff q up old flags mid → (r c : ℕ) (new : List Role) → GoesOn q up mid flags r c new
    → StaysOff q up old flags new
climbed_on q up old mid flags s r c new g = record {
  carried = carried_further old flags q mid s.carried new g.carried;
  off = g.off;
}

pub climbed_there : (q : ℕ) (up : Bool) (old mid : List Role) (flags : List Bool) → StaysOff q up old flags mid → (new : List Role) (l : Levelled) → IsLevelled q mid flags new l
    → IsClimbed q up old flags new (Some l)
climbed_there q up old mid flags s new l h = stays_on q old mid flags (carried_stays q old flags mid s.carried) new l h

pub refused_further : (q : ℕ) (old mid : List Role) (flags : List Bool) → StaysRow q old flags mid → (pair : Pair) → RefusesLevel q mid flags pair → RefusesLevel q old flags pair
refused_further q old mid flags s pair r = record { roles = r.roles; stays = stays_further q old mid r.roles flags s r.stays; refuses = r.refuses }

pub spent_further : (q : ℕ) (old mid : List Role) (flags : List Bool) → IsCarried old flags q mid → (n : ℕ) → SpendsLevel q mid flags n → SpendsLevel q old flags n
spent_further q old mid flags r n p = record { from = p.from; carried = carried_further old flags q mid r p.from p.carried; up = p.up; last = p.last; spent = p.spent }

-- ---- a column by which the row comes nearer
pub none_is_free : (roles : List Role) (flags : List Bool) (q : ℕ) (found : Option ℕ) → IsFreeColumn roles flags q found → is_some found ≡ false → HasNoFreeColumn roles flags q
none_is_free roles flags q None h e = h
none_is_free roles flags q (Some c) h e = (let k : ⊥ = cc in absurd k)

module _ (roles : List Role) (flags : List Bool) (q : ℕ) (row : IsRow roles q) (table : AreOverColumns roles) (up : Bool) where
  pub slope_raises : (m : Entry) → rows.Has m row.0.live → IsPositive (slope_of up m.factor) → is_restricted flags m.quantity ≡ true
      → Raises (is_restricted flags) (dictionary (towards up roles q) q) m.quantity
  slope_raises m h p f = go up p
    where
      go : (b : Bool) → IsPositive (slope_of b m.factor) → Raises (is_restricted flags) (dictionary (towards b roles q) q) m.quantity
      go true p = raises_is roles flags table q row.0 row.1 m h (p, f)
      go false p = record {
        column = seen_live roles q false m.quantity ∙ entry_live (is_live roles) 0 row.0.live (table.rows q row.0 row.1).live_row m h;
        flag = f;
        coefficient = subst IsPositive (ap neg_ℚ (sym (factor_of roles flags table q row.0 row.1 m h)) ∙ sym (own_factor roles q row.0 row.1 m.quantity)) p;
      }

-- ---- what is to be done next
module _ (roles : List Role) (flags : List Bool) (q : ℕ) (up : Bool) (free : is_restricted flags q ≡ false) (none : HasNoFreeColumn roles flags q) (c : ℕ)
    (enters : Enters (is_restricted flags) (dictionary (towards up roles q) q) c) where
  pub entering_live : is_live roles c ≡ true
  entering_live = sym (seen_live roles q up c) ∙ enters.raises.column

  pub is_next : (r : ℕ) → Leaves (is_restricted flags) (dictionary roles q) c r → IsNext roles flags q up (Exchange r c)
  is_next r l = (none, record { enters = enters; leaves = seen_leaves roles q flags free up c r l })

  pub is_open : ((z : ℕ) → Limits (is_restricted flags) (dictionary roles q) c z → ⊥) → IsNext roles flags q up (Ends (Crossing c))
  is_open n = inr (none, record { raises = enters.raises; no_limit = none_limits roles q flags free up c n })

-- ---- the columns along which the row falls
negated_length : (s : List Entry) → length (rows.negated s) ≡ length s
negated_length [] = refl
negated_length (m ∷ s) = ap suc (negated_length s)

negated_take : (i : ℕ) (s : List Entry) → take i (rows.negated s) ≡ rows.negated (take i s)
negated_take zero [] = refl
negated_take zero (m ∷ s) = refl
negated_take (suc i) [] = refl
negated_take (suc i) (m ∷ s) = ap (λ t. record { quantity = m.quantity; factor = neg_ℚ m.factor } ∷ t) (negated_take i s)

negated_get : (s : List Entry) (i : ℕ) (m : Entry) → i < length s → m ≡ get_or s i m
    → record { quantity = m.quantity; factor = neg_ℚ m.factor } ≡ get_or (rows.negated s) i (record { quantity = m.quantity; factor = neg_ℚ m.factor })
negated_get [] i m l e = absurd (omega (arith, l))
negated_get (n ∷ s) zero m l e = ap (λ (t : Entry). record { quantity = t.quantity; factor = neg_ℚ t.factor }) e
negated_get (n ∷ s) (suc i) m l e = negated_get s i m (omega (arith, l)) e

has_negated : (s : List Entry) (m : Entry) → rows.Has m s → rows.Has (record { quantity = m.quantity; factor = neg_ℚ m.factor }) (rows.negated s)
has_negated [] m h = absurd h
has_negated (n ∷ s) m (inl e) = inl (ap (λ (t : Entry). record { quantity = t.quantity; factor = neg_ℚ t.factor }) e)
has_negated (n ∷ s) m (inr h) = inr (has_negated s m h)

negated_from : (s : List Entry) (n : Entry) → rows.Has n (rows.negated s) → (m : Entry) × rows.Has m s × (n ≡ record { quantity = m.quantity; factor = neg_ℚ m.factor })
negated_from [] n h = absurd h
negated_from (x ∷ s) n (inl e) = (x, inl refl, e)
negated_from (x ∷ s) n (inr h) = let r = negated_from s n h in (r.0, inr r.1, r.2)

module _ (roles : List Role) (flags : List Bool) (q : ℕ) (own : Row) (at : IsAt roles q (Basic own)) (table : AreOverColumns roles) where
  pub first_falls : (i : ℕ) (m : Entry) → i < length own.live → m ≡ get_or own.live i m → rows.Has m own.live
      → ((n : Entry) → rows.Has n (take i own.live) → IsPositive (neg_ℚ n.factor) × (is_restricted flags n.quantity ≡ true) → ⊥)
      → IsPositive (neg_ℚ m.factor) × (is_restricted flags m.quantity ≡ true) → Enters (is_restricted flags) (dictionary (turned roles q) q) m.quantity
  first_falls i m l e h none r =
      first_enters (turned roles q) flags (turned_table roles q own at table) q (opposite_row own) (turned_at roles q (Basic own) at) i
      (record { quantity = m.quantity; factor = neg_ℚ m.factor }) (subst (λ k. i < k) (sym (negated_length own.live)) l) (negated_get own.live i m l e) (has_negated own.live m h)
      (λ n k f.
      let o = negated_from (take i own.live) n (subst (rows.Has n) (negated_take i own.live) k) in
      none o.0 o.1 (subst IsPositive (ap (λ (t : Entry). t.factor) o.2) f.0, subst (λ z. is_restricted flags z ≡ true) (ap (λ (t : Entry). t.quantity) o.2) f.1))
      r

  pub none_falls : ((m : Entry) → rows.Has m own.live → IsPositive (neg_ℚ m.factor) × (is_restricted flags m.quantity ≡ true) → ⊥) → (c : ℕ)
      → Raises (is_restricted flags) (dictionary (turned roles q) q) c → ⊥
  none_falls none =
      none_raises (turned roles q) flags (turned_table roles q own at table) q (opposite_row own) (turned_at roles q (Basic own) at)
      (λ n k f.
      let o = negated_from own.live n k in
      none o.0 o.1 (subst IsPositive (ap (λ (t : Entry). t.factor) o.2) f.0, subst (λ z. is_restricted flags z ≡ true) (ap (λ (t : Entry). t.quantity) o.2) f.1))

-- ---- the pair of a refusal that is told as a fault
pub refusal_of : (told : Refusal) (f : SimplexFault) (pair : Pair) → IsFaultOf told f → f ≡ Overflow pair → told ≡ of_refusal.Overflow pair
refusal_of (of_refusal.Overflow p) f pair h e = cc
refusal_of of_refusal.NoMemory f pair h e = cc

pub same_fault : {T : Type 0} (x y : SimplexFault) → ◌≡◌ {A = Result T SimplexFault} (Err x) (Err y) → x ≡ y
same_fault x y e = cc

-- ---- what the exchanges keep
pub record Approaches (q : ℕ) (up : Bool) (n : ℕ) (old now : DictValue) : Type 0 where
  pub flags : now.restricted ≡ old.restricted
  pub saved : now.saved ≡ old.saved
  pub room : old.room ≤ now.room
  pub table : AreOverColumns now.roles
  pub stays : StaysRow q old.roles old.restricted now.roles
  pub off : IsOff up now.roles q
  pub reached : IsReached old.restricted q (towards up old.roles q) n (towards up now.roles q)

pub begins_here : (q : ℕ) (up : Bool) (d : DictValue) → IsRow d.roles q → is_restricted d.restricted q ≡ false → IsOff up d.roles q
    → IsFeasible (is_restricted d.restricted) (dictionary d.roles q) → AreOverColumns d.roles → Approaches q up 0 d d
begins_here q up d row free off f table = record {
  flags = refl;
  saved = refl;
  room = omega arith;
  table = table;
  stays = stays_here q d.roles d.restricted row;
  off = off;
  reached = begins d.restricted q (towards up d.roles q) (seen_table d.roles q up row table) (seen_row d.roles q up row) (seen_feasible d.roles q d.restricted free up f);
}

-- what the exchanges of a climb keep
pub record Climbs (q : ℕ) (up : Bool) (old now : DictValue) : Type 0 where
  pub flags : now.restricted ≡ old.restricted
  pub saved : now.saved ≡ old.saved
  pub room : old.room ≤ now.room
  pub climbed : StaysOff q up old.roles old.restricted now.roles
